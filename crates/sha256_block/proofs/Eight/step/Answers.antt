use Rattle.sha256_words.specs.Constants.{K}
use Rattle.sha256_block.proofs.Ring.{stepped}
use Rattle.std.proofs.Common.{refl, set, ap, arith}
use Rattle.sha256_block.proofs.Eight.step.Goals as goal

pub returns : goal.returns
unfolding K
returns c m S d =
    stepped _ d (omega arith) refl c.round-s.ensures (ap (set c.args.w.now _) c.next_word.ensures)
