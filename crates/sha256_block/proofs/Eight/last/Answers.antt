use Rattle.sha256_words.specs.Constants.{K}
use Rattle.sha256_block.proofs.Ring.{lasted}
use Rattle.std.proofs.Common.{refl, arith}
use Rattle.sha256_block.proofs.Eight.last.Goals as goal

pub returns : goal.returns
unfolding K
returns c m S d = lasted _ d (omega arith) (omega arith) refl c.round.ensures
