use Rattle.std.proofs.Common.{ℕ, get_or, arith}
use Rattle.std.proofs.lemmas.List.{get_or_default}
use Rattle.std.proofs.lemmas.List.Edits.{map_over_more}
use Rattle.text.specs.Words.{unblank_of}
use Rattle.text.proofs.words.blanked.Goals as goal

pub loop-b-preserved : goal.loop-b-preserved
loop-b-preserved c =
    let b : ℕ = get_or c.loop-b.s c.loop-b.b-index 0 in
    rw c.unblank.ensures (map_over_more unblank_of c.args.s.now c.loop-b.s c.loop-b.b-index b c.loop-b-test.true c.loop-b.invariant (get_or_default c.loop-b.s c.loop-b.b-index 0 b (omega arith)))
