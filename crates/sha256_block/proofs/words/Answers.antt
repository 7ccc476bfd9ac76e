use Rattle.sha256_block.proofs.Ring.{snoc}
use Rattle.sha256_block.specs.Rounds.{block_words}
use Rattle.std.proofs.Common.{refl, ◌∙◌, add-one, arith, length-set}
use Rattle.sha256_block.proofs.words.Goals as goal

pub loop-t-init : goal.loop-t-init
unfolding block_words
loop-t-init c = (refl, refl)

pub loop-t-preserved : goal.loop-t-preserved
unfolding block_words
loop-t-preserved c =
    let l = c.loop-t in
    (length-set l.w l.t _ ∙ l.invariant.0, rw add-one (rw add-one at (snoc l.w l.t _ (omega arith) l.invariant.1 c.word_at.ensures)))
