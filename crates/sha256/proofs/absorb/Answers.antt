use Rattle.sha256.specs.Hash.{hash_value}
use Rattle.sha256.proofs.Blocks.{chunk}
use Rattle.sha256_block.specs.Rounds.{Compress}
use Rattle.std.proofs.Common.{List, ℕ, [], length, get_or, refl, ap, ◌∙◌, ap₂, add-one}
use Rattle.sha256.proofs.absorb.Goals as goal

pub loop-block-init : goal.loop-block-init
unfolding hash_value
loop-block-init c p e = refl

pub loop-block-preserved : goal.loop-block-preserved
unfolding hash_value
loop-block-preserved c p e =
    let l = c.loop-block in
    let b = ap (λ (xs : List (List ℕ)). get_or xs l.block-index []) e ∙ chunk p (length c.args.blocks.now) l.block-index c.loop-block-test.true in
    rw add-one (c.compress-s.ensures ∙ ap₂ Compress (l.invariant p e) b)
