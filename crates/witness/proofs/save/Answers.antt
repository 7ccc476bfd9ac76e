use Rattle.witness_walks.specs.declared.Part.TheVariants.{Walked}
use Rattle.witness.specs.Putting.{bytes_below}
use Rattle.witness.proofs.Saving.{front-put}
use Rattle.witness.proofs.save.Goals as goal

pub returns : goal.returns
returns c =
    λ t L.
    let w = bytes_below c.args.s.now c.args.f (Walked c.args.walk) t in
    let h = rw (rw c.in_ok-ok_or.was at c.ok_or.ensures.ok_part) at (c.fit.ensures t L) in
    front-put w h.0 (c.write_tree.ensures t L)
