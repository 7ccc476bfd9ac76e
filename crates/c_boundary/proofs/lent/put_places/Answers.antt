use Rattle.c_boundary.specs.Lent.{found_to}
use Rattle.c_boundary.proofs.Putting.{refusal-number}
use Rattle.c_boundary.proofs.lent.put_places.Goals as goal

pub returns-in-Ok : goal.returns-in-Ok
unfolding found_to
returns-in-Ok c =
    rw c.in-Ok.is

pub returns-in-Err : goal.returns-in-Err
unfolding found_to
returns-in-Err c =
    rw (c.in-Err.is, c.number.ensures, refusal-number c.in-Err.r)
