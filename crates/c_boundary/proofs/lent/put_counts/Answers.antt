use Rattle.c_boundary.specs.Lent.{replayed_to}
use Rattle.c_boundary.proofs.Putting.{refusal-number}
use Rattle.c_boundary.proofs.lent.put_counts.Goals as goal

pub returns-in-Ok : goal.returns-in-Ok
unfolding replayed_to
returns-in-Ok c s =
    rw c.in-Ok.is

pub returns-in-Err : goal.returns-in-Err
unfolding replayed_to
returns-in-Err c s =
    rw (c.in-Err.is, c.number.ensures, refusal-number c.in-Err.r)
