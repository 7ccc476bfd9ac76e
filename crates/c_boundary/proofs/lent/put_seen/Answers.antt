use mathlib.Core.Path.{ap}
use Rattle.c_boundary.specs.Lent.{asked, asked_to}
use Rattle.c_boundary.proofs.Putting.{refusal-number}
use Rattle.c_boundary.proofs.lent.put_seen.Goals as goal

pub returns-in-Ok : goal.returns-in-Ok
unfolding asked_to
returns-in-Ok c =
    rw c.in-Ok.is (ap (asked _) c.seen_of-seen.ensures)

pub returns-in-Err : goal.returns-in-Err
unfolding asked_to
returns-in-Err c =
    rw (c.in-Err.is, c.number.ensures, refusal-number c.in-Err.r)
