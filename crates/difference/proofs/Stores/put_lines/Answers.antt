use mathlib.Core.Path.{ap}
use native.Mathlib.Omega.{arith}
use lib.ListN.{length}
use Rattle.difference.proofs.Saving.{put-room, put-line, put-end}
use Rattle.difference.proofs.Stores.put_lines.Goals as goal

pub put_line-end-requires : goal.put_line-end-requires
put_line-end-requires c =
    (c.key.ensures.short, omega (arith, put-room c.loop-line.invariant c.in-Some.ensures c.requires.room, ap length c.key.ensures.is))

pub loop-line-preserved : goal.loop-line-preserved
loop-line-preserved c =
    put-line c.loop-line.invariant c.in-Some.ensures (rw c.key.ensures.is at c.put_line-end.ensures)

pub returns : goal.returns
returns c = put-end c.loop-line.invariant c.in_default.ensures
