use mathlib.Core.Path.{sym}
use Rattle.whole_store.proofs.Fresh.{next_last, next-on}
use Rattle.whole_store.proofs.next.Goals as goal

pub returns-then-x-cap : goal.returns-then-x-cap
returns-then-x-cap c =
    sym (next_last c.args.cap c.args.x c.if-x-cap.true)

pub returns-else-x-cap : goal.returns-else-x-cap
returns-else-x-cap c =
    sym (next-on c.args.cap c.args.x c.if-x-cap.false)
