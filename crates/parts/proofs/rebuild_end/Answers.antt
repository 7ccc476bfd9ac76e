use Rattle.parts.proofs.Doing.{parts_whole, end_refused}
use borrow.Author.Rules.{rules}
use mathlib.Core.Path.{◌≡◌}
use Rattle.parts.specs.Layout.{part}
use Rattle.parts.proofs.rebuild_end.Goals as goal

pub returns-then-state-eq-WHOLE : goal.returns-then-state-eq-WHOLE
returns-then-state-eq-WHOLE c =
    let e : c.unwrap.result ≡ part 4 32 c.args.state.now = search rules in
    rw (parts_whole c.args.state.now c.if-state-eq-WHOLE.true, e)

pub returns-else-state-eq-WHOLE : goal.returns-else-state-eq-WHOLE
returns-else-state-eq-WHOLE c =
    end_refused c.args.state.now c.if-state-eq-WHOLE.false
