use Rattle.parts.specs.Layout.{begun}
use Rattle.parts.proofs.rebuild_begin.Goals as goal

pub returns : goal.returns
unfolding begun
returns c = c.put_heading.ensures
