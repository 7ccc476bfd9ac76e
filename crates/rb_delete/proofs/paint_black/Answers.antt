use mathlib.Core.Bool.{false}
use Rattle.rb_nodes.proofs.Heap.{full-in, full-some}
use Rattle.rb_nodes.proofs.Steps.{painted}
use Rattle.rb_delete.proofs.Deleting.{paint-black-none}
use Rattle.rb_delete.proofs.paint_black.Goals as goal

pub returns-then-h-eq0 : goal.returns-then-h-eq0
returns-then-h-eq0 c =
    paint-black-none c.if-h-eq0.true

pub set_red-requires : goal.set_red-requires
set_red-requires c =
    full-in c.requires.0 c.requires.1 (full-some c.if-h-eq0.false c.requires.0 c.requires.1)

pub returns : goal.returns
returns c =
    λ t a. painted false t a (full-some c.if-h-eq0.false t a) c.set_red.ensures
