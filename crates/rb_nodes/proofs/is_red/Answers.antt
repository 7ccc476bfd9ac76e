use Rattle.rb_nodes.proofs.Heap.{full-in, full-some}
use Rattle.rb_nodes.proofs.Colours.{red-none, red-some}
use Rattle.rb_nodes.proofs.is_red.Goals as goal

pub returns-then-h-eq0 : goal.returns-then-h-eq0
returns-then-h-eq0 c =
    red-none c.if-h-eq0.true

pub red-requires : goal.red-requires
red-requires c =
    full-in c.requires.0 c.requires.1 (full-some c.if-h-eq0.false c.requires.0 c.requires.1)

pub returns : goal.returns
returns c =
    red-some c.if-h-eq0.false c.red.ensures
