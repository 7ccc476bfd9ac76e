use mathlib.Core.Path.{refl, ◌∙◌}
use Rattle.rb_nodes.proofs.Heap.{has-len}
use Rattle.rb_balance.proofs.Flipping.{flip-facts, flip-done}
use Rattle.rb_balance.proofs.flip_colors.Goals as goal

pub left-l-requires : goal.left-l-requires
left-l-requires c =
    (flip-facts refl refl c.requires.0 c.requires.2 c.requires.1 c.requires.3).h-in

pub right-r-requires : goal.right-r-requires
right-r-requires c =
    (flip-facts refl refl c.requires.0 c.requires.2 c.requires.1 c.requires.3).h-in

pub flip-requires : goal.flip-requires
flip-requires c =
    (flip-facts refl refl c.requires.0 c.requires.2 c.requires.1 c.requires.3).h-in

pub flip-requires-2 : goal.flip-requires-2
flip-requires-2 c =
    has-len c.flip.auto.s (flip-facts c.left-l.ensures c.right-r.ensures c.requires.0 c.requires.2 c.requires.1 c.requires.3).l-in

pub flip-requires-3 : goal.flip-requires-3
flip-requires-3 c =
    has-len (c.flip-2.auto.s ∙ c.flip.auto.s) (flip-facts c.left-l.ensures c.right-r.ensures c.requires.0 c.requires.2 c.requires.1 c.requires.3).r-in

pub returns : goal.returns
returns c =
    flip-done c.left-l.ensures c.right-r.ensures c.flip.ensures c.flip-2.ensures c.flip-3.ensures
