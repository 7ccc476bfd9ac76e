use mathlib.Core.Path.{refl, ◌∙◌}
use Rattle.rb_nodes.proofs.Heap.{has-len}
use Rattle.rb_balance.proofs.Turning.{left-facts, left-done}
use Rattle.rb_balance.proofs.rotate_left.Goals as goal

pub right-x-requires : goal.right-x-requires
right-x-requires c =
    (left-facts refl refl c.requires.0 c.requires.2 c.requires.1 c.requires.3).h-in

pub left-y-requires : goal.left-y-requires
left-y-requires c =
    (left-facts c.right-x.ensures refl c.requires.0 c.requires.2 c.requires.1 c.requires.3).x-in

pub red-color-requires : goal.red-color-requires
red-color-requires c =
    (left-facts refl refl c.requires.0 c.requires.2 c.requires.1 c.requires.3).h-in

pub set_right-requires : goal.set_right-requires
set_right-requires c =
    let f = left-facts c.right-x.ensures c.left-y.ensures c.requires.0 c.requires.2 c.requires.1 c.requires.3 in
    record { has_slot = f.h-in; x_bound = f.y-lt }

pub set_left-requires : goal.set_left-requires
set_left-requires c =
    let f = left-facts c.right-x.ensures c.left-y.ensures c.requires.0 c.requires.2 c.requires.1 c.requires.3 in
    record { has_slot = has-len c.set_right.auto.s f.x-in; x_bound = f.h-in.high }

pub set_red-requires : goal.set_red-requires
set_red-requires c =
    has-len (c.set_left.auto.s ∙ c.set_right.auto.s) (left-facts c.right-x.ensures c.left-y.ensures c.requires.0 c.requires.2 c.requires.1 c.requires.3).x-in

pub set_red-requires-2 : goal.set_red-requires-2
set_red-requires-2 c =
    has-len (c.set_red.auto.s ∙ c.set_left.auto.s ∙ c.set_right.auto.s) (left-facts c.right-x.ensures c.left-y.ensures c.requires.0 c.requires.2 c.requires.1 c.requires.3).h-in

pub mark_stale-requires : goal.mark_stale-requires
mark_stale-requires c =
    has-len (c.set_red-2.auto.s ∙ c.set_red.auto.s ∙ c.set_left.auto.s ∙ c.set_right.auto.s) (left-facts refl refl c.requires.0 c.requires.2 c.requires.1 c.requires.3).h-in

pub mark_stale-requires-2 : goal.mark_stale-requires-2
mark_stale-requires-2 c =
    has-len (c.mark_stale.auto.s ∙ c.set_red-2.auto.s ∙ c.set_red.auto.s ∙ c.set_left.auto.s ∙ c.set_right.auto.s) (left-facts c.right-x.ensures refl c.requires.0 c.requires.2 c.requires.1 c.requires.3).x-in

pub returns : goal.returns
returns c =
    left-done c.right-x.ensures c.left-y.ensures c.red-color.ensures c.set_right.ensures c.set_left.ensures c.set_red.ensures c.set_red-2.ensures c.mark_stale.ensures c.mark_stale-2.ensures
