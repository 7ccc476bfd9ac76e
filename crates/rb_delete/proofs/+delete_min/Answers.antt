use mathlib.Core.Path.{refl, ◌∙◌}
use Rattle.rb_nodes.proofs.Heap.{full-in}
use Rattle.rb_delete.proofs.Inverse.{min-full}
use Rattle.rb_delete.proofs.Cutting.{min-gone, min-way, min-in, min-call, min-link, min-can, min-done, some-entry}
use Rattle.rb_delete.proofs.+delete_min.Goals as goal

pub left-l-requires : goal.left-l-requires
left-l-requires t c =
    full-in c.requires.0 c.requires.1 (min-full c.requires.2 c.requires.0 c.requires.3 c.requires.4)

pub shape_of-s-then-l-eq0 : goal.shape_of-s-then-l-eq0
shape_of-s-then-l-eq0 t c =
    refl

pub returns-then-l-eq0 : goal.returns-then-l-eq0
returns-then-l-eq0 t c =
    λ t u n d a w. min-gone t u n d a c.left-l.ensures c.if-l-eq0.true w

pub ready_left-g-requires : goal.ready_left-g-requires
ready_left-g-requires t c =
    let i = min-way c.requires.0 c.requires.3 c.requires.2 c.requires.1 c.left-l.ensures c.if-l-eq0.false c.requires.4 in (c.requires.0, c.requires.1, i.1.v, i.1.ready)

pub left-m-requires : goal.left-m-requires
left-m-requires t c =
    min-in c.requires.1 (min-way c.requires.0 c.requires.3 c.requires.2 c.requires.1 c.left-l.ensures c.if-l-eq0.false c.requires.4) c.ready_left-g.ensures

pub delete_min-p-requires : goal.delete_min-p-requires
delete_min-p-requires t c =
    min-call c.requires.1 (min-way c.requires.0 c.requires.3 c.requires.2 c.requires.1 c.left-l.ensures c.if-l-eq0.false c.requires.4) c.ready_left-g.ensures c.left-m.ensures c.decreases

pub set_left-requires : goal.set_left-requires
set_left-requires t c =
    let parts = min-link c.requires.1 (min-way c.requires.0 c.requires.3 c.requires.2 c.requires.1 c.left-l.ensures c.if-l-eq0.false c.requires.4) c.ready_left-g.ensures c.left-m.ensures c.delete_min-p.ensures some-entry in
    record { has_slot = parts.0; x_bound = parts.1 }

pub update_and_balance-requires : goal.update_and_balance-requires
update_and_balance-requires t c =
    min-can c.requires.1 (min-way c.requires.0 c.requires.3 c.requires.2 c.requires.1 c.left-l.ensures c.if-l-eq0.false c.requires.4) c.ready_left-g.ensures c.left-m.ensures c.delete_min-p.ensures some-entry c.set_left.ensures

pub shape_of-s : goal.shape_of-s
shape_of-s t c =
    c.update_and_balance.auto.s ∙ c.set_left.auto.s ∙ c.delete_min-p.auto.s ∙ c.ready_left-g.auto.s

pub returns : goal.returns
returns t c =
    λ t u n d a w. min-done a (min-way t u n a c.left-l.ensures c.if-l-eq0.false w) c.ready_left-g.ensures c.left-m.ensures c.delete_min-p.ensures d c.set_left.ensures c.update_and_balance.ensures
