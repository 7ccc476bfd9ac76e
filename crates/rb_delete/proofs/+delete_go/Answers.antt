use mathlib.Core.Path.{◌∙◌}
use Rattle.rb_nodes.proofs.Comparing.{is-less, not-less, is-equal, not_equal}
use Rattle.rb_delete.proofs.Inverse.{go-full}
use Rattle.rb_delete.proofs.Going.{go-left-way, go-right-way, l-in, l-call, l-link, l-can, l-done, r-in, r-gone, r-can-ready, r-tree, r-here, r-next, r-pulled, r-call, r-link, r-can, r-done}
use Rattle.rb_delete.proofs.+delete_go.Goals as goal

pub compare_key-requires : goal.compare_key-requires
compare_key-requires t c =
    (c.requires.0, c.requires.1, (go-full c.requires.2 c.args.key.now c.requires.0 c.requires.3 c.requires.4))

pub ready_left-g-requires : goal.ready_left-g-requires
ready_left-g-requires t c =
    let i = (go-left-way c.args.key.now c.compare_key.ensures (is-less _ c.is_lt.ensures c.if-is_lt.true) c.requires.0 c.requires.3 c.requires.2 c.requires.1 c.requires.4) in (c.requires.0, c.requires.1, i.1.v, i.1.ready)

pub left-l-requires : goal.left-l-requires
left-l-requires t c =
    l-in c.args.key.now c.requires.1 (go-left-way c.args.key.now c.compare_key.ensures (is-less _ c.is_lt.ensures c.if-is_lt.true) c.requires.0 c.requires.3 c.requires.2 c.requires.1 c.requires.4) c.ready_left-g.ensures

pub delete_go-c-requires : goal.delete_go-c-requires
delete_go-c-requires t c =
    l-call c.args.key.now c.requires.1 (go-left-way c.args.key.now c.compare_key.ensures (is-less _ c.is_lt.ensures c.if-is_lt.true) c.requires.0 c.requires.3 c.requires.2 c.requires.1 c.requires.4) c.ready_left-g.ensures c.left-l.ensures c.decreases

pub set_left-requires : goal.set_left-requires
set_left-requires t c =
    let parts = l-link c.args.key.now c.requires.1 (go-left-way c.args.key.now c.compare_key.ensures (is-less _ c.is_lt.ensures c.if-is_lt.true) c.requires.0 c.requires.3 c.requires.2 c.requires.1 c.requires.4) c.ready_left-g.ensures c.left-l.ensures _ c.delete_go-c.ensures in
    record { has_slot = parts.0; x_bound = parts.1 }

pub update_and_balance-top-requires : goal.update_and_balance-top-requires
update_and_balance-top-requires t c =
    l-can c.args.key.now c.requires.1 (go-left-way c.args.key.now c.compare_key.ensures (is-less _ c.is_lt.ensures c.if-is_lt.true) c.requires.0 c.requires.3 c.requires.2 c.requires.1 c.requires.4) c.ready_left-g.ensures c.left-l.ensures _ c.delete_go-c.ensures c.set_left.ensures

pub shape_of-s-then-is_lt : goal.shape_of-s-then-is_lt
shape_of-s-then-is_lt t c =
    c.update_and_balance-top.auto.s ∙ c.set_left.auto.s ∙ c.delete_go-c.auto.s ∙ c.ready_left-g.auto.s

pub returns-then-is_lt : goal.returns-then-is_lt
returns-then-is_lt t c =
    λ t u n a w. l-done c.args.key.now a (go-left-way c.args.key.now c.compare_key.ensures (is-less _ c.is_lt.ensures c.if-is_lt.true) t u n a w) c.ready_left-g.ensures c.left-l.ensures _ c.delete_go-c.ensures c.set_left.ensures c.update_and_balance-top.ensures

pub lean_right-v-requires : goal.lean_right-v-requires
lean_right-v-requires t c =
    let i = (go-right-way c.args.key.now c.compare_key.ensures (not-less _ c.is_lt.ensures c.if-is_lt.false) c.requires.0 c.requires.3 c.requires.2 c.requires.1 c.requires.4) in (c.requires.0, c.requires.1, (go-full c.requires.2 c.args.key.now c.requires.0 c.requires.3 c.requires.4), i.v, i.lean)

pub right-r-requires : goal.right-r-requires
right-r-requires t c =
    r-in c.args.key.now c.requires.1 (go-full c.requires.2 c.args.key.now c.requires.0 c.requires.3 c.requires.4) (go-right-way c.args.key.now c.compare_key.ensures (not-less _ c.is_lt.ensures c.if-is_lt.false) c.requires.0 c.requires.3 c.requires.2 c.requires.1 c.requires.4) c.lean_right-v.ensures

pub shape_of-s-then-r-eq0 : goal.shape_of-s-then-r-eq0
shape_of-s-then-r-eq0 t c =
    c.lean_right-v.auto.s

pub returns-then-r-eq0 : goal.returns-then-r-eq0
returns-then-r-eq0 t c =
    λ t u n a w. r-gone c.args.key.now a (go-full n c.args.key.now t u w) (go-right-way c.args.key.now c.compare_key.ensures (not-less _ c.is_lt.ensures c.if-is_lt.false) t u n a w) c.lean_right-v.ensures c.right-r.ensures c.if-r-eq0.true

pub ready_right-x-requires : goal.ready_right-x-requires
ready_right-x-requires t c =
    r-can-ready c.args.key.now c.requires.1 (go-full c.requires.2 c.args.key.now c.requires.0 c.requires.3 c.requires.4) (go-right-way c.args.key.now c.compare_key.ensures (not-less _ c.is_lt.ensures c.if-is_lt.false) c.requires.0 c.requires.3 c.requires.2 c.requires.1 c.requires.4) c.lean_right-v.ensures c.right-r.ensures c.if-r-eq0.false

pub compare_key-requires-2 : goal.compare_key-requires-2
compare_key-requires-2 t c =
    r-tree c.args.key.now c.requires.1 (go-full c.requires.2 c.args.key.now c.requires.0 c.requires.3 c.requires.4) (go-right-way c.args.key.now c.compare_key.ensures (not-less _ c.is_lt.ensures c.if-is_lt.false) c.requires.0 c.requires.3 c.requires.2 c.requires.1 c.requires.4) c.lean_right-v.ensures c.right-r.ensures c.if-r-eq0.false c.ready_right-x.ensures

pub pull_next-requires : goal.pull_next-requires
pull_next-requires t c =
    r-next c.args.key.now c.requires.1 (go-full c.requires.2 c.args.key.now c.requires.0 c.requires.3 c.requires.4) (go-right-way c.args.key.now c.compare_key.ensures (not-less _ c.is_lt.ensures c.if-is_lt.false) c.requires.0 c.requires.3 c.requires.2 c.requires.1 c.requires.4) c.lean_right-v.ensures c.right-r.ensures c.if-r-eq0.false c.ready_right-x.ensures c.compare_key-2.ensures (is-equal _ c.is_eq.ensures c.if-is_eq.true)

pub shape_of-s-then-is_eq : goal.shape_of-s-then-is_eq
shape_of-s-then-is_eq t c =
    c.pull_next.auto.s ∙ c.ready_right-x.auto.s ∙ c.lean_right-v.auto.s

pub returns-then-is_eq : goal.returns-then-is_eq
returns-then-is_eq t c =
    λ t u n a w. r-pulled c.args.key.now a (go-full n c.args.key.now t u w) (go-right-way c.args.key.now c.compare_key.ensures (not-less _ c.is_lt.ensures c.if-is_lt.false) t u n a w) c.lean_right-v.ensures c.right-r.ensures c.if-r-eq0.false c.ready_right-x.ensures c.compare_key-2.ensures (is-equal _ c.is_eq.ensures c.if-is_eq.true) _ c.pull_next.ensures

pub right-q-requires : goal.right-q-requires
right-q-requires t c =
    r-here c.args.key.now c.requires.1 (go-full c.requires.2 c.args.key.now c.requires.0 c.requires.3 c.requires.4) (go-right-way c.args.key.now c.compare_key.ensures (not-less _ c.is_lt.ensures c.if-is_lt.false) c.requires.0 c.requires.3 c.requires.2 c.requires.1 c.requires.4) c.lean_right-v.ensures c.right-r.ensures c.if-r-eq0.false c.ready_right-x.ensures

pub delete_go-c-requires-2 : goal.delete_go-c-requires-2
delete_go-c-requires-2 t c =
    r-call c.args.key.now c.requires.1 (go-full c.requires.2 c.args.key.now c.requires.0 c.requires.3 c.requires.4) (go-right-way c.args.key.now c.compare_key.ensures (not-less _ c.is_lt.ensures c.if-is_lt.false) c.requires.0 c.requires.3 c.requires.2 c.requires.1 c.requires.4) c.lean_right-v.ensures c.right-r.ensures c.if-r-eq0.false c.ready_right-x.ensures c.compare_key-2.ensures (not_equal _ c.is_eq.ensures c.if-is_eq.false) c.right-q.ensures c.decreases

pub set_right-requires : goal.set_right-requires
set_right-requires t c =
    let parts = r-link c.args.key.now c.requires.1 (go-full c.requires.2 c.args.key.now c.requires.0 c.requires.3 c.requires.4) (go-right-way c.args.key.now c.compare_key.ensures (not-less _ c.is_lt.ensures c.if-is_lt.false) c.requires.0 c.requires.3 c.requires.2 c.requires.1 c.requires.4) c.lean_right-v.ensures c.right-r.ensures c.if-r-eq0.false c.ready_right-x.ensures c.compare_key-2.ensures (not_equal _ c.is_eq.ensures c.if-is_eq.false) c.right-q.ensures _ c.delete_go-c-2.ensures in
    record { has_slot = parts.0; x_bound = parts.1 }

pub update_and_balance-top-requires-2 : goal.update_and_balance-top-requires-2
update_and_balance-top-requires-2 t c =
    r-can c.args.key.now c.requires.1 (go-full c.requires.2 c.args.key.now c.requires.0 c.requires.3 c.requires.4) (go-right-way c.args.key.now c.compare_key.ensures (not-less _ c.is_lt.ensures c.if-is_lt.false) c.requires.0 c.requires.3 c.requires.2 c.requires.1 c.requires.4) c.lean_right-v.ensures c.right-r.ensures c.if-r-eq0.false c.ready_right-x.ensures c.compare_key-2.ensures (not_equal _ c.is_eq.ensures c.if-is_eq.false) c.right-q.ensures _ c.delete_go-c-2.ensures c.set_right.ensures

pub shape_of-s : goal.shape_of-s
shape_of-s t c =
    c.update_and_balance-top-2.auto.s ∙ c.set_right.auto.s ∙ c.delete_go-c-2.auto.s ∙ c.ready_right-x.auto.s ∙ c.lean_right-v.auto.s

pub returns : goal.returns
returns t c =
    λ t u n a w. r-done c.args.key.now a (go-full n c.args.key.now t u w) (go-right-way c.args.key.now c.compare_key.ensures (not-less _ c.is_lt.ensures c.if-is_lt.false) t u n a w) c.lean_right-v.ensures c.right-r.ensures c.if-r-eq0.false c.ready_right-x.ensures c.compare_key-2.ensures (not_equal _ c.is_eq.ensures c.if-is_eq.false) c.right-q.ensures _ c.delete_go-c-2.ensures c.set_right.ensures c.update_and_balance-top-2.ensures
