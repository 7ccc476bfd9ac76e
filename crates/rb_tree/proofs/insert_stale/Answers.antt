use native.Mathlib.Omega.{arith}
use mathlib.Core.Path.{refl}
use Rattle.runs.proofs.Testing.{decides-yes}
use Rattle.rb_tree.proofs.Asking.{held_at, tree-at, live-lt, free-is, there, entry_at, value-at, not_there, says-room, root_ok}
use Rattle.rb_tree.proofs.Keeping.{insert-same, present-fresh, absent-fresh, free-slot, no_room, some-room, replaced, added-fits, added}
use Rattle.rb_tree.proofs.insert_stale.Goals as goal

pub get-requires : goal.get-requires
get-requires c =
    tree-at c.header_of-h.ensures c.requires.sound.1

pub has_value-requires : goal.has_value-requires
has_value-requires c =
    entry_at c.header_of-h.ensures c.args.key.now c.get.ensures c.in-Some.is c.requires.sound.1

pub returns-then-has_value : goal.returns-then-has_value
returns-then-has_value c =
    λ m a.
    let h = c.header_of-h.ensures in
    let k = c.args.key.now in
    let g = c.get.ensures in
    let q = c.in-Some.is in
    let p = there h k g q a in
    (says-room k m p.1, insert-same k c.args.value.now a p.1 (value-at h k g q a (decides-yes _ c.if-has_value.true c.has_value.ensures)))

pub put-top-requires : goal.put-top-requires
put-top-requires c =
    let h = c.header_of-h.ensures in
    let k = c.args.key.now in
    let a = c.requires.sound.1 in
    let p = there h k c.get.ensures c.in-Some.is a in
    (c.requires.sound.0.tree, held_at h a, present-fresh k c.args.value.now a _ p.1 c.requires.key c.requires.value (λ i. omega (arith, c.type_inv.key i)) (λ i. omega (arith, c.type_inv.value i)))

pub set_root-requires : goal.set_root-requires
set_root-requires c =
    let h = c.header_of-h.ensures in
    let k = c.args.key.now in
    let a = c.requires.sound.1 in
    let p = there h k c.get.ensures c.in-Some.is a in
    let f = present-fresh k c.args.value.now a _ p.1 c.requires.key c.requires.value (λ i. omega (arith, c.type_inv.key i)) (λ i. omega (arith, c.type_inv.value i)) in
    let parts = root_ok a (c.put-top.ensures c.requires.sound.0.tree (held_at h a) f) in
    record { in_bounds = parts.0; x_bound = parts.1 }

pub returns-in-Some : goal.returns-in-Some
returns-in-Some c =
    λ m a.
    let h = c.header_of-h.ensures in
    let k = c.args.key.now in
    let v = c.args.value.now in
    let p = there h k c.get.ensures c.in-Some.is a in
    let f = present-fresh k v a _ p.1 c.requires.key c.requires.value (λ i. omega (arith, c.type_inv.key i)) (λ i. omega (arith, c.type_inv.value i)) in
    let b = c.put-top.ensures m.tree (held_at h a) f in
    (says-room k m p.1, replaced k v a (free-is _ h) b p.1 c.set_root.ensures c.requires.key c.requires.value)

pub returns-then-x-eq0 : goal.returns-then-x-eq0
returns-then-x-eq0 c =
    λ m a.
    let h = c.header_of-h.ensures in
    let k = c.args.key.now in
    (no_room k c.args.value.now a (free-is _ h) c.if-x-eq0.true (not_there h k c.get.ensures c.in_default.is a), refl, refl)

pub left-next-requires : goal.left-next-requires
left-next-requires c =
    free-slot c.args.key.now c.args.value.now c.requires.sound.1 (free-is _ c.header_of-h.ensures) c.if-x-eq0.false

pub put-top-requires-2 : goal.put-top-requires-2
put-top-requires-2 c =
    let h = c.header_of-h.ensures in
    let a = c.requires.sound.1 in
    (c.requires.sound.0.tree, held_at h a, absent-fresh c.args.key.now c.args.value.now a (free-is _ h) c.if-x-eq0.false c.requires.key c.requires.value (λ i. omega (arith, c.type_inv.key i)) (λ i. omega (arith, c.type_inv.value i)))

pub overflow_add-h : goal.overflow_add-h
overflow_add-h c =
    omega (arith, live-lt _ c.header_of-h.ensures)

pub set_header-requires : goal.set_header-requires
set_header-requires c =
    let h = c.header_of-h.ensures in
    let k = c.args.key.now in
    let v = c.args.value.now in
    let a = c.requires.sound.1 in
    let n = c.if-x-eq0.false in
    let f = absent-fresh k v a (free-is _ h) n c.requires.key c.requires.value (λ i. omega (arith, c.type_inv.key i)) (λ i. omega (arith, c.type_inv.value i)) in
    let b = c.put-top-2.ensures c.requires.sound.0.tree (held_at h a) f in
    record { in_bounds = (root_ok a b).0; header_fits = added-fits k v a (free-is _ h) b (not_there h k c.get.ensures c.in_default.is a) n h c.left-next.ensures c.requires.key c.requires.value }

pub returns : goal.returns
returns c =
    λ m a.
    let h = c.header_of-h.ensures in
    let k = c.args.key.now in
    let v = c.args.value.now in
    let n = c.if-x-eq0.false in
    let f = absent-fresh k v a (free-is _ h) n c.requires.key c.requires.value (λ i. omega (arith, c.type_inv.key i)) (λ i. omega (arith, c.type_inv.value i)) in
    let b = c.put-top-2.ensures m.tree (held_at h a) f in
    (some-room k v a (free-is _ h) n, added k v a (free-is _ h) b (not_there h k c.get.ensures c.in_default.is a) n h c.left-next.ensures c.set_header.ensures c.requires.key c.requires.value)
