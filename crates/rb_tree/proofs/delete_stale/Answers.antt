use native.Mathlib.Omega.{arith}
use mathlib.Core.Path.{refl}
use Rattle.store.proofs.Operating.{tree-lawful}
use Rattle.rb_tree.proofs.Asking.{held_at, tree-at, live-is, free-is, free-lt, there, not_there, says-absent, says-present}
use Rattle.rb_tree.proofs.Removing.{freed-in, some-live, cut-eight, cut_fits, removed}
use Rattle.rb_tree.proofs.delete_stale.Goals as goal

pub get-requires : goal.get-requires
get-requires c =
    tree-at c.header_of-h.ensures c.requires.1

pub returns-in_default : goal.returns-in_default
returns-in_default c =
    λ m a. (says-absent c.args.key.now m (not_there c.header_of-h.ensures c.args.key.now c.get.ensures c.in_default.is a), refl, refl)

pub cut_out-c-requires : goal.cut_out-c-requires
cut_out-c-requires c =
    let h = c.header_of-h.ensures in
    let p = there h c.args.key.now c.get.ensures c.in-Some.is c.requires.1 in
    (c.requires.0.tree, held_at h c.requires.1, tree-lawful c.requires.1.lawful, p.0, p.1)

pub clear_slot-requires : goal.clear_slot-requires
clear_slot-requires c =
    let h = c.header_of-h.ensures in
    let k = c.args.key.now in
    let a = c.requires.1 in
    let p = there h k c.get.ensures c.in-Some.is a in
    record { has_slot = freed-in k _ a p.1 (c.cut_out-c.ensures c.requires.0.tree p.0 (held_at h a) (tree-lawful a.lawful) p.1); next_bound = free-lt _ h }

pub overflow_sub-h : goal.overflow_sub-h
overflow_sub-h c =
    let h = c.header_of-h.ensures in
    let k = c.args.key.now in
    let a = c.requires.1 in
    let p = there h k c.get.ensures c.in-Some.is a in
    omega (arith, some-live k _ a p.1 (c.cut_out-c.ensures c.requires.0.tree p.0 (held_at h a) (tree-lawful a.lawful) p.1), live-is _ h)

pub set_header-requires : goal.set_header-requires
set_header-requires c =
    let h = c.header_of-h.ensures in
    let k = c.args.key.now in
    let a = c.requires.1 in
    let p = there h k c.get.ensures c.in-Some.is a in
    let b = c.cut_out-c.ensures c.requires.0.tree p.0 (held_at h a) (tree-lawful a.lawful) p.1 in
    record { in_bounds = cut-eight k _ a p.1 b (free-is _ h) c.clear_slot.ensures; header_fits = cut_fits k _ a p.1 b (free-is _ h) c.clear_slot.ensures h }

pub returns : goal.returns
returns c =
    λ m a.
    let h = c.header_of-h.ensures in
    let k = c.args.key.now in
    let p = there h k c.get.ensures c.in-Some.is a in
    let b = c.cut_out-c.ensures m.tree p.0 (held_at h a) (tree-lawful a.lawful) p.1 in
    (says-present k m p.1, removed k _ a p.1 b (free-is _ h) c.clear_slot.ensures h c.set_header.ensures)
