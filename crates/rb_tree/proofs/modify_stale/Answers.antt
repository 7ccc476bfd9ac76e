use native.Mathlib.Omega.{arith}
use mathlib.Core.Path.{refl}
use Rattle.runs.proofs.Testing.{decides-yes}
use Rattle.rb_tree.proofs.Asking.{held_at, tree-at, root_is, there, entry_at, value-at, not_there, says-absent, says-present}
use Rattle.rb_tree.proofs.Keeping.{modify-same}
use Rattle.rb_tree.proofs.Removing.{changed}
use Rattle.rb_tree.proofs.modify_stale.Goals as goal

pub get-requires : goal.get-requires
get-requires c =
    tree-at c.header_of-root.ensures c.requires.0.1

pub returns-in_default : goal.returns-in_default
returns-in_default c =
    λ m a. (says-absent c.args.key.now m (not_there c.header_of-root.ensures c.args.key.now c.get.ensures c.in_default.is a), refl, refl)

pub has_value-requires : goal.has_value-requires
has_value-requires c =
    entry_at c.header_of-root.ensures c.args.key.now c.get.ensures c.in-Some.is c.requires.0.1

pub returns-then-has_value : goal.returns-then-has_value
returns-then-has_value c =
    λ m a.
    let h = c.header_of-root.ensures in
    let k = c.args.key.now in
    let g = c.get.ensures in
    let q = c.in-Some.is in
    let p = there h k g q a in
    (says-present k m p.1, modify-same k c.args.value.now a p.1 (value-at h k g q a (decides-yes _ c.if-has_value.true c.has_value.ensures)))

pub modify_go-requires : goal.modify_go-requires
modify_go-requires c =
    (c.requires.0.0.tree, held_at c.header_of-root.ensures c.requires.0.1, c.requires.1, λ i. omega (arith, c.type_inv.value i))

pub returns : goal.returns
returns c =
    λ m a.
    let h = c.header_of-root.ensures in
    let k = c.args.key.now in
    let b = c.modify_go.ensures m.tree (held_at h a) c.requires.1 (λ i. omega (arith, c.type_inv.value i)) in
    (says-present k m (there h k c.get.ensures c.in-Some.is a).1, changed k c.args.value.now a (root_is _ h) b c.requires.1)
