use Rattle.parts.proofs.Climbing.{digest-empty, digest-leaf, digest-pruned}
use Rattle.hash_tree.specs.declared.Kind.{Kind}
use Rattle.hash_tree.specs.declared.Kind.TheVariants.{Empty, Fork, Labeled, Leaf, Pruned}
use Rattle.hash_tree.specs.Record.{kind_number}
use borrow.Author.Rules.{rules}
use mathlib.Core.Path.{◌≡◌, sym, ap, ◌∙◌, refl}
use native.Mathlib.Omega.{arith}
use Rattle.parts.specs.Layout.{part}
use Rattle.parts.proofs.single.Goals as goal

is_empty : (kind : Kind) → kind_number kind ≡ 0 → kind ≡ Empty
is_empty Empty e = refl
is_empty Fork e = absurd (omega (arith, e))
is_empty Labeled e = absurd (omega (arith, e))
is_empty Leaf e = absurd (omega (arith, e))
is_empty Pruned e = absurd (omega (arith, e))

is_leaf : (kind : Kind) → kind_number kind ≡ 3 → kind ≡ Leaf
is_leaf Empty e = absurd (omega (arith, e))
is_leaf Fork e = absurd (omega (arith, e))
is_leaf Labeled e = absurd (omega (arith, e))
is_leaf Leaf e = refl
is_leaf Pruned e = absurd (omega (arith, e))

pub returns-in-Empty : goal.returns-in-Empty
returns-in-Empty c =
    c.empty_hash.ensures ∙ sym (digest-empty c.args.s.now _ c.args.len (ap kind_number c.in-Empty.is))

pub returns-in-Leaf : goal.returns-in-Leaf
returns-in-Leaf c =
    let e = ap kind_number c.in-Leaf.is in
    c.leaf_hash.ensures ∙ sym (digest-leaf c.args.s.now _ c.args.len (λ z. omega (arith, z, e)) e)

pub returns-in_default : goal.returns-in_default
returns-in_default c =
    let e : c.unwrap.result ≡ part 6 32 c.args.s.now = search rules in
    e ∙ sym (digest-pruned c.args.s.now _ c.args.len (λ z. c.in_default.not-Empty (is_empty _ z)) (λ z. c.in_default.not-Leaf (is_leaf _ z)))
