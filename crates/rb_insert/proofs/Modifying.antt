-- modify: what each branch asks of its calls, and what it leaves.
use mathlib.Core.Path.{◌≡◌, refl, sym, subst, ◌∙◌}
use mathlib.Core.List.{List}
use Prim.Native.Nat.{ℕ, ◌≤◌, ◌<◌}
use native.Mathlib.Omega.{arith}
use lib.ListN.{length}
use Rattle.std.specs.declared.cmp.Ordering.{Ordering}
use Rattle.std.specs.declared.cmp.Ordering.TheVariants.{Less, Equal, Greater}
use Rattle.key_order.specs.Order.{Key, cmp}
use Rattle.slots.specs.Bits.{Bytes}
use Rattle.slots.specs.Layout.{slot, key_of}
use Rattle.slots.specs.Setters.{set_value}
use Rattle.llrb.specs.Tree.{Value, Tree, nil, node, left, right, modify}
use Rattle.store.specs.Decode.{entries_below}
use Rattle.rb_nodes.specs.Heap.{Held, Full, Marked, Under, mark_stale, Turn, hang_left, hang_right}
use Rattle.rb_nodes.proofs.Heap.{marked_by, top_in, full-some, sub-left, sub-right}
use Rattle.rb_nodes.proofs.Steps.{stay, after, loosen, marks, falls-left, falls-right, inside-left, inside-right}
use Rattle.rb_insert.specs.Inserts.{CanModify, DoesModify}
use Rattle.rb_nodes.proofs.Comparing.{top_key, answer}
use Rattle.rb_balance.proofs.Finishing.{full-left, full-right}
use Rattle.rb_insert.proofs.Inserting.{revalue, revalued, full-revalue}

-- ---- modify, branch by branch

module _ (k : Key) (v : Value) where
  modify-nil : modify k v nil ≡ nil
  unfolding modify
  modify-nil = refl

  modify-less : (t : Tree) → Full t → cmp k (top_key t k) ≡ Less → modify k v t ≡ hang_left (modify k v (left t)) t
  unfolding modify
  modify-less nil f q = absurd f
  modify-less (node c e l r) f q = rw q refl

  modify-equal : (t : Tree) → Full t → cmp k (top_key t k) ≡ Equal → modify k v t ≡ revalue v t
  unfolding modify
  modify-equal nil f q = absurd f
  modify-equal (node c e l r) f q = rw q refl

  modify-greater : (t : Tree) → Full t → cmp k (top_key t k) ≡ Greater → modify k v t ≡ hang_right (modify k v (right t)) t
  unfolding modify
  modify-greater nil f q = absurd f
  modify-greater (node c e l r) f q = rw q refl

  pub modify-none : {s : List ℕ} {h : ℕ} → h ≡ 0 → DoesModify k v s s h
  modify-none {s} {h} z nil a p b = subst (Turn Marked Marked s s h nil) (sym modify-nil) (stay a)
  modify-none z (node c e l r) a p b = absurd (omega (arith, (top_in a).low))

  module _ {s : List ℕ} {h : ℕ} {o : Ordering} (ne : h ≡ 0 → ⊥) (w : o ≡ cmp k (key_of (slot s h))) where
    -- one side changed, the digest marked stale
    half-left : {s1 : List ℕ} {l : ℕ} {u : Tree} (t : Tree) → Held s h t → Full t → l ≡ (slot s h).left → Turn Marked Marked s s1 l (left t) u → Turn Under Under s s1 h t (hang_left u t)
    half-left nil a f e b = absurd f
    half-left (node c x l r) a f e b = inside-left marked_by a b e

    half-right : {s1 : List ℕ} {l : ℕ} {u : Tree} (t : Tree) → Held s h t → Full t → l ≡ (slot s h).right → Turn Marked Marked s s1 l (right t) u → Turn Under Under s s1 h t (hang_right u t)
    half-right nil a f e b = absurd f
    half-right (node c x l r) a f e b = inside-right marked_by a b e

    module _ {s1 : List ℕ} {u : Tree} (t : Tree) (f : Full u) (b : Turn Under Under s s1 h t u) where
      renew-done : {s2 : List ℕ} → s2 ≡ mark_stale s1 h → Turn Marked Marked s s2 h t u
      renew-done e = loosen (after b (marks u b.held f e))

    module _ (z : o ≡ Less) {l : ℕ} (el : l ≡ (slot s h).left) where
      pub less-go : {b : ℕ} (t : Tree) → Held s h t → length v ≤ 64 → Bytes v → entries_below s h ≡ b → (entries_below s l < b) × CanModify v s l
      less-go t a p c q =
          let g = full-some ne t a in
          let m : Turn Marked Marked s s h t t = stay a in
          (falls-left a m g q el, (left t, sub-left t a g el, p, c))

      module _ {s1 : List ℕ} (E : DoesModify k v s s1 l) where
        less-half : (t : Tree) → Held s h t → length v ≤ 64 → Bytes v → Turn Under Under s s1 h t (hang_left (modify k v (left t)) t)
        less-half t a p c = let g = full-some ne t a in half-left t a g el (E (left t) (sub-left t a g el) p c)

        pub less-made : {s2 : List ℕ} → s2 ≡ mark_stale s1 h → DoesModify k v s s2 h
        less-made {s2} e t a p c =
            let g = full-some ne t a in
            subst (Turn Marked Marked s s2 h t) (sym (modify-less t g (answer k t a g w ∙ z)))
            (renew-done t (full-left (modify k v (left t)) t g) (less-half t a p c) e)

    module _ (z : o ≡ Greater) {l : ℕ} (el : l ≡ (slot s h).right) where
      pub greater-go : {b : ℕ} (t : Tree) → Held s h t → length v ≤ 64 → Bytes v → entries_below s h ≡ b → (entries_below s l < b) × CanModify v s l
      greater-go t a p c q =
          let g = full-some ne t a in
          let m : Turn Marked Marked s s h t t = stay a in
          (falls-right a m g q el, (right t, sub-right t a g el, p, c))

      module _ {s1 : List ℕ} (E : DoesModify k v s s1 l) where
        greater-half : (t : Tree) → Held s h t → length v ≤ 64 → Bytes v → Turn Under Under s s1 h t (hang_right (modify k v (right t)) t)
        greater-half t a p c = let g = full-some ne t a in half-right t a g el (E (right t) (sub-right t a g el) p c)

        pub greater-made : {s2 : List ℕ} → s2 ≡ mark_stale s1 h → DoesModify k v s s2 h
        greater-made {s2} e t a p c =
            let g = full-some ne t a in
            subst (Turn Marked Marked s s2 h t) (sym (modify-greater t g (answer k t a g w ∙ z)))
            (renew-done t (full-right (modify k v (right t)) t g) (greater-half t a p c) e)

    module _ (z : o ≡ Equal) {s1 : List ℕ} (e1 : s1 ≡ set_value s h v) where
      pub equal-made : {s2 : List ℕ} → s2 ≡ mark_stale s1 h → DoesModify k v s s2 h
      equal-made {s2} e t a p c =
          let g = full-some ne t a in
          subst (Turn Marked Marked s s2 h t) (sym (modify-equal t g (answer k t a g w ∙ z)))
          (renew-done t (full-revalue v t g) (revalued v t a g p c e1) e)
