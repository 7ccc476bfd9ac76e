-- A new value at the top, and insert: what each branch asks of its calls, and what it leaves.
use mathlib.Core.Path.{◌≡◌, refl, sym, ap, subst, ◌∙◌}
use mathlib.Core.Bool.{true}
use mathlib.Core.List.{List}
use mathlib.Core.Option.{Option, none, some}
use Prim.Native.Nat.{ℕ, zero, suc, ◌+◌, ◌≤◌, ◌<◌}
use native.Mathlib.Omega.{arith}
use lib.Dec.{lit<}
use lib.ListN.{length}
use Rattle.std.specs.declared.cmp.Ordering.{Ordering}
use Rattle.std.specs.declared.cmp.Ordering.TheVariants.{Less, Equal, Greater}
use Rattle.key_order.specs.Order.{Key, cmp}
use Rattle.slots.specs.Bits.{Bytes}
use Rattle.slots.specs.Layout.{HasSlot, slot, node_slot, key_of}
use Rattle.slots.specs.Setters.{set_slot, set_left, set_right, set_value}
use Rattle.slots.specs.Setters as setters
use Rattle.slots.proofs.Writing.{keeps-more, keeps-has, wrote-node, wrote_value}
use Rattle.llrb.specs.Tree.{Value, Entry, Tree, nil, node, left, right, balance, get, with_value, insert_go}
use Rattle.llrb.specs.Panic.{balance_p}
use Rattle.llrb.proofs.Safe.{safe-balance}
use Rattle.store.specs.Counts.{is}
use Rattle.store.specs.Counting.{is_same}
use Rattle.store.specs.Decode.{entries_below}
use Rattle.rb_nodes.specs.Heap.{count, Held, Full, Marked, Under, mark_stale, nothing, Step, Turn, CanAt, DoesAt, hang_left, hang_right}
use Rattle.rb_nodes.proofs.Counts.{is_eq, is-most}
use Rattle.rb_nodes.proofs.Heap.{slot-top, top_in, held-nil, node-held, full-some, sub-left, sub-right, empty}
use Rattle.rb_nodes.proofs.Steps.{stay, after, before, loosen, lower, top-wrote, marks, falls-left, falls-right}
use Rattle.rb_insert.specs.Inserts.{entry, taken, Fresh, CanInsert, DoesInsert}
use Rattle.rb_nodes.proofs.Comparing.{top_key, answer, get-nil, get_left, get-right, get-here, top_entry}
use Rattle.rb_balance.proofs.Finishing.{ok-left, can-left, finish-left, ok-right, can-right, finish-right}

-- ---- a new value at the top

abbrev pub revalue : Value → Tree → Tree
revalue v nil = nil
revalue v (node c e l r) = node c (with_value e v) l r

pub revalued : {s s1 : List ℕ} {h : ℕ} (v : Value) (t : Tree) → Held s h t → Full t → length v ≤ 64 → Bytes v → s1 ≡ set_value s h v → Turn Under Under s s1 h t (revalue v t)
revalued v nil a f p b q = absurd f
revalued v (node c e l r) a f p b q =
    let w = wrote_value (top_in a) v q p b in
    top-wrote (with_value e v) a refl (record { here = w.here ∙ ap (setters.with_value v) (slot-top a); mark = w.mark; kept = w.kept })

pub full-revalue : (v : Value) (t : Tree) → Full t → Full (revalue v t)
full-revalue v nil f = absurd f
full-revalue v (node c e l r) f = tt

-- ---- insert on paper, branch by branch

module _ (x : Entry) where
  go-nil : insert_go x nil ≡ node true x nil nil
  unfolding insert_go
  go-nil = refl

  go-less : (t : Tree) → Full t → cmp x.key (top_key t x.key) ≡ Less → insert_go x t ≡ balance (hang_left (insert_go x (left t)) t)
  unfolding insert_go
  go-less nil f q = absurd f
  go-less (node c e l r) f q = rw q refl

  go-equal : (t : Tree) → Full t → cmp x.key (top_key t x.key) ≡ Equal → insert_go x t ≡ balance (revalue x.value t)
  unfolding insert_go
  go-equal nil f q = absurd f
  go-equal (node c e l r) f q = rw q refl

  go-greater : (t : Tree) → Full t → cmp x.key (top_key t x.key) ≡ Greater → insert_go x t ≡ balance (hang_right (insert_go x (right t)) t)
  unfolding insert_go
  go-greater nil f q = absurd f
  go-greater (node c e l r) f q = rw q refl

-- ---- a new key, at the end of the way down

module _ {k : Key} {v : Value} {x h : ℕ} {s : List ℕ} (z : h ≡ 0) where
  pub new-slot : (t : Tree) → Held s h t → Fresh k v x s t → HasSlot (length s) x
  new-slot t a f = f.inside (ap (get k) (empty z t a) ∙ get-nil k)

module _ {k : Key} {v : Value} {x : ℕ} {s s1 : List ℕ} (e1 : s1 ≡ set_slot s x (node_slot true k v 0 0)) where
  added : HasSlot (length s) x → Fresh k v x s nil → Step Marked Under (λ y. is y x) nothing s s1 x nil (node true (entry x k v) nil nil)
  added i f =
      let w = wrote-node i k v e1 f.key f.value (lit< tt) (lit< tt) f.key-bytes f.value-bytes in
      record {
        held = node-held (entry x k v) refl (keeps-has w.kept i) w.here (held-nil s1) (held-nil s1) (λ y. omega (arith, is-most y x));
        keeps = keeps-more (λ j q. omega (arith, is_eq q)) w.kept;
        slots = λ y. omega arith;
        dig = λ d. (tt, tt);
      }

  pub new-done : {h : ℕ} {s2 : List ℕ} → h ≡ 0 → s2 ≡ mark_stale s1 x → DoesInsert k v x s s2 h x
  new-done {h} {s2} z e2 nil a f =
      let b = added (new-slot z nil a f) f in
      let c : Step Marked Marked (λ y. is y x) nothing s s2 x nil (node true (entry x k v) nil nil) = before b (marks (node true (entry x k v) nil nil) b.held tt e2) in
      let g : (o : Option Entry) → none ≡ o → Step Marked Marked (taken o x) nothing s s2 x nil (node true (entry x k v) nil nil) =
      λ o w. subst (λ (o : Option Entry). Step Marked Marked (taken o x) nothing s s2 x nil (node true (entry x k v) nil nil)) w c in
      subst (Step Marked Marked (taken (get k nil) x) nothing s s2 x nil) (sym (go-nil (entry x k v))) (g (get k nil) (sym (get-nil k)))
  new-done z e2 (node c e l r) a f = absurd (omega (arith, (top_in a).low))

-- ---- the slot that comes in is none of the tree's

fresh-once : {k : Key} {v : Value} {x : ℕ} {s : List ℕ} {h : ℕ} (t : Tree) → Held s h t → Fresh k v x s t → (y : ℕ) → count y t + taken (get k t) x y ≤ 1
fresh-once {k} {v} {x} t a f y = go (get k t) refl
  where
    at : (n : ℕ) → is y x ≡ n → count x t ≡ 0 → count y t + is y x ≤ 1
    at zero e z = omega (arith, a.once y)
    at (suc n) e z = let q = is_same y x (omega arith) in omega (arith, ap (λ (i : ℕ). count i t) q, is-most y x)

    go : (o : Option Entry) → get k t ≡ o → count y t + taken o x y ≤ 1
    go none e = at (is y x) refl (f.new e)
    go (some g) e = omega (arith, a.once y)

fresh-part : {k : Key} {v : Value} {x : ℕ} {s : List ℕ} {t u : Tree} → Fresh k v x s t → get k t ≡ get k u → count x u ≤ count x t → Fresh k v x s u
fresh-part f e p =
    record {
      key = f.key;
      value = f.value;
      key-bytes = f.key-bytes;
      value-bytes = f.value-bytes;
      inside = λ q. f.inside (e ∙ q);
      new = λ q. omega (arith, f.new (e ∙ q));
    }

-- ---- the three branches

module _ (k : Key) (v : Value) (x : ℕ) {s : List ℕ} {h : ℕ} {o : Ordering} (ne : h ≡ 0 → ⊥) (w : o ≡ cmp k (key_of (slot s h))) where
  -- to the left
  module _ (z : o ≡ Less) {l : ℕ} (el : l ≡ (slot s h).left) where
    same_left : (t : Tree) → Held s h t → get k t ≡ get k (left t)
    same_left t a = let f = full-some ne t a in get_left k t f (answer k t a f w ∙ z)

    fresh-left : (t : Tree) → Held s h t → Fresh k v x s t → Fresh k v x s (left t)
    fresh-left t a f = fresh-part f (same_left t a) (part t)
      where
        part : (t : Tree) → count x (left t) ≤ count x t
        part nil = omega arith
        part (node c e l r) = omega arith

    pub less-call : {b : ℕ} (t : Tree) → Held s h t → Fresh k v x s t → entries_below s h ≡ b → (entries_below s l < b) × CanInsert k v x s l
    less-call t a f q =
        let g = full-some ne t a in
        let m : Turn Marked Marked s s h t t = stay a in
        (falls-left a m g q el, (left t, sub-left t a g el, fresh-left t a f))

    module _ {s1 : List ℕ} {p : ℕ} (E : DoesInsert k v x s s1 l p) where
      less-back : (t : Tree) → Held s h t → Fresh k v x s t → Step Marked Marked (taken (get k t) x) nothing s s1 p (left t) (insert_go (entry x k v) (left t))
      less-back t a f =
          subst (λ (o : Option Entry). Step Marked Marked (taken o x) nothing s s1 p (left t) (insert_go (entry x k v) (left t))) (sym (same_left t a))
          (E (left t) (sub-left t a (full-some ne t a) el) (fresh-left t a f))

      pub less-link : (t : Tree) → Held s h t → Fresh k v x s t → HasSlot (length s1) h × (p < 2048)
      less-link t a f = let m : Turn Marked Marked s s h t t = stay a in ok-left (lower m) (full-some ne t a) (fresh-once t a f) (less-back t a f)

      module _ {s2 : List ℕ} (e2 : s2 ≡ set_left s1 h p) where
        pub less-can : (t : Tree) → Held s h t → Fresh k v x s t → CanAt balance_p s2 h
        less-can t a f =
            let m : Turn Marked Marked s s h t t = stay a in
            can-left (lower m) (full-some ne t a) (fresh-once t a f) (less-back t a f) e2 (safe-balance (hang_left (insert_go (entry x k v) (left t)) t))

        pub less_done : {s3 : List ℕ} {r : ℕ} → DoesAt Under balance_p s2 s3 h r → DoesInsert k v x s s3 h r
        less_done {s3} {r} B t a f =
            let m : Turn Marked Marked s s h t t = stay a in
            let g = full-some ne t a in
            subst (Step Marked Marked (taken (get k t) x) nothing s s3 r t) (sym (go-less (entry x k v) t g (answer k t a g w ∙ z)))
            (finish-left (lower m) g (fresh-once t a f) (less-back t a f) e2 (safe-balance (hang_left (insert_go (entry x k v) (left t)) t)) B)

  -- to the right
  module _ (z : o ≡ Greater) {l : ℕ} (el : l ≡ (slot s h).right) where
    same-right : (t : Tree) → Held s h t → get k t ≡ get k (right t)
    same-right t a = let f = full-some ne t a in get-right k t f (answer k t a f w ∙ z)

    fresh-right : (t : Tree) → Held s h t → Fresh k v x s t → Fresh k v x s (right t)
    fresh-right t a f = fresh-part f (same-right t a) (part t)
      where
        part : (t : Tree) → count x (right t) ≤ count x t
        part nil = omega arith
        part (node c e l r) = omega arith

    pub greater-call : {b : ℕ} (t : Tree) → Held s h t → Fresh k v x s t → entries_below s h ≡ b → (entries_below s l < b) × CanInsert k v x s l
    greater-call t a f q =
        let g = full-some ne t a in
        let m : Turn Marked Marked s s h t t = stay a in
        (falls-right a m g q el, (right t, sub-right t a g el, fresh-right t a f))

    module _ {s1 : List ℕ} {p : ℕ} (E : DoesInsert k v x s s1 l p) where
      greater-back : (t : Tree) → Held s h t → Fresh k v x s t → Step Marked Marked (taken (get k t) x) nothing s s1 p (right t) (insert_go (entry x k v) (right t))
      greater-back t a f =
          subst (λ (o : Option Entry). Step Marked Marked (taken o x) nothing s s1 p (right t) (insert_go (entry x k v) (right t))) (sym (same-right t a))
          (E (right t) (sub-right t a (full-some ne t a) el) (fresh-right t a f))

      pub greater-link : (t : Tree) → Held s h t → Fresh k v x s t → HasSlot (length s1) h × (p < 2048)
      greater-link t a f = let m : Turn Marked Marked s s h t t = stay a in ok-right (lower m) (full-some ne t a) (fresh-once t a f) (greater-back t a f)

      module _ {s2 : List ℕ} (e2 : s2 ≡ set_right s1 h p) where
        pub greater-can : (t : Tree) → Held s h t → Fresh k v x s t → CanAt balance_p s2 h
        greater-can t a f =
            let m : Turn Marked Marked s s h t t = stay a in
            can-right (lower m) (full-some ne t a) (fresh-once t a f) (greater-back t a f) e2 (safe-balance (hang_right (insert_go (entry x k v) (right t)) t))

        pub greater-done : {s3 : List ℕ} {r : ℕ} → DoesAt Under balance_p s2 s3 h r → DoesInsert k v x s s3 h r
        greater-done {s3} {r} B t a f =
            let m : Turn Marked Marked s s h t t = stay a in
            let g = full-some ne t a in
            subst (Step Marked Marked (taken (get k t) x) nothing s s3 r t) (sym (go-greater (entry x k v) t g (answer k t a g w ∙ z)))
            (finish-right (lower m) g (fresh-once t a f) (greater-back t a f) e2 (safe-balance (hang_right (insert_go (entry x k v) (right t)) t)) B)

  -- here
  module _ (z : o ≡ Equal) {s1 : List ℕ} (e1 : s1 ≡ set_value s h v) where
    pub equal-can : (t : Tree) → Held s h t → Fresh k v x s t → CanAt balance_p s1 h
    equal-can t a f =
        let g = full-some ne t a in
        (revalue v t, (revalued v t a g f.value f.value-bytes e1).held, full-revalue v t g, balance (revalue v t), safe-balance (revalue v t))

    pub equal-done : {s2 : List ℕ} {r : ℕ} → DoesAt Under balance_p s1 s2 h r → DoesInsert k v x s s2 h r
    equal-done {s2} {r} B t a f =
        let g = full-some ne t a in
        let q = answer k t a g w ∙ z in
        let b = revalued v t a g f.value f.value-bytes e1 in
        let c : Turn Marked Marked s s2 r t (balance (revalue v t)) =
        loosen (after b (B (revalue v t) (balance (revalue v t)) b.held (full-revalue v t g) (safe-balance (revalue v t)))) in
        subst (Step Marked Marked (taken (get k t) x) nothing s s2 r t) (sym (go-equal (entry x k v) t g q)) (kept t g (get-here k t g q) c)
      where
        kept : (t : Tree) → Full t → get k t ≡ top_entry t → {u : Tree} → Turn Marked Marked s s2 r t u → Step Marked Marked (taken (get k t) x) nothing s s2 r t u
        kept nil g q c = absurd g
        kept (node d e l r') g q {u} c = subst (λ (o : Option Entry). Step Marked Marked (taken o x) nothing s s2 r (node d e l r') u) (sym q) c
