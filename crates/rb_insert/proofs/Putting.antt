-- insert on the tree: `go`, and the root black.
use mathlib.Core.Path.{◌≡◌, refl}
use mathlib.Core.Bool.{false}
use mathlib.Core.List.{List}
use mathlib.Core.Option.{Option, none, some}
use Prim.Native.Nat.{ℕ}
use native.Mathlib.Omega.{arith}
use Rattle.key_order.specs.Order.{Key}
use Rattle.slots.specs.Setters.{set_red}
use Rattle.llrb.specs.Tree.{Value, Entry, Tree, nil, node, get, insert_go, insert}
use Rattle.store.specs.Counting.{is-self}
use Rattle.rb_nodes.specs.Heap.{Held, Full, Marked, nothing, Step}
use Rattle.rb_nodes.proofs.Steps.{before, painted}
use Rattle.rb_insert.specs.Inserts.{entry, taken, Fresh, DoesInsert}

-- ---- insert on the tree: `go`, and the root black

none-nil : (k : Key) {e : Entry} → get k nil ≡ some e → ⊥
unfolding get
none-nil k w = let z : ◌≡◌ {A = ℕ} 0 1 = cc in omega arith

full-insert : {D E : List ℕ → Tree → Type 0} (x : ℕ) (o : Option Entry) {s s1 : List ℕ} {r : ℕ} (k : Key) (t u : Tree) → get k t ≡ o → Step D E (taken o x) nothing s s1 r t u → Full u
full-insert x none k t nil q b = omega (arith, b.slots x, is-self x)
full-insert x (some e) k nil nil q b = none-nil k q
full-insert x (some e) k (node c g l r) nil q b = omega (arith, b.slots g.slot, is-self g.slot)
full-insert x none k t (node c g l r) q b = tt
full-insert x (some e) k t (node c g l r) q b = tt

module _ (k : Key) (v : Value) (x : ℕ) {s s1 : List ℕ} {h r : ℕ} (E : DoesInsert k v x s s1 h r) where
  pub put_full : (t : Tree) → Held s h t → Fresh k v x s t → (u : Tree) × Held s1 r u × Full u
  put_full t a f = let b = E t a f in (insert_go (entry x k v) t, b.held, full-insert x (get k t) k t (insert_go (entry x k v) t) refl b)

  module _ {s2 : List ℕ} (e : s2 ≡ set_red s1 r false) where
    pub put-done : (t : Tree) → Held s h t → Fresh k v x s t → Step Marked Marked (taken (get k t) x) nothing s s2 r t (insert (entry x k v) t)
    unfolding insert
    put-done t a f =
        let b = E t a f in
        before b (painted false (insert_go (entry x k v) t) b.held (full-insert x (get k t) k t (insert_go (entry x k v) t) refl b) e)
