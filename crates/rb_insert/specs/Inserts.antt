-- The contracts of insert and modify on a tree in slots: what a call asks of the tree, and the step that it makes.
use Rattle.std.specs.Prelude.{◌≡◌, List, ℕ, ◌≤◌, length}
use Rattle.std.proofs.Math.Option.{Option, none, some}
use Rattle.key_order.specs.Order.{Key}
use Rattle.slots.specs.Bits.{Bytes}
use Rattle.slots.specs.Layout.{HasSlot}
use Rattle.llrb.specs.Tree.{Value, Entry, Tree, get, insert_go, insert, modify}
use Rattle.store.specs.Counts.{is}
use Rattle.rb_nodes.specs.Heap.{count, Held, Marked, nothing, Step, Turn}

-- ---- insert

abbrev pub entry : ℕ → Key → Value → Entry
entry x k v = record { slot = x; key = k; value = v }

-- the slot x comes into the tree where the key is new
abbrev pub taken : Option Entry → ℕ → ℕ → ℕ
taken none x y = is y x
taken (some e) x y = 0

-- an entry that a slot can hold; where its key is new, the slot x is one of the store's and none of the tree's
pub record Fresh (k : Key) (v : Value) (x : ℕ) (s : List ℕ) (t : Tree) : Type 0 where
  pub key : length k ≤ 48
  pub value : length v ≤ 64
  pub key-bytes : Bytes k
  pub value-bytes : Bytes v
  pub inside : get k t ≡ none → HasSlot (length s) x
  pub new : get k t ≡ none → count x t ≡ 0

abbrev pub CanInsert : Key → Value → ℕ → List ℕ → ℕ → Type 0
CanInsert k v x s h = (t : Tree) × Held s h t × Fresh k v x s t

abbrev pub DoesInsert : Key → Value → ℕ → List ℕ → List ℕ → ℕ → ℕ → Type 0
DoesInsert k v x s s' h r = (t : Tree) → Held s h t → Fresh k v x s t → Step Marked Marked (taken (get k t) x) nothing s s' r t (insert_go (entry x k v) t)

-- the Rust's insert on the tree: `go`, and the root black
abbrev pub DoesPut : Key → Value → ℕ → List ℕ → List ℕ → ℕ → ℕ → Type 0
DoesPut k v x s s' h r = (t : Tree) → Held s h t → Fresh k v x s t → Step Marked Marked (taken (get k t) x) nothing s s' r t (insert (entry x k v) t)

-- ---- modify

abbrev pub CanModify : Value → List ℕ → ℕ → Type 0
CanModify v s h = (t : Tree) × Held s h t × (length v ≤ 64) × Bytes v

abbrev pub DoesModify : Key → Value → List ℕ → List ℕ → ℕ → Type 0
DoesModify k v s s' h = (t : Tree) → Held s h t → length v ≤ 64 → Bytes v → Turn Marked Marked s s' h t (modify k v t)
