-- What a store holds: its capacity, the tree with a slot for each entry, and the free slots in the order of their chain;
-- and what create, insert, modify and delete make of it (document 01, "Store layout").
use Rattle.std.specs.Prelude.{List, [], ◌∷◌, ◌++◌, ℕ}
use Rattle.std.proofs.Math.Option.{Option, none, some, map}
use Rattle.key_order.specs.Order.{Key}
use Rattle.llrb.specs.Tree.{Value, Entry, Tree, nil, node, entries, get, insert, modify}
use Rattle.llrb.specs.Delete.{delete, freed}
use Rattle.llrb.specs.Map.{slots}
use Rattle.store.specs.Counts.{numbers_to}

pub record Model : Type 0 where
  pub capacity : ℕ
  pub tree : Tree
  pub free : List ℕ

-- the slots of a tree, in order
abbrev pub slots_of : Tree → List ℕ
slots_of t = slots (entries t)

-- the slot at the top, 0 for none
abbrev pub root : Tree → ℕ
root nil = 0
root (node c e l r) = e.slot

-- the first slot of a chain, 0 for none
abbrev pub head : List ℕ → ℕ
head [] = 0
head (x ∷ xs) = x

abbrev pub tail : List ℕ → List ℕ
tail [] = []
tail (x ∷ xs) = xs

-- the slots that tree and free chain name
abbrev pub named : Model → List ℕ
named m = slots_of m.tree ++ m.free

-- the value of a key, if it is there
abbrev pub value_in : Key → Model → Option Value
value_in key m = map (λ (e : Entry). e.value) (get key m.tree)

-- ---- what the calls make of it

-- no entry; the slots are chained 1, 2, up to the capacity
unfoldable pub fresh : (capacity : ℕ) → Model
fresh capacity = record { capacity = capacity; tree = nil; free = numbers_to capacity }

-- an entry that is there keeps its slot; a new one takes the chain's head
abbrev pub free_after : Option Entry → List ℕ → List ℕ
free_after none free = tail free
free_after (some e) free = free

unfoldable pub inserted : Key → Value → Model → Model
inserted key value m =
    record {
      capacity = m.capacity;
      tree = insert (record { slot = head m.free; key = key; value = value }) m.tree;
      free = free_after (get key m.tree) m.free;
    }

unfoldable pub modified : Key → Value → Model → Model
modified key value m = record { capacity = m.capacity; tree = modify key value m.tree; free = m.free }

-- a freed slot becomes the chain's head
unfoldable pub deleted : Key → Model → Model
deleted key m = record { capacity = m.capacity; tree = delete key m.tree; free = freed key m.tree ∷ m.free }
