-- What the writer reads in a store: entries by their slots, and the bytes of what is written of them.
use Rattle.std.specs.Prelude.{◌≡◌, cond, List, [], ℕ, eqb, length}
use Rattle.key_order.specs.Order.{Key}
use Rattle.hash_tree.specs.HashTree.{fork_hash}
use Rattle.hash_tree.specs.Written.{piece, write}
use Rattle.slots.specs.Layout.{HasSlot, slot, digest_of, key_of, value_of}
use Rattle.llrb.specs.Tree.{Entry as TheEntry}
use Rattle.llrb.specs.Digests.{data_digest}
use Rattle.witness_trees.specs.Shown.{item}
use Rattle.search.specs.Search.{EntryAt}
use Rattle.witness_walks.specs.declared.Walk.{Walk}
use Rattle.witness_walks.specs.declared.Walk.TheVariants.{Full, Above, Below, Between, Lookup}
use Rattle.witness_walks.specs.declared.What.{What}
use Rattle.witness_walks.specs.declared.Part.{Part}
use Rattle.witness_walks.specs.declared.Part.TheVariants.{Nothing, Hidden, Walked}
use Rattle.witness_walks.specs.declared.Middle.{Middle}
use Rattle.witness_walks.specs.declared.Middle.TheVariants.{Entry, Both}
use Rattle.witness_walks.specs.declared.Records.{Records}
use Rattle.witness_walks.specs.Arms.{arms_at}
use Rattle.search.specs.Search.{slot_of}
use Rattle.witness_walks.specs.Records.{records_at}
use Rattle.witness_walks.specs.Walked.{what_of}

-- ---- entries

abbrev pub key_in : List ℕ → ℕ → Key
key_in s i = key_of (slot s i)

abbrev pub entry_in : List ℕ → ℕ → TheEntry
entry_in s i = record { slot = i; key = key_of (slot s i); value = value_of (slot s i) }

-- the bounds of a walk are slots of entries
abbrev pub BoundsIn : List ℕ → Walk → Type 0
BoundsIn s Full = Unit {0}
BoundsIn s (Above lo) = EntryAt s (slot_of lo)
BoundsIn s (Below hi) = EntryAt s (slot_of hi)
BoundsIn s (Between lo hi) = EntryAt s (slot_of lo) × EntryAt s (slot_of hi)
BoundsIn s (Lookup i) = EntryAt s i

abbrev pub PartIn : List ℕ → Part → Type 0
PartIn s Nothing = Unit {0}
PartIn s Hidden = Unit {0}
PartIn s (Walked w) = BoundsIn s w

-- ---- the records of the node in slot n

abbrev pub records_in : List ℕ → ℕ → Walk → What → Records
records_in s n walk f = records_at (arms_at (key_in s) walk f (key_in s n)) (eqb (slot s n).left 0) (eqb (slot s n).right 0)

-- ---- bytes

abbrev pub shown_in : List ℕ → ℕ → What → List ℕ
shown_in s n m = write (item (what_of m) (entry_in s n))

-- the entry, or one Pruned of entry and right side, whose digest lies in the store
abbrev pub middle_in : List ℕ → ℕ → Middle → List ℕ
middle_in s n (Entry m) = shown_in s n m
middle_in s n Both = piece 4 (fork_hash (data_digest (entry_in s n)) (digest_of s (slot s n).right))

-- where the right side is merged, there is one
abbrev pub MiddleAt : List ℕ → ℕ → Middle → Type 0
MiddleAt s n (Entry m) = Unit {0}
MiddleAt s n Both = HasSlot (length s) (slot s n).right

-- `left_hash_tree`, `right_hash_tree`
abbrev pub hidden_in : List ℕ → ℕ → List ℕ
hidden_in s n = cond (eqb n 0) (piece 0 []) (piece 4 (digest_of s n))

abbrev pub hidden_len : ℕ → ℕ
hidden_len n = cond (eqb n 0) 2 34

-- a slot that is not 0 is in the store
abbrev pub HiddenAt : List ℕ → ℕ → Type 0
HiddenAt s n = (n ≡ 0 → ⊥) → HasSlot (length s) n
