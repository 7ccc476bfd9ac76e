-- When a store is sound (document 01, "A store is sound when"). Where a bit lies is said by crate slots: here a store is its
-- length, its header, its slots and their digests. What a node, a tree's order and its colours are is said by crate llrb.
use Rattle.std.specs.Prelude.{◌≡◌, List, [], ◌∷◌, ℕ, ◌≤◌, length}
use Rattle.slots.specs.declared.Header.{Header}
use Rattle.slots.specs.Layout.{current, count_in, store_length, header, slot, Mark, count_of, digest_of, mark_of, no_mark, node_slot, free_slot}
use Rattle.llrb.specs.Tree.{Entry, Tree, nil, node, entries, size}
use Rattle.llrb.specs.Sorted.{Sorted}
use Rattle.llrb.specs.Shape.{RootBlack, RedsApart, LeansLeft, SameBlacks}
use Rattle.llrb.specs.Digests.{subtree_digest}
use Rattle.store.specs.Counts.{occurs, numbers_to}
use Rattle.store.specs.Model.{Model, named, root, head}

-- ---- the lines that speak of bytes

-- the edition; the live count is the number of tree nodes; root and head of the free chain; the zero bits
abbrev pub header_in : (edition : ℕ) → Model → Header
header_in e m =
    record { edition = e; capacity = m.capacity; live = size m.tree; root = root m.tree; free = head m.free; zero = 0 }

abbrev pub header_of : Model → Header
header_of m = header_in current m

-- each node lies in its slot: live bit, colour, links, lengths, key and value, and zeros in the rest
abbrev pub Nodes : List ℕ → Tree → Type 0
Nodes s nil = Unit {0}
Nodes s (node c e l r) = (slot s e.slot ≡ node_slot c e.key e.value (root l) (root r)) × Nodes s l × Nodes s r

-- what is worked out afresh from a subtree: the number of its entries, and its digest
abbrev pub subtree_mark : (edition : ℕ) → Tree → Mark
subtree_mark e t = record { count = count_in e (size t); digest = subtree_digest t }

-- each stored mark is the one worked out afresh from its subtree
abbrev pub Marks : (edition : ℕ) → List ℕ → Tree → Type 0
Marks d s nil = Unit {0}
Marks d s (node c e l r) = (mark_of s e.slot ≡ subtree_mark d (node c e l r)) × Marks d s l × Marks d s r

-- the two halves of it: each stored digest, each stored count
abbrev pub Digests : List ℕ → Tree → Type 0
Digests s nil = Unit {0}
Digests s (node c e l r) = (digest_of s e.slot ≡ subtree_digest (node c e l r)) × Digests s l × Digests s r

abbrev pub Counts : (edition : ℕ) → List ℕ → Tree → Type 0
Counts d s nil = Unit {0}
Counts d s (node c e l r) = (count_of s e.slot ≡ count_in d (size (node c e l r))) × Counts d s l × Counts d s r

-- each free slot is all zero but for `left`, which names the next, 0 at the end
abbrev pub Chain : List ℕ → List ℕ → Type 0
Chain s [] = Unit {0}
Chain s (x ∷ free) = (slot s x ≡ free_slot (head free)) × (mark_of s x ≡ no_mark) × Chain s free

pub record LaidIn (edition : ℕ) (s : List ℕ) (m : Model) : Type 0 where
  -- the length and layout hold; the live bit is set exactly on tree slots; the live count is the number of tree nodes
  pub len : length s ≡ store_length m.capacity
  pub header : header s ≡ header_in edition m
  pub nodes : Nodes s m.tree
  -- each stored digest and count is right
  pub marks : Marks edition s m.tree
  -- the free chain ends at 0
  pub chain : Chain s m.free

abbrev pub Laid : List ℕ → Model → Type 0
Laid s m = LaidIn current s m

-- ---- the lines that do not

abbrev pub Short : List Entry → Type 0
Short [] = Unit {0}
Short (e ∷ L) = (length e.key ≤ 48) × (length e.value ≤ 64) × Short L

pub record Lawful (m : Model) : Type 0 where
  -- capacity 1 to 1,024, keys to 48 bytes and values to 64
  pub least : 1 ≤ m.capacity
  pub most : m.capacity ≤ 1024
  pub short : Short (entries m.tree)
  -- the tree is ordered strictly
  pub ordered : Sorted (entries m.tree)
  -- the root is black; a red node has black children; no right child is red
  pub root_black : RootBlack m.tree
  pub reds_apart : RedsApart m.tree
  pub leans_left : LeansLeft m.tree
  -- every path down to a missing child has the same number of black nodes
  pub same_blacks : SameBlacks m.tree
  -- the free chain names no slot twice; tree and free chain are disjoint and cover all slots:
  -- together they name the slots 1 to the capacity, each once
  pub once : (x : ℕ) → occurs x (named m) ≡ occurs x (numbers_to m.capacity)

-- ---- the bytes hold the model, in an edition. The model has none: two editions of a store hold the same model.

pub record RepresentsIn (edition : ℕ) (s : List ℕ) (m : Model) : Type 0 where
  pub laid : LaidIn edition s m
  pub lawful : Lawful m

abbrev pub SoundIn : (edition : ℕ) → List ℕ → Type 0
SoundIn e s = (m : Model) × RepresentsIn e s m

-- in the current one

abbrev pub Represents : List ℕ → Model → Type 0
Represents s m = RepresentsIn current s m

abbrev pub Sound : List ℕ → Type 0
Sound s = SoundIn current s
