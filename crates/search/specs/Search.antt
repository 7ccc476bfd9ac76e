-- What it is that a store's bytes hold a tree below a slot, as one who only reads has to know it; and what searches answer.
-- Where a bit lies is said by crate slots, what a node's slot is by crate store, what is searched for by crates llrb and witness_trees.
use Rattle.std.specs.Prelude.{◌≡◌, List, ℕ, ◌≤◌, length, Some, None}
use Rattle.std.specs.Prelude as code
use Rattle.std.proofs.Math.Option.{Option, none, some}
use Rattle.slots.specs.Layout.{HasSlot, slot, key_of, value_of, key_at, value_at}
use Rattle.llrb.specs.Tree.{Entry, Tree, nil, node, size}
use Rattle.witness_trees.specs.Witness as bounds
use Rattle.store.specs.Numbers.{Absent, number_of}
use Rattle.store.specs.Model.{root}
use Rattle.store.specs.Sound.{Nodes}
use Rattle.answers.specs.Answers.{no_entry}
use Rattle.store.specs.Answers as answers
use Rattle.search.specs.declared.KeyBound.{KeyBound}
use Rattle.search.specs.declared.KeyBound.TheVariants.{Exact, Neighbor}
use Rattle.search.specs.declared.Place.{Place}
use Rattle.search.specs.declared.Turn.{Turn}
use Rattle.search.specs.declared.Turn.TheVariants.{Stop, Left, Right}

-- ---- a tree in the bytes

-- P of each entry
abbrev pub Each : (Entry → Type 0) → Tree → Type 0
Each P nil = Unit {0}
Each P (node c e l r) = P e × Each P l × Each P r

-- the bytes s hold the tree t with its top at slot h, each of its slots within the store; a store has fewer than 2,048 slots
pub record Lies (s : List ℕ) (h : ℕ) (t : Tree) : Type 0 where
  pub top : root t ≡ h
  pub nodes : Nodes s t
  pub within : Each (λ e. HasSlot (length s) e.slot) t
  pub few : size t ≤ 2047

abbrev pub HasTree : List ℕ → ℕ → Type 0
HasTree s h = (t : Tree) × Lies s h t

-- ---- answers: an entry or a bound by its slot, or nothing. The searches on paper answer by mathlib's `Option`, the code by its own.

abbrev pub found_slot : Option Entry → code.Option ℕ
found_slot none = None
found_slot (some e) = Some e.slot

abbrev pub key_bound_slot : bounds.KeyBound → KeyBound
key_bound_slot (bounds.Exact e) = Exact e.slot
key_bound_slot (bounds.Neighbor e) = Neighbor e.slot

-- the slot that a bound names
abbrev pub slot_of : KeyBound → ℕ
slot_of (Exact i) = i
slot_of (Neighbor i) = i

abbrev pub bound_slot : Option bounds.KeyBound → code.Option KeyBound
bound_slot none = None
bound_slot (some b) = Some (key_bound_slot b)

-- ---- the entry in a slot

-- slot i is in the store, and its lengths are an entry's
pub record EntryAt (s : List ℕ) (i : ℕ) : Type 0 where
  pub inside : HasSlot (length s) i
  pub key : (slot s i).key_length ≤ 48
  pub value : (slot s i).value_length ≤ 64

-- the entry e lies in its slot
pub record Stored (s : List ℕ) (e : Entry) : Type 0 where
  pub there : EntryAt s e.slot
  pub key_length : (slot s e.slot).key_length ≡ length e.key
  pub value_length : (slot s e.slot).value_length ≡ length e.value
  pub key : key_of (slot s e.slot) ≡ e.key
  pub value : value_of (slot s e.slot) ≡ e.value

-- ---- the way down

-- what a search made of a node: at a stop its answer is z, and below the node the rest of the way decides
abbrev pub Onward : {B : Type 0} → Turn B → (lower upper : B → Type 0) → (z : B) → Type 0
Onward (Stop b) lower upper z = z ≡ b
Onward (Left b) lower upper z = lower b
Onward (Right b) lower upper z = upper b

-- a search that makes w of the node in slot i, with b met so far, where P i b w: down the tree, with b met so far, it answers z
abbrev pub Descends : {B : Type 0} → (P : ℕ → B → Turn B → Type 0) → Tree → (b z : B) → Type 0
Descends P nil b z = z ≡ b
Descends {B} P (node c e l r) b z = (w : Turn B) × P e.slot b w × Onward w (λ x. Descends P l x z) (λ x. Descends P r x z) z

-- P of what was found, if anything was
abbrev pub OfEntry : (Entry → Type 0) → Option Entry → Type 0
OfEntry P none = Unit {0}
OfEntry P (some e) = P e

abbrev pub OfBound : (Entry → Type 0) → Option bounds.KeyBound → Type 0
OfBound P none = Unit {0}
OfBound P (some (bounds.Exact e)) = P e
OfBound P (some (bounds.Neighbor e)) = P e

-- ---- where its key and value lie

abbrev pub FoundIn : List ℕ → code.Option ℕ → Type 0
FoundIn s None = Unit {0}
FoundIn s (Some i) = HasSlot (length s) i

abbrev pub place_in : List ℕ → ℕ → Place
place_in s i = record { key_at = key_at (length s) i; key_length = (slot s i).key_length; value_at = value_at (length s) i; value_length = (slot s i).value_length }

abbrev pub place_of : List ℕ → code.Option ℕ → code.Option Place
place_of s None = None
place_of s (Some i) = Some (place_in s i)

-- the number and the values that a place stands for: nothing is 7
abbrev pub answer_of : code.Option Place → answers.Found
answer_of None = no_entry (number_of Absent)
answer_of (Some p) = record { number = 0; key_at = p.key_at; key_length = p.key_length; value_at = p.value_at; value_length = p.value_length }
