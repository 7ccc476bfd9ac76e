-- What the calls answer: the length or the refusal beside the output's bytes at the end, as crate store has it.
use Rattle.std.specs.Prelude.{◌≡◌, Bool, false, List, ℕ, Option, Some, None, Result}
use Rattle.key_order.specs.Order.{Key}
use Rattle.hash_tree.specs.HashTree.{HashTree}
use Rattle.llrb.specs.Tree.{Tree}
use Rattle.witness_trees.specs.Rules.{below}
use Rattle.witness_trees.specs.Witness.{Form, keys_only, values, key_range, value_range}
use Rattle.search.specs.Search.{EntryAt, slot_of}
use Rattle.search.specs.declared.KeyBound.{KeyBound}
use Rattle.witness_walks.specs.declared.Walk.{Walk}
use Rattle.witness_walks.specs.declared.What.{What}
use Rattle.witness_walks.specs.declared.Part.TheVariants.{Walked}
use Rattle.witness_walks.specs.InStore.{key_in, BoundsIn}
use Rattle.answers.specs.declared.Refusal.{Refusal}
pub use Rattle.answers.specs.Answers.{answered, put_front}
use Rattle.witness.specs.Putting.{Laid, bytes_below}

abbrev pub CanSave : List ℕ → ℕ → Walk → Type 0
CanSave s n walk = (t : Tree) × Laid s n t × BoundsIn s walk

abbrev pub Saves : List ℕ → ℕ → Walk → What → (o o' : List ℕ) → Result ℕ Refusal → Type 0
Saves s n walk f o o' r = (t : Tree) → Laid s n t → answered r o' ≡ put_front o (bytes_below s f (Walked walk) t)

-- a bound, if there is one, is an entry's slot
abbrev pub BoundIn : List ℕ → Option KeyBound → Type 0
BoundIn s None = Unit {0}
BoundIn s (Some b) = EntryAt s (slot_of b)

-- both bounds exist, and the low one is above the high one
abbrev pub crossed_in : List ℕ → (left right : Option KeyBound) → Bool
crossed_in s None right = false
crossed_in s (Some lo) None = false
crossed_in s (Some lo) (Some hi) = below (key_in s (slot_of hi)) (key_in s (slot_of lo))

abbrev pub CanRange : List ℕ → ℕ → Option KeyBound → Option KeyBound → Type 0
CanRange s n left right = (t : Tree) × Laid s n t × BoundIn s left × BoundIn s right

-- the range that shows its entries in this form
abbrev pub ranged : Form → (first last : Key) → Tree → HashTree
ranged keys_only = key_range
ranged values = value_range
