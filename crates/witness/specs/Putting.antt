-- The contracts of the two walks over a tree in a store: the room that a witness leaves, and its bytes.
use Rattle.std.specs.Prelude.{List, ℕ, ◌+◌, ◌-◌, ◌≤◌, length, Option, SomeIff}
use Rattle.llrb.specs.Tree.{Tree}
use Rattle.store.specs.Sound.{Digests}
use Rattle.search.specs.Search.{Lies}
use Rattle.witness_walks.specs.declared.Part.{Part}
use Rattle.witness_walks.specs.declared.What.{What}
use Rattle.witness_walks.specs.Walked.{part_bytes}
use Rattle.witness_walks.specs.InStore.{key_in, PartIn}
use Rattle.output.specs.Putting.{Puts}

-- the tree t lies below slot n, and its digests are right
pub record Laid (s : List ℕ) (n : ℕ) (t : Tree) : Type 0 where
  pub lies : Lies s n t
  pub digests : Digests s t

-- the bytes of what becomes of a part that lies below slot n
abbrev pub bytes_below : List ℕ → What → Part → Tree → List ℕ
bytes_below s f part t = part_bytes (key_in s) f t part

abbrev pub CanFit : List ℕ → ℕ → Part → Type 0
CanFit s n part = (t : Tree) × Laid s n t × PartIn s part

-- what is left of the room, if they fit
abbrev pub Fits : List ℕ → ℕ → Part → What → ℕ → Option ℕ → Type 0
Fits s n part f room r = (t : Tree) → Laid s n t → SomeIff r (length (bytes_below s f part t) ≤ room) (room - length (bytes_below s f part t))

abbrev pub CanWrite : List ℕ → ℕ → Part → What → List ℕ → ℕ → Type 0
CanWrite s n part f o at = (t : Tree) × Laid s n t × PartIn s part × (at + length (bytes_below s f part t) ≤ length o)

abbrev pub Writes : List ℕ → ℕ → Part → What → (o o' : List ℕ) → (at next : ℕ) → Type 0
Writes s n part f o o' at next = (t : Tree) → Laid s n t → Puts o o' at next (bytes_below s f part t)
