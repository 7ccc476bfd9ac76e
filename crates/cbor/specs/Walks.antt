-- The answers of the functions below `write_cbor` and `read_cbor`, as values and relations. Definitions only.
use Rattle.std.specs.Prelude.{◌≡◌, List, [], ◌∷◌, ℕ, zero, suc, ◌+◌, ◌-◌, ◌≤◌, length, take, drop, Option, Some, None}
use Rattle.answers.specs.declared.Refusal.{Refusal}
use Rattle.answers.specs.declared.Refusal.TheVariants.{Malformed, NotCbor}
use Rattle.hash_tree.specs.Record.{kind_number}
use Rattle.hash_tree.specs.Written.{max_depth}
use Rattle.hash_tree.specs.Parse.{Parsed, Got, Bad}
use Rattle.hash_tree.specs.Form.{Front, Taken, Shut, Form, Fits, write_by, parse_by, written}
use Rattle.output.specs.Putting.{Puts, room_after}
use Rattle.cbor.specs.declared.Way.{Way}
use Rattle.cbor.specs.declared.Way.TheVariants.{Writing, Reading}
use Rattle.cbor.specs.declared.Item.{Item}
use Rattle.cbor.specs.declared.Met.{Met}
use Rattle.cbor.specs.Cbor.{cbor_form}
use Rattle.cbor.specs.Answer.{Written, anew}

-- the form that is read, the form that is put, and the refusal of bytes that are not exactly one tree in the first
abbrev pub source : Way → Form
source Writing = written
source Reading = cbor_form

abbrev pub target : Way → Form
target Writing = cbor_form
target Reading = written

abbrev pub refusal_of : Way → Refusal
refusal_of Writing = Malformed
refusal_of Reading = NotCbor

abbrev pub source_of : Way → List ℕ → Parsed
source_of way bytes = parse_by (source way) max_depth bytes

-- either call, in terms of the two forms
abbrev pub exchanged : Way → (bytes out : List ℕ) → Written
exchanged way bytes out = anew (refusal_of way) (write_by (target way)) out (source_of way bytes)

-- ---- a record

-- a lawful record stands in s, its own bytes from `start` on
pub record Lies (s : List ℕ) (k start len : ℕ) (f : Front) : Type 0 where
  pub is : f ≡ Taken k (take len (drop start s)) (drop (start + len) s)
  pub within : start + len ≤ length s
  pub lawful : Fits k (take len (drop start s))

abbrev pub Reads : (s : List ℕ) → Front → Option Item → Type 0
Reads s f (Some i) = Lies s (kind_number i.kind) i.start i.len f
Reads s f None = f ≡ Shut

-- a record of the kind k with n bytes of its own takes m bytes
abbrev pub Takes : Way → (k n m : ℕ) → Type 0
Takes way k n m = (b : List ℕ) → length b ≡ n → m ≡ length ((target way).put k b)

-- ---- a tree, judged

-- a room as one number: one more than what is left, 0 if it is short
abbrev pub code_of : Option ℕ → ℕ
code_of None = 0
code_of (Some m) = suc m

abbrev pub room_of : ℕ → Option ℕ
room_of zero = None
room_of (suc m) = Some m

-- the place after a tree that was read in a list of n, and what its other form leaves of the room
abbrev pub met_of : (n : ℕ) → Form → Option ℕ → Parsed → Option Met
met_of n g room (Got t rest) = Some (record { next = n - length rest; room = code_of (room_after (length (write_by g t)) room) })
met_of n g room Bad = None

-- ---- records put one after the other

-- one tree and nothing left, and there is room for its other form
abbrev pub CanPut : Form → (o : List ℕ) → Parsed → Type 0
CanPut g o (Got t []) = length (write_by g t) ≤ length o
CanPut g o (Got t (x ∷ rest)) = ⊥
CanPut g o Bad = ⊥

abbrev pub Wrote : Form → (o o' : List ℕ) → (size : ℕ) → Parsed → Type 0
Wrote g o o' size (Got t rest) = Puts o o' 0 size (write_by g t)
Wrote g o o' size Bad = Unit {0}
