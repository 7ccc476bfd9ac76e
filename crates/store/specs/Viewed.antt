-- What a value-range witness gives away of a store (request Q-10): the view of the store, read in its own bytes, and the answer of the call
-- worked out from the view alone.
use Rattle.std.specs.Prelude.{cond, ◌||◌, List, [], ℕ, ltb, length, take}
use Rattle.key_order.specs.Order.{Key}
use Rattle.hash_tree.specs.Written.{write}
use Rattle.slots.specs.Layout.{digest_of}
use Rattle.witness_trees.specs.View.{View, view_of, from_view}
use Rattle.store.specs.Numbers.{LongKey, NoRoom, number_of}
use Rattle.store.specs.Model.{root}
use Rattle.store.specs.Decode.{decode}
use Rattle.store.specs.Answers.{Written}
use Rattle.store.specs.Calls.{long_key}

abbrev pub view_in : (first last : Key) → List ℕ → View
view_in first last s = view_of (λ t. digest_of s (root t)) first last (decode s).tree

-- what the receiver gets: the number, the length and the bytes that are written
pub record Given : Type 0 where
  pub number : ℕ
  pub size : ℕ
  pub bytes : List ℕ

abbrev pub nothing_given : (number : ℕ) → Given
nothing_given n = record { number = n; size = 0; bytes = [] }

-- the answer of a call: its number and length, and the front of the output
abbrev pub given : Written → Given
given w = record { number = w.number; size = w.size; bytes = take w.size w.output }

-- THE ANSWER FROM THE VIEW: 2 for a long key, 6 for too little room, else the witness; the range, the view and the room are all it looks at
unfoldable pub from_view_answer : (first last : Key) → View → (room : ℕ) → Given
from_view_answer first last v room =
    cond (long_key first || long_key last) (nothing_given (number_of LongKey))
    (cond (ltb room (length (write (from_view v)))) (nothing_given (number_of NoRoom))
    (record { number = 0; size = length (write (from_view v)); bytes = write (from_view v) }))
