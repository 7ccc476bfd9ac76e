-- What it is to put bytes at a place, and the room that is left.
use Rattle.std.specs.Prelude.{◌≡◌, cond, List, ℕ, Option, Some, None, ◌+◌, ◌-◌, leb, length}
use Rattle.std.proofs.lemmas.List.Edits.{sets}

-- o with w put at `at` is o', and `next` is the place after it
pub record Puts (o o' : List ℕ) (at next : ℕ) (w : List ℕ) : Type 0 where
  pub place : next ≡ at + length w
  pub bytes : o' ≡ sets o at w

-- what is left of a room after n bytes; none is a room too small
abbrev pub room_after : ℕ → Option ℕ → Option ℕ
room_after n None = None
room_after n (Some m) = cond (leb n m) (Some (m - n)) None
