-- What a call answers (document 01, "Numbers a call may answer"): with any number but 0 other numbers are 0, a yes or no is no,
-- digests are 32 zero bytes, and every lent byte is as it was found.
use Rattle.std.specs.Prelude.{Bool, false, cond, List, ◌++◌, ℕ, ltb, length, drop, replicate, Ok, Err, Result, ⊤}
use Rattle.answers.specs.Numbers.{Refusal, NoRoom, number_of, Outcome, refused, done}

-- is_empty
pub record Told : Type 0 where
  pub number : ℕ
  pub yes : Bool

-- count
pub record Counted : Type 0 where
  pub number : ℕ
  pub count : ℕ

-- root_hash, rebuild, hash
pub record Digested : Type 0 where
  pub number : ℕ
  pub digest : List ℕ

-- get and iteration: where in the store the key and the value lie
pub record Found : Type 0 where
  pub number : ℕ
  pub key_at : ℕ
  pub key_length : ℕ
  pub value_at : ℕ
  pub value_length : ℕ

abbrev pub told : Outcome Bool → Told
told (refused r) = record { number = number_of r; yes = false }
told (done b) = record { number = 0; yes = b }

abbrev pub counted : Outcome ℕ → Counted
counted (refused r) = record { number = number_of r; count = 0 }
counted (done n) = record { number = 0; count = n }

abbrev pub digested : Outcome (List ℕ) → Digested
digested (refused r) = record { number = number_of r; digest = replicate 32 0 }
digested (done d) = record { number = 0; digest = d }

-- a number, and no place
abbrev pub no_entry : (number : ℕ) → Found
no_entry n = record { number = n; key_at = 0; key_length = 0; value_at = 0; value_length = 0 }

-- ---- calls that are lent an output: the number, the length of what is written, and the output's bytes at the end

pub record Written : Type 0 where
  pub number : ℕ
  pub size : ℕ
  pub output : List ℕ

abbrev pub written : (out : List ℕ) → Outcome (List ℕ) → Written
written out (refused r) = record { number = number_of r; size = 0; output = out }
written out (done w) = record { number = 0; size = length w; output = w ++ drop (length w) out }

-- these bytes, if the output has room for them
abbrev pub fitted : (out : List ℕ) → Outcome (List ℕ) → Outcome (List ℕ)
fitted out (refused r) = refused r
fitted out (done w) = cond (ltb (length out) (length w)) (refused NoRoom) (done w)

-- w at the front of the output, if there is room
abbrev pub put_front : (out w : List ℕ) → Written
put_front out w = written out (fitted out (done w))

-- what a call handed back, how many bytes it wrote or why it wrote none, and the output's final bytes
abbrev pub answered : Result ℕ Refusal → List ℕ → Written
answered (Ok n) out = record { number = 0; size = n; output = out }
answered (Err r) out = record { number = number_of r; size = 0; output = out }

-- ---- calls that change a store: the number, and the store's bytes at the end

pub record Changed : Type 0 where
  pub number : ℕ
  pub store : List ℕ

abbrev pub changed_of : (number : ℕ) → List ℕ → Changed
changed_of n s = record { number = n; store = s }

-- the number of a call that hands nothing back
abbrev pub number_in : Result ⊤ Refusal → ℕ
number_in (Ok x) = 0
number_in (Err r) = number_of r
