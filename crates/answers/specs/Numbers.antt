-- The numbers a call may answer (document 01, "Numbers a call may answer", and document 02's 11 to 15). 0 is done; each refusal has
-- one number. The limits that they speak of.
use Rattle.std.specs.Prelude.{ℕ, Ok, Err, Result}
pub use Rattle.answers.specs.declared.Refusal.{Refusal}
pub use Rattle.answers.specs.declared.Refusal.TheVariants.{NotSound, LongKey, LongValue, Reversed, Full, NoRoom, Absent, BadCapacity, Malformed, LongMessage, IllFormed, NotCbor, BadLog, BadPath, Unlike}

abbrev pub number_of : Refusal → ℕ
number_of NotSound = 1
number_of LongKey = 2
number_of LongValue = 3
number_of Reversed = 4
number_of Full = 5
number_of NoRoom = 6
number_of Absent = 7
number_of BadCapacity = 8
number_of Malformed = 9
number_of LongMessage = 10
number_of IllFormed = 11
number_of NotCbor = 12
number_of BadLog = 13
number_of BadPath = 14
number_of Unlike = 15

-- what a call comes to: a refusal, or what it asked for
pub data Outcome (A : Type 0) : Type 0 where
  refused : Refusal → Outcome A
  done : A → Outcome A

-- what a call of the code comes to
abbrev pub outcome : {A : Type 0} → Result A Refusal → Outcome A
outcome (Ok x) = done x
outcome (Err r) = refused r

-- ---- limits

abbrev pub max_key : ℕ
max_key = 48

abbrev pub max_value : ℕ
max_value = 64

abbrev pub max_capacity : ℕ
max_capacity = 1024

abbrev pub max_message : ℕ
max_message = 65536
