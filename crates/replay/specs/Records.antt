-- What the code says of the record at the front of some bytes: its three numbers, or a fault that it has.
use Rattle.std.specs.Prelude.{◌≡◌, false, List, ℕ, ◌<◌, length, Ok, Err, Result}
use Rattle.std.proofs.Math.Option.{some}
use Rattle.store.specs.History.{Edit}
use Rattle.store.specs.Log.{operation, key_length, value_length, last_bit, record_length, faulty, read_log}
use Rattle.replay.specs.declared.Fault.{Fault}
use Rattle.replay.specs.declared.Fault.TheVariants as fault
use Rattle.replay.specs.declared.Fault.TheVariants.{LongKey, LongValue, DeleteWithValue, LastBit, ShortTail}
use Rattle.replay.specs.declared.LogRecord.{LogRecord}
use Rattle.replay.specs.declared.Operation.{Operation}
use Rattle.replay.specs.declared.Operation.TheVariants.{Insert, Modify, Delete}

-- the number of an operation in a record
abbrev pub number_for : Operation → ℕ
number_for Insert = 0
number_for Modify = 1
number_for Delete = 2

-- what a number of two bits names
abbrev pub Names : ℕ → Result Operation Fault → Type 0
Names n (Ok o) = number_for o ≡ n
Names n (Err f) = (f ≡ fault.Operation) × (2 < n)

-- the record has this fault
abbrev pub Has : Fault → List ℕ → Type 0
Has fault.Operation xs = 2 < operation xs
Has LongKey xs = 48 < key_length xs
Has LongValue xs = 64 < value_length xs
Has DeleteWithValue xs = (operation xs ≡ 2) × (0 < value_length xs)
Has LastBit xs = last_bit xs ≡ 1
Has ShortTail xs = length xs < record_length xs

pub record Head (xs : List ℕ) (o k v : ℕ) : Type 0 where
  pub faultless : faulty xs ≡ false
  pub operation : o ≡ operation xs
  pub key : k ≡ key_length xs
  pub value : v ≡ value_length xs

abbrev pub Tells : List ℕ → Result LogRecord Fault → Type 0
Tells xs (Ok r) = Head xs (number_for r.operation) r.key_length r.value_length
Tells xs (Err f) = Has f xs

-- it can be read
abbrev pub IsLog : List ℕ → Type 0
IsLog log = (es : List Edit) × (read_log log ≡ some es)
