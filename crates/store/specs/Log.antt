-- THE BUILD LOG of document 02, request Q-12: a list of edits as bytes. A record is 16 bits, most significant first: operation 2 (0 insert,
-- 1 modify, 2 delete), key length 6, value length 7, zero 1; then key and value.
use Rattle.std.specs.Prelude.{Bool, cond, ◌&&◌, ◌||◌, List, [], ◌∷◌, ◌++◌, ◌≡◌, ℕ, zero, suc, ◌+◌, ◌*◌, ◌/◌, ◌%◌, ◌≤◌, ◌<◌, ltb, eqb, length, take, drop, get_or}
use Rattle.std.proofs.Math.Option.{Option, none, some}
use Rattle.answers.specs.Numbers.{max_key, max_value}
use Rattle.key_order.specs.Order.{Key}
use Rattle.llrb.specs.Tree.{Value}
use Rattle.store.specs.History.{Edit, Insert, Modify, Delete}

-- ---- written

abbrev pub operation_of : Edit → ℕ
operation_of (Insert key value) = 0
operation_of (Modify key value) = 1
operation_of (Delete key) = 2

abbrev pub key_of : Edit → Key
key_of (Insert key value) = key
key_of (Modify key value) = key
key_of (Delete key) = key

-- a delete has none
abbrev pub value_of : Edit → Value
value_of (Insert key value) = value
value_of (Modify key value) = value
value_of (Delete key) = []

pub record LawfulEdit (e : Edit) : Type 0 where
  pub key : length (key_of e) ≤ max_key
  pub value : length (value_of e) ≤ max_value

abbrev pub LawfulLog : List Edit → Type 0
LawfulLog [] = Unit
LawfulLog (e ∷ es) = LawfulEdit e × LawfulLog es

unfoldable pub record_bytes : Edit → List ℕ
record_bytes e = (operation_of e * 64 + length (key_of e)) ∷ length (value_of e) * 2 ∷ (key_of e ++ value_of e)

unfoldable pub log_bytes : List Edit → List ℕ
log_bytes [] = []
log_bytes (e ∷ es) = record_bytes e ++ log_bytes es

-- ---- read: the record at the front of the bytes that are left

abbrev pub operation : List ℕ → ℕ
operation xs = get_or xs 0 0 / 64

abbrev pub key_length : List ℕ → ℕ
key_length xs = get_or xs 0 0 % 64

abbrev pub value_length : List ℕ → ℕ
value_length xs = get_or xs 1 0 / 2

abbrev pub last_bit : List ℕ → ℕ
last_bit xs = get_or xs 1 0 % 2

abbrev pub record_length : List ℕ → ℕ
record_length xs = 2 + key_length xs + value_length xs

-- THE SIX FAULTS of a record
pub data Fault (xs : List ℕ) : Type 0 where
  -- of two bits, so 3
  operation-3 : 2 < operation xs → Fault xs
  long-key : max_key < key_length xs → Fault xs
  long-value : max_value < value_length xs → Fault xs
  delete-with-value : operation xs ≡ 2 → 0 < value_length xs → Fault xs
  last_bit_set : last_bit xs ≡ 1 → Fault xs
  short-tail : length xs < record_length xs → Fault xs

-- the same six, as tests
unfoldable pub faulty : List ℕ → Bool
faulty xs =
    ltb 2 (operation xs) || (ltb max_key (key_length xs) || (ltb max_value (value_length xs)
    || (eqb (operation xs) 2 && ltb 0 (value_length xs) || (eqb (last_bit xs) 1 || ltb (length xs) (record_length xs)))))

abbrev pub edit_of : (operation : ℕ) → Key → Value → Edit
edit_of zero key value = Insert key value
edit_of (suc zero) key value = Modify key value
edit_of (suc (suc n)) key value = Delete key

unfoldable pub first_edit : List ℕ → Edit
first_edit xs = edit_of (operation xs) (take (key_length xs) (drop 2 xs)) (take (value_length xs) (drop (2 + key_length xs) xs))

-- an edit and then those of the rest, if the rest can be read
abbrev pub and_then : Edit → Option (List Edit) → Option (List Edit)
and_then e none = none
and_then e (some es) = some (e ∷ es)

-- the first record, and then the rest as `read` reads it
abbrev pub read_first : (List ℕ → Option (List Edit)) → List ℕ → Option (List Edit)
read_first read [] = some []
read_first read (x ∷ xs) = cond (faulty (x ∷ xs)) none (and_then (first_edit (x ∷ xs)) (read (drop (record_length (x ∷ xs)) (x ∷ xs))))

-- fewer than n records
unfoldable pub read_below : ℕ → List ℕ → Option (List Edit)
read_below zero xs = none
read_below (suc n) xs = read_first (λ ys. read_below n ys) xs

-- The edits of a log; none where it is malformed. A record has two bytes or more, so a log has no more records than bytes.
unfoldable pub read_log : (log : List ℕ) → Option (List Edit)
read_log log = read_below (suc (length log)) log

-- lawful records, and behind them a fault
pub record Malformed (log : List ℕ) : Type 0 where
  pub before : List Edit
  pub lawful : LawfulLog before
  pub rest : List ℕ
  pub some_left : 1 ≤ length rest
  pub fault : Fault rest
  pub parts : log_bytes before ++ rest ≡ log
