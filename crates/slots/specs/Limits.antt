-- The edition and the lengths of a store (document 01, "Store layout"); its limits are those of crate answers.
use Rattle.std.specs.Prelude.{ℕ, zero, suc, ◌+◌, ◌*◌}
pub use Rattle.answers.specs.Numbers.{max_capacity, max_key, max_value}

-- the edition that create writes and the calls read
abbrev pub current : ℕ
current = 1

-- what the count of a subtree of n entries is in an edition: edition 1 has zero bits there
abbrev pub count_in : (edition n : ℕ) → ℕ
count_in zero n = 0
count_in (suc zero) n = 0
count_in (suc (suc e)) n = n

-- bytes in the header, and in a slot: its head, its key, its value and its digest
abbrev pub header_length : ℕ
header_length = 8

abbrev pub slot_length : ℕ
slot_length = 150

-- the length of a store of this capacity
abbrev pub store_length : (capacity : ℕ) → ℕ
store_length cap = header_length + slot_length * cap
