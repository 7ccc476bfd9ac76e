-- Tables of keys and values, and what a public call for each row in turn leaves or counts.
use Rattle.std.specs.Prelude.{◌≡◌, Bool, true, false, List, ℕ, zero, suc, ◌+◌, ◌*◌, ◌≤◌, length, take, drop}
use Rattle.key_order.specs.Order.{Key}
use Rattle.llrb.specs.Tree.{Value}
use Rattle.store.specs.Calls.{get_answer, insert_answer, modify_answer, delete_answer, as_hash_tree_answer, witness_answer, key_range_answer, value_range_answer}

-- ---- tables

-- a table of so many rows of 64 bytes; len bytes of each are used, at most so many
pub record Rows (most len rows : ℕ) (table : List ℕ) : Type 0 where
  pub short : len ≤ most
  pub there : 64 * rows ≤ length table

abbrev pub row : (table : List ℕ) (len i : ℕ) → List ℕ
row table len i = take len (drop (64 * i) table)

-- A where P holds, B where it does not
abbrev pub Exactly : Type 0 → Type 0 → Type 0 → Type 0
Exactly P A B = (P → A) × ((P → ⊥) → B)

-- where P holds, the answer is yes and the bytes become `made`; else no, and they stay
abbrev pub Ran : Type 0 → Bool → (before after made : List ℕ) → Type 0
Ran P r before after made = Exactly P ((r ≡ true) × (after ≡ made)) ((r ≡ false) × (after ≡ before))

-- where P holds, the answer is n and the bytes become `made`; else 0, and they stay
abbrev pub Told : Type 0 → (r n : ℕ) → (before after made : List ℕ) → Type 0
Told P r n before after made = Exactly P ((r ≡ n) × (after ≡ made)) ((r ≡ 0) × (after ≡ before))

-- ---- changes: the store after one, and after one for each of the first rows

abbrev pub changed : (op : ℕ) → Key → Value → List ℕ → List ℕ
changed zero k v s = (insert_answer k v s).store
changed (suc zero) k v s = (modify_answer k v s).store
changed (suc (suc n)) k v s = (delete_answer k s).store

unfoldable pub changed_rows : (op : ℕ) (keys : List ℕ) (k : ℕ) (values : List ℕ) (v : ℕ) → (rows : ℕ) → List ℕ → List ℕ
changed_rows op keys k values v zero s = s
changed_rows op keys k values v (suc i) s = changed op (row keys k i) (row values v i) (changed_rows op keys k values v i s)

-- ---- readings: what one counts, and the output after it; and so for the first rows

abbrev pub one : (number : ℕ) → ℕ
one zero = 1
one (suc n) = 0

abbrev pub counted : (op : ℕ) → Key → List ℕ → ℕ
counted zero k s = one (get_answer k s).number
counted (suc n) k s = 1

abbrev pub output : (op : ℕ) → (first last : Key) → List ℕ → List ℕ → List ℕ
output zero k l s out = out
output (suc zero) k l s out = (as_hash_tree_answer s out).output
output (suc (suc zero)) k l s out = (witness_answer k s out).output
output (suc (suc (suc zero))) k l s out = (key_range_answer k l s out).output
output (suc (suc (suc (suc n)))) k l s out = (value_range_answer k l s out).output

unfoldable pub counted_rows : (op : ℕ) (s firsts : List ℕ) (k : ℕ) → (rows : ℕ) → ℕ
counted_rows op s firsts k zero = 0
counted_rows op s firsts k (suc i) = counted_rows op s firsts k i + counted op (row firsts k i) s

unfoldable pub output_rows : (op : ℕ) (s firsts lasts : List ℕ) (k : ℕ) → (rows : ℕ) → List ℕ → List ℕ
output_rows op s firsts lasts k zero out = out
output_rows op s firsts lasts k (suc i) out = output op (row firsts k i) (row lasts k i) s (output_rows op s firsts lasts k i out)
