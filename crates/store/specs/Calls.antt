-- THE PUBLIC CALLS of document 01, each one function of the bytes and arguments that it is given. First what a call makes of the model
-- that a sound store holds, its refusals in the order 2, 3, 4, 7, 5, 6; then the call itself: 1 if the store is not sound, else that.
-- `rebuild` and `hash` have no store; they stand in crates hash_tree and sha256.
use Rattle.std.specs.Prelude.{Bool, true, false, not, ◌&&◌, ◌||◌, List, ℕ, ltb, eqb, length}
use Rattle.std.proofs.Math.Option.{Option, none, some}
use Rattle.key_order.specs.Order.{Key, cmp, pick}
use Rattle.answers.specs.Numbers.{max_key, max_value, max_capacity}
use Rattle.slots.specs.Layout.{store_length}
use Rattle.hash_tree.specs.HashTree.{HashTree}
use Rattle.llrb.specs.Tree.{Value, Entry, Tree, entries, size, get}
use Rattle.llrb.specs.Digests.{root_hash}
use Rattle.llrb.specs.Iterate.{head_of, first_above}
use Rattle.witness_trees.specs.Witness.{lower_bound, upper_bound, as_hash_tree, keys, key_range, value_range, keys_with_prefix, witness}
use Rattle.witness_trees.specs.Rules.{crossed}
use Rattle.store.specs.Numbers.{Refusal, NotSound, LongKey, LongValue, Reversed, Full, Absent, BadCapacity, Outcome, refused, done}
use Rattle.store.specs.Model.{Model, fresh, inserted, modified, deleted}
use Rattle.store.specs.Decide.{on_sound}
use Rattle.store.specs.Answers.{Told, told, Counted, counted, Digested, digested, Found, found, Changed, changed, Written, written, fitting}

-- ---- tests

-- a refusal, where the test says so
abbrev pub refuse : {A : Type 0} → Bool → Refusal → Outcome A → Outcome A
refuse true r o = refused r
refuse false r o = o

abbrev pub long_key : Key → Bool
long_key key = ltb max_key (length key)

abbrev pub long_value : Value → Bool
long_value value = ltb max_value (length value)

-- first is above last
abbrev pub reversed : (first last : Key) → Bool
reversed first last = pick (cmp first last) false false true

-- first is above last, both bounds exist, and the low one is above the high one
abbrev pub crossed_range : (first last : Key) → Tree → Bool
crossed_range first last t = reversed first last && crossed (lower_bound first t) (upper_bound last t)

abbrev pub is_none : {A : Type 0} → Option A → Bool
is_none none = true
is_none (some a) = false

abbrev pub absent : Key → Model → Bool
absent key m = is_none (get key m.tree)

abbrev pub no_free_slot : Model → Bool
no_free_slot m = eqb (length m.free) 0

abbrev pub entry_or : Refusal → Option Entry → Outcome Entry
entry_or r none = refused r
entry_or r (some e) = done e

-- ---- of the model that a sound store holds

unfoldable pub get_in : Key → Model → Outcome Entry
get_in key m = refuse (long_key key) LongKey (entry_or Absent (get key m.tree))

-- the first entry in order
unfoldable pub first_in : Model → Outcome Entry
first_in m = entry_or Absent (head_of (entries m.tree))

-- the first entry in order whose key is above this one, present or not
unfoldable pub next_in : Key → Model → Outcome Entry
next_in key m = refuse (long_key key) LongKey (entry_or Absent (first_above key (entries m.tree)))

unfoldable pub insert_in : Key → Value → Model → Outcome Model
insert_in key value m =
    refuse (long_key key) LongKey
    (refuse (long_value value) LongValue
    (refuse (absent key m && no_free_slot m) Full
    (done (inserted key value m))))

unfoldable pub modify_in : Key → Value → Model → Outcome Model
modify_in key value m =
    refuse (long_key key) LongKey
    (refuse (long_value value) LongValue
    (refuse (absent key m) Absent
    (done (modified key value m))))

unfoldable pub delete_in : Key → Model → Outcome Model
delete_in key m =
    refuse (long_key key) LongKey
    (refuse (absent key m) Absent
    (done (deleted key m)))

-- a witness about one key or prefix, and about a range
unfoldable pub of_key : (Key → Tree → HashTree) → Key → Model → Outcome HashTree
of_key make key m = refuse (long_key key) LongKey (done (make key m.tree))

unfoldable pub of_range : (Key → Key → Tree → HashTree) → (first last : Key) → Model → Outcome HashTree
of_range make first last m =
    refuse (long_key first || long_key last) LongKey
    (refuse (crossed_range first last m.tree) Reversed
    (done (make first last m.tree)))

-- ---- the calls

-- lent a buffer and no store: its old bytes do not matter
unfoldable pub create_answer : (capacity : ℕ) → List ℕ → Changed
create_answer capacity s =
    changed s
    (refuse (eqb capacity 0 || (ltb max_capacity capacity || not (eqb (length s) (store_length capacity)))) BadCapacity
    (done (fresh capacity)))

unfoldable pub is_empty_answer : List ℕ → Told
is_empty_answer s = told (on_sound s (λ m. done (eqb (size m.tree) 0)) (refused NotSound))

unfoldable pub count_answer : List ℕ → Counted
count_answer s = counted (on_sound s (λ m. done (size m.tree)) (refused NotSound))

unfoldable pub root_hash_answer : List ℕ → Digested
root_hash_answer s = digested (on_sound s (λ m. done (root_hash m.tree)) (refused NotSound))

unfoldable pub get_answer : Key → List ℕ → Found
get_answer key s = found s (on_sound s (get_in key) (refused NotSound))

unfoldable pub first_entry_answer : List ℕ → Found
first_entry_answer s = found s (on_sound s first_in (refused NotSound))

unfoldable pub next_entry_answer : Key → List ℕ → Found
next_entry_answer key s = found s (on_sound s (next_in key) (refused NotSound))

unfoldable pub insert_answer : Key → Value → List ℕ → Changed
insert_answer key value s = changed s (on_sound s (insert_in key value) (refused NotSound))

unfoldable pub modify_answer : Key → Value → List ℕ → Changed
modify_answer key value s = changed s (on_sound s (modify_in key value) (refused NotSound))

unfoldable pub delete_answer : Key → List ℕ → Changed
delete_answer key s = changed s (on_sound s (delete_in key) (refused NotSound))

-- a witness that a sound store gives, put into the output
unfoldable pub witnessed : (Model → Outcome HashTree) → (s out : List ℕ) → Written
witnessed make s out = written out (fitting out (on_sound s make (refused NotSound)))

-- What each of the six shows, as a rule for each entry that a reader can believe, stands in witness_trees/specs/Rules (and Shown, `shown`); that
-- the Rust's functions named here show just that is proved in witness_trees/proofs/Calls.

-- every entry with its value (`as-hash-tree-is`)
unfoldable pub as_hash_tree_answer : (s out : List ℕ) → Written
as_hash_tree_answer = witnessed (λ m. done (as_hash_tree m.tree))

-- every key, values cut (`keys-is`)
unfoldable pub keys_answer : (s out : List ℕ) → Written
keys_answer = witnessed (λ m. done (keys m.tree))

-- the key with its value, or its neighbours: `range_rule` from the key to itself (`witness-is`)
unfoldable pub witness_answer : Key → (s out : List ℕ) → Written
witness_answer key = witnessed (of_key witness key)

-- `prefix_rule` (`keys-with-prefix-is`)
unfoldable pub keys_with_prefix_answer : (prefix : Key) → (s out : List ℕ) → Written
keys_with_prefix_answer prefix = witnessed (of_key keys_with_prefix prefix)

-- `range_rule` with keys alone (`key-range-is`), and with values (`value-range-is`)
unfoldable pub key_range_answer : (first last : Key) → (s out : List ℕ) → Written
key_range_answer first last = witnessed (of_range key_range first last)

unfoldable pub value_range_answer : (first last : Key) → (s out : List ℕ) → Written
value_range_answer first last = witnessed (of_range value_range first last)
