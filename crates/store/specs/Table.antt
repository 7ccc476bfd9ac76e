-- THE TABLE of document 01, "Numbers a call may answer": when each number is given, and the order where several apply.
-- The calls of specs/Calls answer these numbers; here the order stands once, for all of them.
use Rattle.std.specs.Prelude.{◌≡◌, Bool, true, false, cond, not, ◌&&◌, ◌||◌, List, [], ◌∷◌, ℕ, ltb, leb, eqb, length}
use Rattle.answers.specs.Numbers.{max_message}
use Rattle.key_order.specs.Order.{Key}
use Rattle.sha256.specs.Hashed.{hashed}
use Rattle.slots.specs.Layout.{store_length}
use Rattle.hash_tree.specs.HashTree.{HashTree}
use Rattle.hash_tree.specs.Written.{write, max_depth}
use Rattle.hash_tree.specs.Parse.{Parsed, Got, Bad, parse}
use Rattle.hash_tree.specs.Whole.{rebuilt}
use Rattle.llrb.specs.Tree.{Value, entries}
use Rattle.llrb.specs.Iterate.{head_of, first_above}
use Rattle.witness_trees.specs.Witness.{as_hash_tree, keys, key_range, value_range, keys_with_prefix, witness}
use Rattle.store.specs.Numbers.{Refusal, NotSound, LongKey, LongValue, Reversed, Full, NoRoom, Absent, BadCapacity, Malformed, LongMessage, BadLog, number_of}
use Rattle.store.specs.Decode.{decode}
use Rattle.store.specs.Decide.{on_sound}
use Rattle.store.specs.Calls.{long_key, long_value, crossed_range, is_none, absent, no_free_slot, create_answer, is_empty_answer, count_answer, root_hash_answer, get_answer, first_entry_answer, next_entry_answer, insert_answer, modify_answer, delete_answer, as_hash_tree_answer, keys_answer, witness_answer, keys_with_prefix_answer, key_range_answer, value_range_answer}
use Rattle.llrb.specs.Difference.{difference}
use Rattle.store.specs.Difference.{map_in, lines_bytes, difference_answer}
use Rattle.store.specs.Log.{read_log}
use Rattle.store.specs.Replay.{replay_answer}

-- a refusal, and whether what it is given for holds
pub record Row : Type 0 where
  pub refusal : Refusal
  pub holds : Bool

abbrev pub when : Refusal → Bool → Row
when r b = record { refusal = r; holds = b }

-- where several apply: 1, 2, 3, 4, 7, 5, 6; 13, of document 02, right after 1
abbrev pub order : List Refusal
order = NotSound ∷ BadLog ∷ LongKey ∷ LongValue ∷ Reversed ∷ Absent ∷ Full ∷ NoRoom ∷ []

abbrev pub applies : Refusal → List Row → Bool
applies r [] = false
applies r (x ∷ rows) = eqb (number_of r) (number_of x.refusal) && x.holds || applies r rows

-- the first in the order; 0 where none applies
abbrev pub first_of : List Refusal → List Row → ℕ
first_of [] rows = 0
first_of (r ∷ rs) rows = cond (applies r rows) (number_of r) (first_of rs rows)

abbrev pub first_in : List Row → ℕ
first_in rows = first_of order rows

-- ---- the rows

abbrev pub not_sound : List ℕ → Row
not_sound s = when NotSound (on_sound s (λ m. false) true)

abbrev pub shorter : (out : List ℕ) → HashTree → Row
shorter out t = when NoRoom (ltb (length out) (length (write t)))

-- not one tree and nothing after it
abbrev pub malformed : Parsed → Bool
malformed (Got t []) = false
malformed (Got t (x ∷ rest)) = true
malformed Bad = true

-- of the bytes s, what each call answers
pub record Table (s : List ℕ) : Type 0 where
  pub is_empty : (is_empty_answer s).number ≡ first_in (not_sound s ∷ [])
  pub count : (count_answer s).number ≡ first_in (not_sound s ∷ [])
  pub root_hash : (root_hash_answer s).number ≡ first_in (not_sound s ∷ [])
  pub get : (key : Key) → (get_answer key s).number ≡ first_in (not_sound s ∷ when LongKey (long_key key) ∷ when Absent (absent key (decode s)) ∷ [])
  pub first_entry : (first_entry_answer s).number ≡ first_in (not_sound s ∷ when Absent (is_none (head_of (entries (decode s).tree))) ∷ [])
  pub next_entry : (key : Key)
      → (next_entry_answer key s).number ≡ first_in (not_sound s ∷ when LongKey (long_key key) ∷ when Absent (is_none (first_above key (entries (decode s).tree))) ∷ [])
  pub insert : (key : Key) (value : Value)
      → (insert_answer key value s).number
      ≡ first_in (not_sound s ∷ when LongKey (long_key key) ∷ when LongValue (long_value value) ∷ when Full (absent key (decode s) && no_free_slot (decode s)) ∷ [])
  pub modify : (key : Key) (value : Value)
      → (modify_answer key value s).number
      ≡ first_in (not_sound s ∷ when LongKey (long_key key) ∷ when LongValue (long_value value) ∷ when Absent (absent key (decode s)) ∷ [])
  pub delete : (key : Key) → (delete_answer key s).number ≡ first_in (not_sound s ∷ when LongKey (long_key key) ∷ when Absent (absent key (decode s)) ∷ [])
  pub as_hash_tree : (out : List ℕ) → (as_hash_tree_answer s out).number ≡ first_in (not_sound s ∷ shorter out (as_hash_tree (decode s).tree) ∷ [])
  pub keys : (out : List ℕ) → (keys_answer s out).number ≡ first_in (not_sound s ∷ shorter out (keys (decode s).tree) ∷ [])
  pub witness : (key : Key) (out : List ℕ)
      → (witness_answer key s out).number ≡ first_in (not_sound s ∷ when LongKey (long_key key) ∷ shorter out (witness key (decode s).tree) ∷ [])
  pub keys_with_prefix : (prefix : Key) (out : List ℕ)
      → (keys_with_prefix_answer prefix s out).number ≡ first_in (not_sound s ∷ when LongKey (long_key prefix) ∷ shorter out (keys_with_prefix prefix (decode s).tree) ∷ [])
  pub key_range : (first last : Key) (out : List ℕ)
      → (key_range_answer first last s out).number
      ≡ first_in (not_sound s ∷ when LongKey (long_key first || long_key last) ∷ when Reversed (crossed_range first last (decode s).tree) ∷ shorter out (key_range first last (decode s).tree) ∷ [])
  pub value_range : (first last : Key) (out : List ℕ)
      → (value_range_answer first last s out).number
      ≡ first_in (not_sound s ∷ when LongKey (long_key first || long_key last) ∷ when Reversed (crossed_range first last (decode s).tree) ∷ shorter out (value_range first last (decode s).tree) ∷ [])
  pub replay : (log : List ℕ) → (replay_answer log s).number ≡ first_in (not_sound s ∷ when BadLog (is_none (read_log log)) ∷ [])
  -- the old store s comes before the new one
  pub difference : (new out : List ℕ)
      → (difference_answer s new out).number
      ≡ first_in (not_sound s ∷ not_sound new ∷ when NoRoom (ltb (length out) (length (lines_bytes (difference (map_in (decode s)) (map_in (decode new)))))) ∷ [])
  -- create alone answers 8, and nothing else
  pub create : (capacity : ℕ)
      → (create_answer capacity s).number ≡ cond (eqb capacity 0 || (ltb 1024 capacity || not (eqb (length s) (store_length capacity)))) (number_of BadCapacity) 0
  -- rebuild answers 9 and hash 10, of bytes that are no store's
  pub rebuild : (w : List ℕ) → (rebuilt w).number ≡ cond (malformed (parse max_depth w)) (number_of Malformed) 0
  pub hash : (message : List ℕ) → (hashed message).number ≡ cond (not (leb (length message) max_message)) (number_of LongMessage) 0
