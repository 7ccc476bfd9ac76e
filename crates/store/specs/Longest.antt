-- The longest witness that a sound store can give: an output of so many bytes has room for any.
use Rattle.std.specs.Prelude.{◌≡◌, false, List, ℕ, ◌≤◌, length}
use Rattle.key_order.specs.Order.{Key}
use Rattle.store.specs.Decode.{decode}
use Rattle.store.specs.Calls.{crossed_range, as_hash_tree_answer, keys_answer, witness_answer, keys_with_prefix_answer, key_range_answer, value_range_answer}

-- 1,024 entries with the longest keys and values, 116 bytes each, joined by 1,023 Forks of 2
abbrev pub longest_witness : ℕ
longest_witness = 120830

-- s is sound and out has as many bytes: no witness call answers 6
pub record RoomForAny (s out : List ℕ) : Type 0 where
  pub as_hash_tree : (as_hash_tree_answer s out).number ≡ 0
  pub keys : (keys_answer s out).number ≡ 0
  pub witness : (key : Key) → length key ≤ 48 → (witness_answer key s out).number ≡ 0
  pub keys_with_prefix : (prefix : Key) → length prefix ≤ 48 → (keys_with_prefix_answer prefix s out).number ≡ 0
  pub key_range : (first last : Key) → length first ≤ 48 → length last ≤ 48 → crossed_range first last (decode s).tree ≡ false
      → (key_range_answer first last s out).number ≡ 0
  pub value_range : (first last : Key) → length first ≤ 48 → length last ≤ 48 → crossed_range first last (decode s).tree ≡ false
      → (value_range_answer first last s out).number ≡ 0
