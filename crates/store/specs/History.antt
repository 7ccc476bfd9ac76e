-- Histories of a store: any list of inserts, modifies and deletes, refused ones included, from a fresh store. The last call stands first.
use Rattle.std.specs.Prelude.{cond, List, [], ◌∷◌, ℕ, suc, ◌+◌, eqb}
use Rattle.std.proofs.Math.Option.{Option, none, some}
use Rattle.key_order.specs.Order.{Key, cmp, pick}
use Rattle.llrb.specs.Tree.{Value}
use Rattle.llrb.specs.Map.{Pair, put, change, drop}
use Rattle.store.specs.Counts.{one}
use Rattle.store.specs.Numbers.{Outcome, refused, done}
use Rattle.store.specs.Model.{Model, fresh, inserted, modified, deleted}
use Rattle.store.specs.Encode.{encode}
use Rattle.store.specs.Answers.{Changed}
use Rattle.store.specs.Calls.{is_none, insert_in, modify_in, delete_in, insert_answer, modify_answer, delete_answer}

pub data Edit : Type 0 where
  Insert : Key → Value → Edit
  Modify : Key → Value → Edit
  Delete : Key → Edit

-- the call
abbrev pub answer_of : Edit → List ℕ → Changed
answer_of (Insert key value) s = insert_answer key value s
answer_of (Modify key value) s = modify_answer key value s
answer_of (Delete key) s = delete_answer key s

-- the store's bytes after a history
unfoldable pub store_after : (capacity : ℕ) → List Edit → List ℕ
store_after capacity [] = encode (fresh capacity)
store_after capacity (e ∷ h) = (answer_of e (store_after capacity h)).store

-- the calls of a history that answered 0
unfoldable pub accepted : (capacity : ℕ) → List Edit → List Edit
accepted capacity [] = []
accepted capacity (e ∷ h) =
    cond (eqb (answer_of e (store_after capacity h)).number 0) (e ∷ accepted capacity h) (accepted capacity h)

-- ---- what accepted calls leave

-- the last value of a key; none where it was never inserted, or deleted since
unfoldable pub last_value : Key → List Edit → Option Value
last_value key [] = none
last_value key (Insert k v ∷ h) = pick (cmp key k) (last_value key h) (some v) (last_value key h)
last_value key (Modify k v ∷ h) = pick (cmp key k) (last_value key h) (some v) (last_value key h)
last_value key (Delete k ∷ h) = pick (cmp key k) (last_value key h) none (last_value key h)

-- the same as a list of keys with values, in order
unfoldable pub map_after : List Edit → List Pair
map_after [] = []
map_after (Insert k v ∷ h) = put k v (map_after h)
map_after (Modify k v ∷ h) = change k v (map_after h)
map_after (Delete k ∷ h) = drop k (map_after h)

-- its first pair, and the first whose key is above this one
abbrev pub first_pair : List Pair → Option Pair
first_pair [] = none
first_pair (p ∷ L) = some p

unfoldable pub pair_above : Key → List Pair → Option Pair
pair_above key [] = none
pair_above key (p ∷ L) = pick (cmp key p.key) (some p) (pair_above key L) (pair_above key L)

-- the tree with its slots, and the chain: each call as it was done
unfoldable pub model_from : (capacity : ℕ) → List Edit → Model
model_from capacity [] = fresh capacity
model_from capacity (Insert k v ∷ h) = inserted k v (model_from capacity h)
model_from capacity (Modify k v ∷ h) = modified k v (model_from capacity h)
model_from capacity (Delete k ∷ h) = deleted k (model_from capacity h)

-- inserts of absent keys
unfoldable pub new_keys : List Edit → ℕ
new_keys [] = 0
new_keys (Insert k v ∷ h) = one (is_none (last_value k h)) + new_keys h
new_keys (Modify k v ∷ h) = new_keys h
new_keys (Delete k ∷ h) = new_keys h

unfoldable pub deletes : List Edit → ℕ
deletes [] = 0
deletes (Insert k v ∷ h) = deletes h
deletes (Modify k v ∷ h) = deletes h
deletes (Delete k ∷ h) = suc (deletes h)

-- ---- the same history on the model

abbrev pub edit_in : Edit → Model → Outcome Model
edit_in (Insert key value) m = insert_in key value m
edit_in (Modify key value) m = modify_in key value m
edit_in (Delete key) m = delete_in key m

abbrev pub after : Outcome Model → Model → Model
after (refused r) m = m
after (done n) m = n

unfoldable pub model_after : (capacity : ℕ) → List Edit → Model
model_after capacity [] = fresh capacity
model_after capacity (e ∷ h) = after (edit_in e (model_after capacity h)) (model_after capacity h)
