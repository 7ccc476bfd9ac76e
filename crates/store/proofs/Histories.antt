-- What a history leaves: the map of its accepted calls, and the live count.
use mathlib.Core.Path.{◌≡◌, refl, sym, ap, ◌∙◌}
use mathlib.Core.List.{List, [], ◌∷◌}
use mathlib.Core.Option.{Option, none, some, map}
use Prim.Native.Nat.{ℕ, suc, ◌+◌, ◌≤◌}
use native.Mathlib.Omega.{arith}
use lib.ListN.{length}
use Rattle.std.specs.declared.cmp.Ordering.{Ordering}
use Rattle.std.specs.declared.cmp.Ordering.TheVariants.{Less, Equal, Greater}
use Rattle.key_order.specs.Order.{Key, cmp, pick}
use Rattle.key_order.proofs.Laws.{lt≢eq, gt≢eq, cmp-eq}
use Rattle.llrb.specs.Tree.{Value, Entry, Tree, entries, size, get, insert, modify}
use Rattle.llrb.specs.Delete.{delete}
use Rattle.llrb.specs.Sorted.{Mem}
use Rattle.llrb.specs.Shape as shape
use Rattle.llrb.proofs.Maps.{get_insert_same, get_insert_other, get-delete-same, get-delete-other}
use Rattle.llrb.proofs.Replace.{insert-present}
use Rattle.store.specs.Counts.{one}
use Rattle.store.specs.Model.{Model, value_in, head, tail, fresh, free_after, inserted, modified, deleted}
use Rattle.store.specs.Sound.{Lawful}
use Rattle.store.specs.Calls.{is_none}
use Rattle.store.specs.History.{Edit, accepted, last_value, new_keys, deletes, model_after}
use Rattle.store.proofs.Decoding.{live-and-free}
use Rattle.store.proofs.Operating.{tree-lawful, get-mem}
use Rattle.store.proofs.Calling.{Done, newly, again, changes, goes, done-lawful}
use Rattle.store.proofs.Running.{model-lawful, Step, stays, moves, step}

-- ---- a key's value after insert, modify and delete

abbrev value_of : Key → Tree → Option Value
value_of k t = map (λ (e : Entry). e.value) (get k t)

value-insert : (j : Key) (x : Entry) {t : Tree} → shape.Lawful t → value_of j (insert x t) ≡ pick (cmp j x.key) (value_of j t) (some x.value) (value_of j t)
value-insert j x {t} w = at (cmp j x.key) refl
  where
    at : (o : Ordering) → cmp j x.key ≡ o → value_of j (insert x t) ≡ pick o (value_of j t) (some x.value) (value_of j t)
    at Less q = get_insert_other j x w (lt≢eq q)
    at Equal q = ap (λ (k : Key). value_of k (insert x t)) (cmp-eq j x.key q) ∙ get_insert_same x w
    at Greater q = get_insert_other j x w (gt≢eq q)

value-modify : (j k : Key) (v : Value) {t : Tree} → shape.Lawful t → Mem k (entries t) → value_of j (modify k v t) ≡ pick (cmp j k) (value_of j t) (some v) (value_of j t)
value-modify j k v {t} w m =
    let x : Entry = record { slot = 0; key = k; value = v } in
    ap (value_of j) (sym (insert-present x w m)) ∙ value-insert j x w

value-delete : (j k : Key) {t : Tree} → shape.Lawful t → value_of j (delete k t) ≡ pick (cmp j k) (value_of j t) none (value_of j t)
value-delete j k {t} w = at (cmp j k) refl
  where
    at : (o : Ordering) → cmp j k ≡ o → value_of j (delete k t) ≡ pick o (value_of j t) none (value_of j t)
    at Less q = get-delete-other j k w (lt≢eq q)
    at Equal q = ap (λ (i : Key). value_of i (delete k t)) (cmp-eq j k q) ∙ get-delete-same k w
    at Greater q = get-delete-other j k w (gt≢eq q)

-- an accepted edit, seen by one key: `last_value` of one call more
done-value : (j : Key) {d : Edit} {m n : Model} (h : List Edit) → Lawful m → Done d m n → value_in j m ≡ last_value j h → value_in j n ≡ last_value j (d ∷ h)
unfolding last_value inserted modified deleted
done-value j {m = m} h g (newly {k = k} {v = v} p q e f) i = value-insert j (record { slot = head m.free; key = k; value = v }) (tree-lawful g) ∙ rw i
done-value j {m = m} h g (again {k = k} {v = v} p q e) i = value-insert j (record { slot = head m.free; key = k; value = v }) (tree-lawful g) ∙ rw i
done-value j {m = m} h g (changes {k = k} {v = v} {e = x} p q e) i = value-modify j k v (tree-lawful g) (get-mem k m.tree x g.ordered e) ∙ rw i
done-value j h g (goes {k = k} p e) i = value-delete j k (tree-lawful g) ∙ rw i

-- ---- an accepted edit and the number of entries

shorter : (f : List ℕ) → 1 ≤ length f → length f ≡ suc (length (tail f))
shorter [] p = absurd (omega arith)
shorter (x ∷ f) p = refl

done-live : {d : Edit} {m n : Model} (h : List Edit) → Lawful m → Done d m n → ((j : Key) → value_in j m ≡ last_value j h)
    → size m.tree + deletes h ≡ new_keys h → size n.tree + deletes (d ∷ h) ≡ new_keys (d ∷ h)
unfolding new_keys deletes inserted modified deleted
done-live {d} {m} {n} h g c s i = go c (live-and-free g) (live-and-free (done-lawful g c))
  where
    go : {d : Edit} {n : Model} → Done d m n → size m.tree + length m.free ≡ m.capacity → size n.tree + length n.free ≡ n.capacity
        → size n.tree + deletes (d ∷ h) ≡ new_keys (d ∷ h)
    go (newly {k = k} {v = v} p q e f) a b =
        let z : one (is_none (last_value k h)) ≡ 1 = rw (← s k, e) in
        let u : length (free_after (get k m.tree) m.free) ≡ length (tail m.free) = rw e in
        omega (arith, shorter m.free f)
    go (again {k = k} {v = v} p q e) a b =
        let z : one (is_none (last_value k h)) ≡ 0 = rw (← s k, e) in
        let u : length (free_after (get k m.tree) m.free) ≡ length m.free = rw e in
        omega arith
    go (changes p q e) a b = omega arith
    go (goes p e) a b = omega arith

-- ---- any history

module _ (capacity : ℕ) (low : 1 ≤ capacity) (high : capacity ≤ 1024) where
  map-start : (j : Key) → value_in j (model_after capacity []) ≡ last_value j (accepted capacity [])
  unfolding model_after accepted fresh get last_value
  map-start j = refl

  live-start : size (model_after capacity []).tree + deletes (accepted capacity []) ≡ new_keys (accepted capacity [])
  unfolding model_after accepted fresh size new_keys deletes
  live-start = refl

  -- exactly the keys that the accepted calls leave, each with its last value
  pub map-after : (h : List Edit) (j : Key) → value_in j (model_after capacity h) ≡ last_value j (accepted capacity h)
  map-after [] j = map-start j
  map-after (d ∷ h) j = at (step capacity low high d h) (map-after h j)
    where
      at : Step capacity low high d h → value_in j (model_after capacity h) ≡ last_value j (accepted capacity h) → value_in j (model_after capacity (d ∷ h)) ≡ last_value j (accepted capacity (d ∷ h))
      at (stays e f) i = rw (e, f) i
      at (moves c f) i = rw f (done-value j (accepted capacity h) (model-lawful capacity low high h) c i)

  -- accepted inserts of absent keys less accepted deletes
  pub live-after : (h : List Edit) → size (model_after capacity h).tree + deletes (accepted capacity h) ≡ new_keys (accepted capacity h)
  live-after [] = live-start
  live-after (d ∷ h) = at (step capacity low high d h) (live-after h)
    where
      at : Step capacity low high d h → size (model_after capacity h).tree + deletes (accepted capacity h) ≡ new_keys (accepted capacity h)
          → size (model_after capacity (d ∷ h)).tree + deletes (accepted capacity (d ∷ h)) ≡ new_keys (accepted capacity (d ∷ h))
      at (stays e f) i = rw (e, f) i
      at (moves c f) i = rw f (done-live (accepted capacity h) (model-lawful capacity low high h) c (map-after h) i)
