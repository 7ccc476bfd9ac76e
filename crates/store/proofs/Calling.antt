-- What a call comes to: why it is refused, or that it is done and on what grounds; each edit keeps a model lawful.
use mathlib.Core.Path.{◌≡◌, refl}
use mathlib.Core.Bool.{Bool, true, false, ◌&&◌}
use mathlib.Core.Option.{Option, none, some}
use Prim.Native.Nat.{ℕ, ◌≤◌}
use native.Mathlib.Omega.{arith}
use lib.Dec.{eqb}
use lib.ListN.{length}
use borrow.Author.Tests.{ltb-false, eqb-false, le-ltb}
use Rattle.key_order.specs.Order.{Key}
use Rattle.llrb.specs.Tree.{Value, Entry, get}
use Rattle.store.specs.Numbers.{Refusal, NotSound, LongKey, LongValue, Reversed, Full, NoRoom, Absent, BadCapacity, Malformed, LongMessage, IllFormed, NotCbor, BadLog, BadPath, Unlike, number_of, Outcome, refused, done}
use Rattle.store.specs.Model.{Model, inserted, modified, deleted}
use Rattle.store.specs.Sound.{Lawful}
use Rattle.store.specs.Calls.{refuse, long_key, long_value, is_none, absent as is_absent, no_free_slot, insert_in, modify_in, delete_in}
use Rattle.store.specs.History.{Edit, Insert, Modify, Delete, edit_in, after}
use Rattle.store.proofs.Operating.{present, absent, inserted-lawful, modified-lawful, deleted-lawful}

-- a refusal's number is never 0
pub never-zero : (r : Refusal) → eqb (number_of r) 0 ≡ false
never-zero NotSound = refl
never-zero LongKey = refl
never-zero LongValue = refl
never-zero Reversed = refl
never-zero Full = refl
never-zero NoRoom = refl
never-zero Absent = refl
never-zero BadCapacity = refl
never-zero Malformed = refl
never-zero LongMessage = refl
never-zero IllFormed = refl
never-zero NotCbor = refl
never-zero BadLog = refl
never-zero BadPath = refl
never-zero Unlike = refl

-- ---- an edit that is done

pub data Done : Edit → Model → Model → Type 0 where
  newly : {k : Key} {v : Value} {m : Model} → length k ≤ 48 → length v ≤ 64 → get k m.tree ≡ none → 1 ≤ length m.free → Done (Insert k v) m (inserted k v m)
  again : {k : Key} {v : Value} {m : Model} {e : Entry} → length k ≤ 48 → length v ≤ 64 → get k m.tree ≡ some e → Done (Insert k v) m (inserted k v m)
  changes : {k : Key} {v : Value} {m : Model} {e : Entry} → length k ≤ 48 → length v ≤ 64 → get k m.tree ≡ some e → Done (Modify k v) m (modified k v m)
  goes : {k : Key} {m : Model} {e : Entry} → length k ≤ 48 → get k m.tree ≡ some e → Done (Delete k) m (deleted k m)

-- refused, or done on these grounds
pub data Verdict (d : Edit) (m : Model) : Outcome Model → Type 0 where
  not_done : {r : Refusal} → Verdict d m (refused r)
  is-done : {n : Model} → Done d m n → Verdict d m (done n)

insert-verdict : (k : Key) (v : Value) (m : Model) → Verdict (Insert k v) m (insert_in k v m)
unfolding insert_in
insert-verdict k v m = at (long_key k) (long_value v) refl refl (get k m.tree) refl (no_free_slot m) refl
  where
    at : (a b : Bool) → long_key k ≡ a → long_value v ≡ b → (o : Option Entry) → get k m.tree ≡ o → (c : Bool) → no_free_slot m ≡ c
        → Verdict (Insert k v) m (refuse a LongKey (refuse b LongValue (refuse (is_none o && c) Full (done (inserted k v m)))))
    at true b p q o h c f = not_done
    at false true p q o h c f = not_done
    at false false p q none h true f = not_done
    at false false p q none h false f =
        is-done (newly (ltb-false 48 (length k) p) (ltb-false 64 (length v) q) h (some-free (length m.free) (eqb-false (length m.free) 0 f)))
      where
        some-free : (n : ℕ) → (n ≡ 0 → ⊥) → 1 ≤ n
        some-free n z = omega arith
    at false false p q (some e) h c f = is-done (again (ltb-false 48 (length k) p) (ltb-false 64 (length v) q) h)

modify-verdict : (k : Key) (v : Value) (m : Model) → Verdict (Modify k v) m (modify_in k v m)
unfolding modify_in
modify-verdict k v m = at (long_key k) (long_value v) refl refl (get k m.tree) refl
  where
    at : (a b : Bool) → long_key k ≡ a → long_value v ≡ b → (o : Option Entry) → get k m.tree ≡ o
        → Verdict (Modify k v) m (refuse a LongKey (refuse b LongValue (refuse (is_none o) Absent (done (modified k v m)))))
    at true b p q o h = not_done
    at false true p q o h = not_done
    at false false p q none h = not_done
    at false false p q (some e) h = is-done (changes (ltb-false 48 (length k) p) (ltb-false 64 (length v) q) h)

delete-verdict : (k : Key) (m : Model) → Verdict (Delete k) m (delete_in k m)
unfolding delete_in
delete-verdict k m = at (long_key k) refl (get k m.tree) refl
  where
    at : (a : Bool) → long_key k ≡ a → (o : Option Entry) → get k m.tree ≡ o → Verdict (Delete k) m (refuse a LongKey (refuse (is_none o) Absent (done (deleted k m))))
    at true p o h = not_done
    at false p none h = not_done
    at false p (some e) h = is-done (goes (ltb-false 48 (length k) p) h)

pub verdict : (d : Edit) (m : Model) → Verdict d m (edit_in d m)
verdict (Insert k v) m = insert-verdict k v m
verdict (Modify k v) m = modify-verdict k v m
verdict (Delete k) m = delete-verdict k m

-- ---- a key and a value that are not too long

pub insert-outcome : (k : Key) (v : Value) (m : Model) → length k ≤ 48 → length v ≤ 64 → insert_in k v m ≡ refuse (is_absent k m && no_free_slot m) Full (done (inserted k v m))
unfolding insert_in
insert-outcome k v m p q = rw (le-ltb 48 (length k) p, le-ltb 64 (length v) q)

pub modify-outcome : (k : Key) (v : Value) (m : Model) → length k ≤ 48 → length v ≤ 64 → modify_in k v m ≡ refuse (is_absent k m) Absent (done (modified k v m))
unfolding modify_in
modify-outcome k v m p q = rw (le-ltb 48 (length k) p, le-ltb 64 (length v) q)

pub delete-outcome : (k : Key) (m : Model) → length k ≤ 48 → delete_in k m ≡ refuse (is_absent k m) Absent (done (deleted k m))
unfolding delete_in
delete-outcome k m p = rw (le-ltb 48 (length k) p)

-- ---- an edit keeps a model lawful

pub done-lawful : {d : Edit} {m n : Model} → Lawful m → Done d m n → Lawful n
done-lawful g (newly {k = k} {v = v} p q h f) = inserted-lawful k v g p q (absent h f)
done-lawful g (again {k = k} {v = v} {e = e} p q h) = inserted-lawful k v g p q (present e h)
done-lawful g (changes {k = k} {v = v} p q h) = modified-lawful k v g q
done-lawful g (goes {k = k} {e = e} p h) = deleted-lawful k e g h

pub edit-lawful : (d : Edit) {m : Model} → Lawful m → Lawful (after (edit_in d m) m)
edit-lawful d {m} g = at (verdict d m)
  where
    at : {o : Outcome Model} → Verdict d m o → Lawful (after o m)
    at not_done = g
    at (is-done c) = done-lawful g c
