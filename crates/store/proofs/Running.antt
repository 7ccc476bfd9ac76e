-- After any history the store is the bytes of a lawful model: the one that the same history gives on models.
use mathlib.Core.Path.{◌≡◌, refl, sym, ap, subst, ◌∙◌}
use mathlib.Core.List.{List, [], ◌∷◌}
use mathlib.Core.Logic.{◌≢◌}
use Prim.Native.Nat.{ℕ, ◌≤◌}
use native.Mathlib.Omega.{arith}
use lib.ListN.{length}
use borrow.Author.Tests.{eq-eqb, ne_eqb, le-ltb}
use Rattle.slots.specs.Layout.{current, store_length}
use Rattle.store.specs.Numbers.{NotSound, Outcome, refused, done}
use Rattle.store.specs.Model.{Model}
use Rattle.store.specs.Sound.{Lawful, Represents, Sound}
use Rattle.store.specs.Encode.{encode}
use Rattle.store.specs.Decode.{decode}
use Rattle.store.specs.Answers.{Changed, changed}
use Rattle.store.specs.Calls.{insert_in, modify_in, delete_in, create_answer, insert_answer, modify_answer, delete_answer}
use Rattle.store.specs.History.{Edit, Insert, Modify, Delete, answer_of, store_after, accepted, edit_in, after, model_after}
use Rattle.store.proofs.Decoding.{on-sound}
use Rattle.store.proofs.Encoding.{current-fits, encode-holds, encode-sound, decode-encode}
use Rattle.store.proofs.Operating.{fresh-lawful}
use Rattle.store.proofs.Calling.{never-zero, edit-lawful, done-lawful, Done, Verdict, not_done, is-done, verdict}

-- an edit of the bytes of a lawful model
pub edit-answer : (d : Edit) {s : List ℕ} {m : Model} → Represents s m → answer_of d s ≡ changed s (edit_in d m)
unfolding insert_answer modify_answer delete_answer
edit-answer (Insert k v) {s} a = ap (changed s) (on-sound a (insert_in k v) (refused NotSound))
edit-answer (Modify k v) {s} a = ap (changed s) (on-sound a (modify_in k v) (refused NotSound))
edit-answer (Delete k) {s} a = ap (changed s) (on-sound a (delete_in k) (refused NotSound))

-- whatever the answer, a sound store stays sound
pub edit-sound : (d : Edit) {s : List ℕ} → Sound s → Sound (answer_of d s).store
edit-sound d {s} (m, a) = rw (edit-answer d a) (at (verdict d m))
  where
    at : {o : Outcome Model} → Verdict d m o → Sound (changed s o).store
    at not_done = (m, a)
    at (is-done {n = n} c) = encode-sound (done-lawful a.lawful c) current current-fits

-- create in any buffer of the right length: a fresh store
pub create-fresh : (capacity : ℕ) (s : List ℕ) → 1 ≤ capacity → capacity ≤ 1024 → length s ≡ store_length capacity
    → create_answer capacity s ≡ record { number = 0; store = store_after capacity [] }
unfolding create_answer store_after
create-fresh capacity s p q e =
    let n : capacity ≢ 0 = λ z. omega arith in
    rw (ne_eqb capacity 0 n, le-ltb 1024 capacity q, eq-eqb (length s) (store_length capacity) e)

changed-store : (m : Model) (o : Outcome Model) → (changed (encode m) o).store ≡ encode (after o m)
changed-store m (refused r) = refl
changed-store m (done n) = refl

module _ (capacity : ℕ) (low : 1 ≤ capacity) (high : capacity ≤ 1024) where
  pub model-lawful : (h : List Edit) → Lawful (model_after capacity h)
  unfolding model_after
  model-lawful [] = fresh-lawful capacity low high
  model-lawful (d ∷ h) = edit-lawful d (model-lawful h)

  pub store_is : (h : List Edit) → store_after capacity h ≡ encode (model_after capacity h)
  unfolding store_after model_after
  store_is [] = refl
  store_is (d ∷ h) =
      ap (λ (s : List ℕ). (answer_of d s).store) (store_is h) ∙ ap (λ (c : Changed). c.store) (edit-answer d (encode-holds (model-lawful h) current current-fits))
      ∙ changed-store (model_after capacity h) (edit_in d (model_after capacity h))

  pub store-holds : (h : List Edit) → Represents (store_after capacity h) (model_after capacity h)
  store-holds h = subst (λ (s : List ℕ). Represents s (model_after capacity h)) (sym (store_is h)) (encode-holds (model-lawful h) current current-fits)

  pub store-decodes : (h : List Edit) → decode (store_after capacity h) ≡ model_after capacity h
  store-decodes h = ap decode (store_is h) ∙ decode-encode (model-lawful h) current current-fits

  -- ---- one more call: refused, and nothing changes; or done

  pub data Step (d : Edit) (h : List Edit) : Type 0 where
    stays : model_after capacity (d ∷ h) ≡ model_after capacity h → accepted capacity (d ∷ h) ≡ accepted capacity h → Step d h
    moves : Done d (model_after capacity h) (model_after capacity (d ∷ h)) → accepted capacity (d ∷ h) ≡ d ∷ accepted capacity h → Step d h

  pub step : (d : Edit) (h : List Edit) → Step d h
  unfolding model_after accepted
  step d h = at (edit_in d (model_after capacity h)) refl (verdict d (model_after capacity h))
    where
      answered : (o : Outcome Model) → edit_in d (model_after capacity h) ≡ o → answer_of d (store_after capacity h) ≡ changed (store_after capacity h) o
      answered o e = edit-answer d (store-holds h) ∙ ap (changed (store_after capacity h)) e

      at : (o : Outcome Model) → edit_in d (model_after capacity h) ≡ o → Verdict d (model_after capacity h) o → Step d h
      at (refused r) e not_done = stays (rw e) (rw (answered (refused r) e, never-zero r))
      at (done n) e (is-done c) = moves (rw e c) (rw (answered (done n) e))
