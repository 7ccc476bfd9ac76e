-- What each call has to answer where a test of the code refuses it.
use mathlib.Core.Path.{◌≡◌, sym, ap, ◌∙◌}
use mathlib.Core.List.{List}
use Prim.Native.Nat.{ℕ, ◌≤◌}
use native.Mathlib.Omega.{arith}
use lib.Dec.{eqb}
use lib.ListN.{length}
use borrow.Author.Tests.{lt-ltb}
use Rattle.key_order.specs.Order.{Key}
use Rattle.answers.specs.declared.Refusal.TheVariants.{NotSound, LongKey}
use Rattle.store.specs.Numbers.{number_of, Outcome, refused, done}
use Rattle.store.specs.Model.{Model}
use Rattle.store.specs.Sound.{Sound}
use Rattle.store.specs.Decide.{on_sound}
use Rattle.llrb.specs.Tree.{size}
use Rattle.llrb.specs.Digests.{subtree_digest}
use Rattle.store.specs.Answers.{told, counted, digested, found}
use Rattle.store.specs.Calls.{refuse, long_key, get_in, first_in, next_in, is_empty_answer, count_answer, root_hash_answer, get_answer, first_entry_answer, next_entry_answer}
use Rattle.store.proofs.Decoding.{on-sound, on-unsound}
use Rattle.answers.specs.Answers.{no_entry}

-- ---- the outcome

-- 1: whatever the call would make of a model
pub not_sound : {A : Type 0} {s : List ℕ} → (Sound s → ⊥) → (F : Model → Outcome A) → on_sound s F (refused NotSound) ≡ refused NotSound
not_sound n F = on-unsound n F (refused NotSound)

-- 2: whatever the call would make of a key that is short enough
pub long-key : {A : Type 0} {s : List ℕ} → Sound s → (k : Key) → (length k ≤ 48 → ⊥) → (G : Model → Outcome A)
    → on_sound s (λ m. refuse (long_key k) LongKey (G m)) (refused NotSound) ≡ refused LongKey
long-key a k n G = on-sound a.1 (λ m. refuse (long_key k) LongKey (G m)) (refused NotSound) ∙ (rw (lt-ltb 48 (length k) (omega (arith, n))))

-- ---- what a store holds as a whole

module _ {s : List ℕ} (n : Sound s → ⊥) where
  pub empty-unsound : told (refused NotSound) ≡ is_empty_answer s
  unfolding is_empty_answer
  empty-unsound = sym (ap told (not_sound n (λ (m : Model). done (eqb (size m.tree) 0))))

  pub count-unsound : counted (refused NotSound) ≡ count_answer s
  unfolding count_answer
  count-unsound = sym (ap counted (not_sound n (λ (m : Model). done (size m.tree))))

  pub root-unsound : digested (refused NotSound) ≡ root_hash_answer s
  unfolding root_hash_answer
  root-unsound = sym (ap digested (not_sound n (λ (m : Model). done (subtree_digest m.tree))))

-- ---- get and iteration

module _ {s : List ℕ} (n : Sound s → ⊥) where
  pub get-unsound : (k : Key) → no_entry (number_of NotSound) ≡ get_answer k s
  unfolding get_answer
  get-unsound k = sym (ap (found s) (not_sound n (get_in k)))

  pub first-unsound : no_entry (number_of NotSound) ≡ first_entry_answer s
  unfolding first_entry_answer
  first-unsound = sym (ap (found s) (not_sound n first_in))

  pub next-unsound : (k : Key) → no_entry (number_of NotSound) ≡ next_entry_answer k s
  unfolding next_entry_answer
  next-unsound k = sym (ap (found s) (not_sound n (next_in k)))

module _ {s : List ℕ} (a : Sound s) (k : Key) (n : length k ≤ 48 → ⊥) where
  pub get-long : no_entry (number_of LongKey) ≡ get_answer k s
  unfolding get_answer get_in
  get-long = sym (ap (found s) (long-key a k n _))

  pub next-long : no_entry (number_of LongKey) ≡ next_entry_answer k s
  unfolding next_entry_answer next_in
  next-long = sym (ap (found s) (long-key a k n _))
