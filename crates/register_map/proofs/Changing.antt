-- What insert, modify and delete have to answer, and the bytes that they have to leave, by the tests that their code makes.
use mathlib.Core.Path.{◌≡◌, refl, sym, ap, ◌∙◌}
use mathlib.Core.List.{List}
use Prim.Native.Nat.{ℕ, ◌≤◌}
use native.Mathlib.Omega.{arith}
use lib.ListN.{length}
use borrow.Author.Tests.{lt-ltb, le-ltb}
use Rattle.key_order.specs.Order.{Key}
use Rattle.slots.specs.Bits.{Bytes}
use Rattle.llrb.specs.Tree.{Value}
use Rattle.answers.specs.declared.Refusal.{Refusal}
use Rattle.answers.specs.declared.Refusal.TheVariants.{NotSound, LongKey, LongValue, Full, Absent}
use Rattle.store.specs.Numbers.{number_of, Outcome, refused, done}
use Rattle.store.specs.Model.{Model, inserted, modified, deleted}
use Rattle.store.specs.Sound.{Represents, Sound}
use Rattle.store.specs.Decide.{on_sound}
use Rattle.store.specs.Answers.{changed}
use Rattle.store.specs.Calls.{insert_in, modify_in, delete_in, insert_answer, modify_answer, delete_answer}
use Rattle.store.proofs.Decoding.{on-sound}
use Rattle.store.proofs.Calling.{insert-outcome, modify-outcome, delete-outcome}
use Rattle.store.proofs.Encoding.{encoded}
use Rattle.rb_tree.specs.Stores.{AfterInsert, AfterChange}
use Rattle.std.specs.Prelude.{Ok, Err, Result, ⊤}
use Rattle.answers.specs.Answers.{changed_of, number_in}
use Rattle.register_map.proofs.Refusing.{not_sound}

-- ---- an outcome of the model

module _ {s : List ℕ} {m : Model} (a : Represents s m) (F : Model → Outcome Model) where
  -- a refusal leaves the bytes as found
  pub stays : (r : Refusal) → F m ≡ refused r → {s' : List ℕ} → s' ≡ s → changed_of (number_of r) s' ≡ changed s (on_sound s F (refused NotSound))
  stays r e x = ap (changed_of (number_of r)) x ∙ sym (ap (changed s) (on-sound a F (refused NotSound) ∙ e))

  -- what is done leaves the bytes of what the call made of the model
  pub becomes : (n : Model) → F m ≡ done n → {s' : List ℕ} → Bytes s' → Represents s' n → changed_of 0 s' ≡ changed s (on_sound s F (refused NotSound))
  becomes n e b h = ap (changed_of 0) (encoded b h) ∙ sym (ap (changed s) (on-sound a F (refused NotSound) ∙ e))

-- ---- a store that is not sound

module _ {s : List ℕ} (n : Sound s → ⊥) (k : Key) where
  pub insert-unsound : (v : Value) → changed_of (number_of NotSound) s ≡ insert_answer k v s
  unfolding insert_answer
  insert-unsound v = sym (ap (changed s) (not_sound n (insert_in k v)))

  pub modify-unsound : (v : Value) → changed_of (number_of NotSound) s ≡ modify_answer k v s
  unfolding modify_answer
  modify-unsound v = sym (ap (changed s) (not_sound n (modify_in k v)))

  pub delete-unsound : changed_of (number_of NotSound) s ≡ delete_answer k s
  unfolding delete_answer
  delete-unsound = sym (ap (changed s) (not_sound n (delete_in k)))

-- ---- a sound one

module _ {s : List ℕ} (a : Sound s) (k : Key) where
  module _ (n : length k ≤ 48 → ⊥) where
    pub insert-long : (v : Value) → changed_of (number_of LongKey) s ≡ insert_answer k v s
    unfolding insert_answer insert_in
    insert-long v = stays a.1 (insert_in k v) LongKey (rw (lt-ltb 48 (length k) (omega (arith, n)))) refl

    pub modify-long : (v : Value) → changed_of (number_of LongKey) s ≡ modify_answer k v s
    unfolding modify_answer modify_in
    modify-long v = stays a.1 (modify_in k v) LongKey (rw (lt-ltb 48 (length k) (omega (arith, n)))) refl

    pub delete-long : changed_of (number_of LongKey) s ≡ delete_answer k s
    unfolding delete_answer delete_in
    delete-long = stays a.1 (delete_in k) LongKey (rw (lt-ltb 48 (length k) (omega (arith, n)))) refl

  module _ (p : length k ≤ 48) (v : Value) where
    pub insert-long-value : (length v ≤ 64 → ⊥) → changed_of (number_of LongValue) s ≡ insert_answer k v s
    unfolding insert_answer insert_in
    insert-long-value q = stays a.1 (insert_in k v) LongValue (rw (le-ltb 48 (length k) p, lt-ltb 64 (length v) (omega (arith, q)))) refl

    pub modify-long-value : (length v ≤ 64 → ⊥) → changed_of (number_of LongValue) s ≡ modify_answer k v s
    unfolding modify_answer modify_in
    modify-long-value q = stays a.1 (modify_in k v) LongValue (rw (le-ltb 48 (length k) p, lt-ltb 64 (length v) (omega (arith, q)))) refl

    module _ (q : length v ≤ 64) (b : Bytes s) {s' : List ℕ} where
      pub insert-after : (r : Result ⊤ Refusal) → AfterInsert k v s s' a.0 r → changed_of (number_in r) s' ≡ insert_answer k v s
      unfolding insert_answer
      insert-after (Err e) w = rw w.2 (stays a.1 (insert_in k v) Full (insert-outcome k v a.0 p q ∙ rw w.0) w.1)
      insert-after (Ok x) w = becomes a.1 (insert_in k v) (inserted k v a.0) (insert-outcome k v a.0 p q ∙ rw w.0) (w.1.bytes b) w.1.holds

      pub modify-after : (r : Result ⊤ Refusal) → AfterChange k s s' a.0 (modified k v a.0) r → changed_of (number_in r) s' ≡ modify_answer k v s
      unfolding modify_answer
      modify-after (Err e) w = rw w.2 (stays a.1 (modify_in k v) Absent (modify-outcome k v a.0 p q ∙ rw w.0) w.1)
      modify-after (Ok x) w = becomes a.1 (modify_in k v) (modified k v a.0) (modify-outcome k v a.0 p q ∙ rw w.0) (w.1.bytes b) w.1.holds

  pub delete-after : length k ≤ 48 → Bytes s → {s' : List ℕ} (r : Result ⊤ Refusal) → AfterChange k s s' a.0 (deleted k a.0) r → changed_of (number_in r) s' ≡ delete_answer k s
  unfolding delete_answer
  delete-after p b (Err e) w = rw w.2 (stays a.1 (delete_in k) Absent (delete-outcome k a.0 p ∙ rw w.0) w.1)
  delete-after p b (Ok x) w = becomes a.1 (delete_in k) (deleted k a.0) (delete-outcome k a.0 p ∙ rw w.0) (w.1.bytes b) w.1.holds
