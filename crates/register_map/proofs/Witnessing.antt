-- What a witness call has to answer where a test of its code refuses it; once for all that it may make.
use mathlib.Core.Path.{◌≡◌, sym, ap, ◌∙◌}
use mathlib.Core.List.{List}
use Prim.Native.Nat.{ℕ, ◌≤◌}
use native.Mathlib.Omega.{arith}
use lib.ListN.{length}
use borrow.Author.Tests.{lt-ltb, le-ltb}
use Rattle.key_order.specs.Order.{Key}
use Rattle.hash_tree.specs.HashTree.{HashTree}
use Rattle.llrb.specs.Tree.{Tree}
use Rattle.std.specs.Prelude.{Err}
use Rattle.answers.specs.declared.Refusal.{Refusal}
use Rattle.answers.specs.declared.Refusal.TheVariants.{NotSound, LongKey}
use Rattle.store.specs.Numbers.{Outcome, refused}
use Rattle.store.specs.Model.{Model}
use Rattle.store.specs.Sound.{Sound}
use Rattle.store.specs.Decide.{on_sound}
use Rattle.store.specs.Answers.{written, fitting}
use Rattle.store.specs.Calls.{of_key, of_range, witnessed, as_hash_tree_answer, keys_answer, witness_answer, key_range_answer, value_range_answer, keys_with_prefix_answer}
use Rattle.store.proofs.Decoding.{on-sound}
use Rattle.witness.specs.Saving.{answered}
use Rattle.register_map.proofs.Refusing.{not_sound}

module _ (s out : List ℕ) where
  refuses : (make : Model → Outcome HashTree) (r : Refusal) → on_sound s make (refused NotSound) ≡ refused r → answered (Err r) out ≡ witnessed make s out
  unfolding witnessed fitting
  refuses make r e = sym (ap (λ (o : Outcome HashTree). written out (fitting out o)) e)

  witness-unsound : (make : Model → Outcome HashTree) → (Sound s → ⊥) → answered (Err NotSound) out ≡ witnessed make s out
  witness-unsound make n = refuses make NotSound (not_sound n make)

  module _ (a : Sound s) where
    witness-long : (make : Key → Tree → HashTree) (k : Key) → (length k ≤ 48 → ⊥) → answered (Err LongKey) out ≡ witnessed (of_key make k) s out
    unfolding of_key
    witness-long make k p = refuses (of_key make k) LongKey (on-sound a.1 (of_key make k) (refused NotSound) ∙ (rw (lt-ltb 48 (length k) (omega (arith, p)))))

    module _ (make : Key → Key → Tree → HashTree) (k l : Key) where
      first-long : (length k ≤ 48 → ⊥) → answered (Err LongKey) out ≡ witnessed (of_range make k l) s out
      unfolding of_range
      first-long p = refuses (of_range make k l) LongKey (on-sound a.1 (of_range make k l) (refused NotSound) ∙ (rw (lt-ltb 48 (length k) (omega (arith, p)))))

      last-long : length k ≤ 48 → (length l ≤ 48 → ⊥) → answered (Err LongKey) out ≡ witnessed (of_range make k l) s out
      unfolding of_range
      last-long p q =
          refuses (of_range make k l) LongKey (on-sound a.1 (of_range make k l) (refused NotSound) ∙ (rw (le-ltb 48 (length k) p, lt-ltb 48 (length l) (omega (arith, q)))))

module _ {s : List ℕ} (out : List ℕ) (n : Sound s → ⊥) where
  pub as-hash-tree-unsound : answered (Err NotSound) out ≡ as_hash_tree_answer s out
  unfolding as_hash_tree_answer
  as-hash-tree-unsound = witness-unsound s out _ n

  pub keys-unsound : answered (Err NotSound) out ≡ keys_answer s out
  unfolding keys_answer
  keys-unsound = witness-unsound s out _ n

  module _ (k : Key) where
    pub entry-unsound : answered (Err NotSound) out ≡ witness_answer k s out
    unfolding witness_answer
    entry-unsound = witness-unsound s out _ n

    pub prefix-unsound : answered (Err NotSound) out ≡ keys_with_prefix_answer k s out
    unfolding keys_with_prefix_answer
    prefix-unsound = witness-unsound s out _ n

    module _ (l : Key) where
      pub key-range-unsound : answered (Err NotSound) out ≡ key_range_answer k l s out
      unfolding key_range_answer
      key-range-unsound = witness-unsound s out _ n

      pub value-range-unsound : answered (Err NotSound) out ≡ value_range_answer k l s out
      unfolding value_range_answer
      value-range-unsound = witness-unsound s out _ n

module _ {s : List ℕ} (out : List ℕ) (a : Sound s) (k : Key) where
  module _ (p : length k ≤ 48 → ⊥) where
    pub entry-long : answered (Err LongKey) out ≡ witness_answer k s out
    unfolding witness_answer
    entry-long = witness-long s out a _ k p

    pub prefix-long : answered (Err LongKey) out ≡ keys_with_prefix_answer k s out
    unfolding keys_with_prefix_answer
    prefix-long = witness-long s out a _ k p

    module _ (l : Key) where
      pub key-range-first : answered (Err LongKey) out ≡ key_range_answer k l s out
      unfolding key_range_answer
      key-range-first = first-long s out a _ k l p

      pub value-range-first : answered (Err LongKey) out ≡ value_range_answer k l s out
      unfolding value_range_answer
      value-range-first = first-long s out a _ k l p

  module _ (p : length k ≤ 48) (l : Key) (q : length l ≤ 48 → ⊥) where
    pub key-range-last : answered (Err LongKey) out ≡ key_range_answer k l s out
    unfolding key_range_answer
    key-range-last = last-long s out a _ k l p q

    pub value-range-last : answered (Err LongKey) out ≡ value_range_answer k l s out
    unfolding value_range_answer
    value-range-last = last-long s out a _ k l p q
