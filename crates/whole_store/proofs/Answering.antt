-- What each call has to answer, by the tests that the code makes.
use mathlib.Core.Path.{◌≡◌, refl, sym, ap, subst, ◌∙◌}
use mathlib.Core.Bool.{Bool, true, false, not, ◌||◌}
use mathlib.Core.List.{List}
use Prim.Native.Nat.{ℕ, ◌≤◌, ◌<◌}
use native.Mathlib.Omega.{arith}
use lib.Dec.{eqb, ltb}
use lib.ListN.{length}
use borrow.Author.Tests.{eq-eqb, ne_eqb, lt-ltb, le-ltb}
use Rattle.hash_tree.specs.HashTree.{empty_hash}
use Rattle.slots.specs.declared.Header.{Header}
use Rattle.slots.proofs.Lenses.{digest-length}
use Rattle.judge.proofs.Testing.{has-slot}
use Rattle.slots.specs.Layout.{HasSlot, current, store_length, header, digest_of}
use Rattle.llrb.specs.Tree.{Tree, nil, node, size}
use Rattle.llrb.specs.Digests.{subtree_digest}
use Rattle.answers.specs.declared.Refusal.TheVariants.{NotSound, BadCapacity}
use Rattle.store.specs.Numbers.{refused, done}
use Rattle.store.specs.Model.{Model, root, fresh}
use Rattle.store.specs.Sound.{Digests, Sound}
use Rattle.store.specs.Encode.{encode}
use Rattle.store.specs.Answers as answers
use Rattle.store.specs.Calls.{refuse, create_answer, count_answer, is_empty_answer, root_hash_answer}
use Rattle.store.proofs.Decoding.{on-sound}
use Rattle.store.proofs.Seats.{marks-digests}
use Rattle.judge.specs.Steps.{Within}
use Rattle.judge.proofs.Judging.{good_of, header_of}
use Rattle.judge.proofs.Walking.{root-within as top_within}
use Rattle.answers.specs.Answers.{changed_of}

-- ---- create

bad : (b : Bool) (c : ℕ) (s : List ℕ) → b ≡ true → changed_of 8 s ≡ answers.changed s (refuse b BadCapacity (done (fresh c)))
bad b c s e = rw e

or_right : (a : Bool) {b : Bool} → b ≡ true → (a || b) ≡ true
or_right true e = refl
or_right false e = e

module _ (c : ℕ) (s : List ℕ) where
  pub none-asked : c ≡ 0 → changed_of 8 s ≡ create_answer c s
  unfolding create_answer
  none-asked e = bad (eqb c 0 || (ltb 1024 c || not (eqb (length s) (store_length c)))) c s (rw (eq-eqb c 0 e))

  pub many-asked : 1024 < c → changed_of 8 s ≡ create_answer c s
  unfolding create_answer
  many-asked p = bad (eqb c 0 || (ltb 1024 c || not (eqb (length s) (store_length c)))) c s (or_right (eqb c 0) (rw (lt-ltb 1024 c p)))

  pub other_length : (length s ≡ store_length c → ⊥) → changed_of 8 s ≡ create_answer c s
  unfolding create_answer
  other_length n =
      bad (eqb c 0 || (ltb 1024 c || not (eqb (length s) (store_length c)))) c s
      (or_right (eqb c 0) (or_right (ltb 1024 c) (rw (ne_eqb (length s) (store_length c) n))))

  pub created : (c ≡ 0 → ⊥) → c ≤ 1024 → length s ≡ store_length c → changed_of 0 (encode (fresh c)) ≡ create_answer c s
  unfolding create_answer
  created n p e = rw (ne_eqb c 0 n, le-ltb 1024 c p, eq-eqb (length s) (store_length c) e)

-- ---- of a sound store, h the header that the code read

module _ (s : List ℕ) (a : Sound s) {h : Header} (e : h ≡ header s) where
  live-is : h.live ≡ size a.0.tree
  live-is = ap (λ (z : Header). z.live) (e ∙ a.1.laid.header)

  root_is : h.root ≡ root a.0.tree
  root_is = ap (λ (z : Header). z.root) (e ∙ a.1.laid.header)

  pub count-done : answers.counted (done h.live) ≡ count_answer s
  unfolding count_answer
  count-done = ap (λ (n : ℕ). answers.counted (done n)) live-is ∙ sym (ap answers.counted (on-sound a.1 (λ (m : Model). done (size m.tree)) (refused NotSound)))

  pub empty-done : answers.told (done (eqb h.live 0)) ≡ is_empty_answer s
  unfolding is_empty_answer
  empty-done = ap (λ (n : ℕ). answers.told (done (eqb n 0))) live-is ∙ sym (ap answers.told (on-sound a.1 (λ (m : Model). done (eqb (size m.tree) 0)) (refused NotSound)))

  module _ (t : Tree) (c : ℕ) where
    none_is : Within c t → root t ≡ 0 → empty_hash ≡ subtree_digest t
    unfolding subtree_digest
    none_is w x = go t w x
      where
        go : (t : Tree) → Within c t → root t ≡ 0 → empty_hash ≡ subtree_digest t
        go nil w x = refl
        go (node o n l r) w x = absurd (omega (arith, w.0.0))

    some_is : Digests s t → (root t ≡ 0 → ⊥) → digest_of s (root t) ≡ subtree_digest t
    some_is d x = go t d x
      where
        go : (t : Tree) → Digests s t → (root t ≡ 0 → ⊥) → digest_of s (root t) ≡ subtree_digest t
        go nil d x = absurd (x refl)
        go (node o n l r) d x = d.0

  found : {d : List ℕ} → d ≡ subtree_digest a.0.tree → answers.digested (done d) ≡ root_hash_answer s
  unfolding root_hash_answer
  found x = ap (λ (z : List ℕ). answers.digested (done z)) x ∙ sym (ap answers.digested (on-sound a.1 (λ (m : Model). done (subtree_digest m.tree)) (refused NotSound)))

  pub root_none : h.root ≡ 0 → {d : List ℕ} → d ≡ empty_hash → answers.digested (done d) ≡ root_hash_answer s
  root_none x y = found (y ∙ none_is a.0.tree (header s).capacity (good_of s a).within (sym root_is ∙ x))

  pub root-some : (h.root ≡ 0 → ⊥) → {d : List ℕ} → d ≡ digest_of s h.root → answers.digested (done d) ≡ root_hash_answer s
  root-some n y = found (y ∙ ap (digest_of s) root_is ∙ some_is a.0.tree 0 (marks-digests current s a.0.tree a.1.laid.marks) (λ z. n (root_is ∙ z)))

  pub root-within : h.root ≤ (header s).capacity
  root-within = subst (λ (z : ℕ). z ≤ (header s).capacity) (sym root_is) (top_within (header s).capacity a.0.tree (good_of s a).within)

  pub root-there : (h.root ≡ 0 → ⊥) → HasSlot (length s) h.root
  root-there n = has-slot (header_of s a).sized (omega (arith, n)) root-within

  pub root-length : (h.root ≡ 0 → ⊥) → length (digest_of s h.root) ≡ 32
  root-length n = digest-length s h.root (root-there n)
