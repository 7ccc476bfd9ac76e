-- TWO WITNESSES OF ONE ROOT MERGE, or a message hashed for the one collides with one hashed for the other: so 15 says that the digests
-- differ. Two witnesses that tell the truth of one store merge, to one that does; so any two that our own calls wrote of a sound store
-- do.
use Prim.Native.Nat.{ℕ, ◌≤◌}
use mathlib.Core.Path.{◌≡◌, refl, sym, ap, ◌∙◌}
use mathlib.Core.Bool.{Bool, true, false, cond}
use mathlib.Core.Logic.{◌⊎◌, inl, inr}
use mathlib.Core.List.{List, [], ◌∷◌}
use native.Mathlib.Omega.{arith}
use lib.ListN.{length}
use lib.Dec.{ltb}
use Rattle.std.specs.Prelude.{Some, None}
use Rattle.answers.specs.Numbers.{refused, done}
use Rattle.answers.specs.declared.Refusal.TheVariants.{NoRoom}
use Rattle.answers.specs.Answers.{Written, written}
use Rattle.key_order.specs.Order.{Key}
use Rattle.answers.specs.Answers.{Digested}
use Rattle.hash_tree.specs.HashTree.{HashTree}
use Rattle.hash_tree.specs.Written.{write, Lawful, max_depth}
use Rattle.hash_tree.specs.Parse.{Parsed, Got, Bad, parse, Bytes}
use Rattle.hash_tree.specs.Whole.{rebuilt, accepted, alone}
use Rattle.hash_tree.specs.Whole as whole-tree
use Rattle.hash_tree.proofs.Promises.{accepts, zero-or-refused}
use Rattle.hash_tree.specs.Prune.{Prunes}
use Rattle.lookup.specs.declared.Looked.TheVariants as looked
use Rattle.lookup.specs.Answer.{lookup_answer}
use Rattle.lookup.specs.Lookup.{WellFormed}
use Rattle.merge.specs.Merge.{merged}
use Rattle.merge.specs.Answer.{whole, put_front, of_merge, merge_answer}
use Rattle.merge.proofs.Laws.{merged-own, merged-lawful, merged-prunes, merges-merged, merges-digest, merges-lawful}
use Rattle.merge.proofs.Promises.{merge-trees}
use Rattle.store.specs.Sound.{Sound}
use Rattle.store.proofs.Decoding.{sound-decodes}
use Rattle.trust.specs.Collision.{Collision}
use Rattle.trust.specs.Truth.{whole_of, Reads, Truth}
use Rattle.trust.specs.Ours.{bytes_of, Wrote}
use Rattle.trust.proofs.Binding.{then}
use Rattle.trust.proofs.Files.{cut-truth, two-files}
use Rattle.trust.proofs.Opening.{silent-too}

-- what is put at the front of an output, if there is room, is never refused with 15
pub not-15 : (out w : List ℕ) → (put_front out w).number ≡ 15 → ⊥
not-15 out w e = go (ltb (length out) (length w)) e
  where
    go : (b : Bool) → (written out (cond b (refused NoRoom) (done w))).number ≡ 15 → ⊥
    go true h = omega (arith, h)
    go false h = omega (arith, h)

-- two files by the trees that they are
merge-files : (v w out : List ℕ) (x y : HashTree) → Reads v x → Reads w y → merge_answer v w out ≡ of_merge out (merged x y)
merge-files v w out x y p q = rw (p.0, q.0) (merge-trees x y p.1 q.1 out)

-- ---- of one digest, and no store

-- THE MERGE OF TWO FILES: its tree, and that it rebuilds to what they rebuild to
pub record Joins (v w out : List ℕ) : Type 0 where
  pub tree : HashTree
  pub answer : merge_answer v w out ≡ put_front out (write tree)
  pub rebuilds : rebuilt (write tree) ≡ rebuilt v

pub files-merge : (v w out : List ℕ) → Bytes v → Bytes w → (rebuilt v).number ≡ 0 → rebuilt v ≡ rebuilt w
    → (x : HashTree) × (y : HashTree) × Reads v x × Reads w y × (Collision x y ⊎ Joins v w out)
files-merge v w out bv bw z e =
    let t = two-files v w bv bw z e in
    let x = t.0 in
    let p = t.2 in (
      x,
      t.1,
      p,
      t.3,
      then t.4 (λ c. c)
          (λ g.
          let l = merges-lawful g.1 max_depth p.1 t.3.1 in
          inr (record {
            tree = g.0;
            answer = merge-files v w out x t.1 p t.3 ∙ ap (of_merge out) (merges-merged g.1);
            rebuilds = accepts g.0 l ∙ ap accepted (merges-digest g.1).0 ∙ sym (accepts x p.1) ∙ ap rebuilt (sym p.0);
          })),
    )

refused_none : (z : Parsed) → alone z ≡ whole-tree.refused → whole z ≡ None
refused_none (Got t []) e = absurd (omega (arith, ap (λ (r : Digested). r.number) e))
refused_none (Got t (x ∷ rest)) e = refl
refused_none Bad e = refl

-- 15 is given to two witnesses alone
not-nine : (v w out : List ℕ) → (merge_answer v w out).number ≡ 15 → (rebuilt v).number ≡ 0
unfolding merge_answer rebuilt
not-nine v w out e = go (zero-or-refused v)
  where
    nine : whole (parse max_depth v) ≡ None → (merge_answer v w out).number ≡ 9
    nine i = rw i

    go : ((rebuilt v).number ≡ 0) ⊎ (rebuilt v ≡ whole-tree.refused) → (rebuilt v).number ≡ 0
    go (inl z) = z
    go (inr r) = absurd (omega (arith, e, nine (refused_none (parse max_depth v) r)))

-- 15 OF TWO FILES WITH ONE DIGEST hands over a collision: so it says that the digests differ
pub fifteen : (v w out : List ℕ) → Bytes v → Bytes w → (merge_answer v w out).number ≡ 15 → rebuilt v ≡ rebuilt w
    → (x : HashTree) × (y : HashTree) × Reads v x × Reads w y × Collision x y
fifteen v w out bv bw n e =
    let t = files-merge v w out bv bw (not-nine v w out n) e in
    (t.0, t.1, t.2, t.3, go t.4)
  where
    go : {x y : HashTree} → Collision x y ⊎ Joins v w out → Collision x y
    go (inl c) = c
    go (inr j) = absurd (not-15 out (write j.tree) (ap (λ (r : Written). r.number) (sym j.answer) ∙ n))

-- ---- of one store

-- THE MERGE OF TWO WITNESSES OF THE STORE s: its tree, which tells the truth of s, and answers for both: it is silent of a key only if
-- both are
pub record JoinsTrue (s v w out : List ℕ) : Type 0 where
  pub tree : HashTree
  pub answer : merge_answer v w out ≡ put_front out (write tree)
  pub truth : Truth s tree (write tree)
  pub known : (k : Key) → length k ≤ 48 → (lookup_answer k (write tree)).looked ≡ Some looked.Unknown
      → ((lookup_answer k v).looked ≡ Some looked.Unknown) × ((lookup_answer k w).looked ≡ Some looked.Unknown)
  pub never15 : (merge_answer v w out).number ≡ 15 → ⊥

-- of a file by the tree that it is
silent-in : (v : List ℕ) (x t : HashTree) → Reads v x → WellFormed x → Prunes x t → Lawful max_depth t → WellFormed t → (k : Key)
    → length k ≤ 48
    → (lookup_answer k (write t)).looked ≡ Some looked.Unknown → (lookup_answer k v).looked ≡ Some looked.Unknown
silent-in v x t r wx p l wt k n e = rw r.0 (silent-too x t p r.1 l wx wt k n e)

pub truths-merge : (s : List ℕ) → Sound s → (x y : HashTree) (v w : List ℕ) → Truth s x v → Truth s y w → (out : List ℕ) → JoinsTrue s v w out
truths-merge s h x y v w p q out =
    let m = merged-own x y (whole_of s) p.cut q.cut in
    let d = merged-prunes x y m.0 m.1 in
    let l = merged-lawful max_depth x y m.0 p.tells.reads.1 q.tells.reads.1 m.1 in
    let e = merge-files v w out x y p.tells.reads q.tells.reads ∙ ap (of_merge out) m.1 in
    let t = cut-truth (sound-decodes h) m.0 l m.2 in
    record {
      tree = m.0;
      answer = e;
      truth = t;
      known = λ k n u. (silent-in v x m.0 p.tells.reads p.honest.well_formed d.0 l t.honest.well_formed k n u, silent-in w y m.0 q.tells.reads q.honest.well_formed d.1 l t.honest.well_formed k n u);
      never15 = λ n. not-15 out (write m.0) (ap (λ (r : Written). r.number) (sym e) ∙ n);
    }

-- ANY TWO WITNESSES THAT THE LIBRARY WROTE of one sound store, by any of the six calls, merge
pub own-merge : (s : List ℕ) → Sound s → {o p : List ℕ} {f g i j : Key → Bool} {A B : Key → Type 0} {a b : Written} → Wrote s o f g A a
    → Wrote s p i j B b → (out : List ℕ)
    → JoinsTrue s (bytes_of a) (bytes_of b) out
own-merge s h {a = a} {b = b} v w out = truths-merge s h v.tree w.tree (bytes_of a) (bytes_of b) v.truth w.truth out
