-- The ways down by the sizes of subtrees find the k-th entry and the number of keys below one; and the two belong together: the entry at a
-- key's rank is the first not below it, and the rank of the k-th entry's key is k.
use mathlib.Core.Path.{◌≡◌, refl, sym, ap, subst, ◌∙◌}
use mathlib.Core.Bool.{Bool, true, false, cond}
use mathlib.Core.List.{List, [], ◌∷◌, ◌++◌}
use mathlib.Core.Option.{some}
use Prim.Native.Nat.{ℕ, zero, suc, ◌+◌, ◌-◌, ◌≤◌, ◌<◌}
use native.Mathlib.Omega.{arith}
use lib.Dec.{ltb, eqb}
use lib.ListN.{length}
use borrow.Author.Tests.{ltb-true, ltb-false, eqb-true, eqb-false}
use Rattle.std.specs.declared.cmp.Ordering.{Ordering}
use Rattle.std.specs.declared.cmp.Ordering.TheVariants.{Less, Equal, Greater}
use Rattle.key_order.specs.Order.{Key, cmp, pick}
use Rattle.key_order.proofs.Laws.{cmp-refl, cmp-eq, cmp-trans, gt-lt, lt-gt}
use Rattle.llrb.specs.Tree.{EntryOf, RbTree, nil, node, entries, size}
use Rattle.llrb.specs.Sorted.{Above, Below, Sorted}
use Rattle.llrb.specs.Rank.{nth, rank, first_from, nth_entry, rank_in}
use Rattle.llrb.proofs.Lists.{above-trans, sorted-left, sorted-right, sorted-below}

module _ {Val : Type 0} where
  -- ---- the k-th

  nth_left : (k : ℕ) (L R : List (EntryOf Val)) → k < length L → nth k (L ++ R) ≡ nth k L
  unfolding nth
  nth_left k [] R p = absurd (omega arith)
  nth_left zero (e ∷ L) R p = refl
  nth_left (suc k) (e ∷ L) R p = nth_left k L R (omega arith)

  nth_right : (k : ℕ) (L R : List (EntryOf Val)) → length L ≤ k → nth k (L ++ R) ≡ nth (k - length L) R
  unfolding nth
  nth_right k [] R p = let e : k ≡ k - 0 = omega arith in ap (λ (z : ℕ). nth z R) e
  nth_right zero (e ∷ L) R p = absurd (omega arith)
  nth_right (suc k) (e ∷ L) R p = let q : k - length L ≡ suc k - suc (length L) = omega arith in nth_right k L R (omega arith) ∙ ap (λ (z : ℕ). nth z R) q

  pub nth-entry : (k : ℕ) (t : RbTree Val) → nth_entry k t ≡ nth k (entries t)
  unfolding nth_entry nth size
  nth-entry k nil = refl
  nth-entry k (node c e l r) = at (ltb k (size l)) refl (eqb k (size l)) refl (nth-entry k l) (nth-entry (k - (size l + 1)) r)
    where
      at : (b : Bool) → ltb k (size l) ≡ b → (d : Bool) → eqb k (size l) ≡ d → nth_entry k l ≡ nth k (entries l) → nth_entry (k - (size l + 1)) r ≡ nth (k - (size l + 1)) (entries r)
          → cond b (nth_entry k l) (cond d (some e) (nth_entry (k - (size l + 1)) r)) ≡ nth k (entries l ++ (e ∷ entries r))
      at true p d q i j = i ∙ sym (nth_left k (entries l) (e ∷ entries r) (ltb-true k (size l) p))
      at false p true q i j =
          let n : k - length (entries l) ≡ 0 = omega (arith, eqb-true k (size l) q) in
          sym (nth_right k (entries l) (e ∷ entries r) (omega (arith, eqb-true k (size l) q)) ∙ ap (λ (z : ℕ). nth z (e ∷ entries r)) n)
      at false p false q i j =
          let m : size l < k = above (ltb-false k (size l) p) (eqb-false k (size l) q) in
          let n : k - length (entries l) ≡ suc (k - (size l + 1)) = omega arith in
          j ∙ sym (nth_right k (entries l) (e ∷ entries r) (omega arith) ∙ ap (λ (z : ℕ). nth z (e ∷ entries r)) n)
        where
          above : size l ≤ k → (k ≡ size l → ⊥) → size l < k
          above x y = omega (arith, y)

  -- ---- the keys below

  rank-append : (k : Key) (L R : List (EntryOf Val)) → rank k (L ++ R) ≡ rank k L + rank k R
  unfolding rank
  rank-append k [] R = omega arith
  rank-append k (e ∷ L) R = at (cmp k e.key) (rank-append k L R)
    where
      at : (o : Ordering) → rank k (L ++ R) ≡ rank k L + rank k R
          → pick o (rank k (L ++ R)) (rank k (L ++ R)) (suc (rank k (L ++ R))) ≡ pick o (rank k L) (rank k L) (suc (rank k L)) + rank k R
      at Less i = i
      at Equal i = i
      at Greater i = omega (arith, i)

  rank-all : (k : Key) (L : List (EntryOf Val)) → Below k L → rank k L ≡ length L
  unfolding rank
  rank-all k [] b = refl
  rank-all k (e ∷ L) b = rw (lt-gt e.key k b.0) (ap suc (rank-all k L b.1))

  rank-none : (k : Key) (L : List (EntryOf Val)) → Above k L → rank k L ≡ 0
  unfolding rank
  rank-none k [] a = refl
  rank-none k (e ∷ L) a = rw a.0 (rank-none k L a.1)

  below-trans : (j k : Key) (L : List (EntryOf Val)) → cmp j k ≡ Less → Below j L → Below k L
  below-trans j k [] h b = tt
  below-trans j k (e ∷ L) h b = (cmp-trans e.key j k b.0 h, below-trans j k L h b.1)

  pub rank-entries : (k : Key) (t : RbTree Val) → Sorted (entries t) → rank_in k t ≡ rank k (entries t)
  unfolding rank_in rank size
  rank-entries k nil s = refl
  rank-entries k (node c e l r) s =
      let L = entries l in
      let R = entries r in
      let il = rank-entries k l (sorted-left L (e ∷ R) s) in
      let ir = rank-entries k r (sorted-right L (e ∷ R) s).1 in
      at (cmp k e.key) refl il ir (sorted-below L e R s) (sorted-right L (e ∷ R) s).0 ∙ sym (rank-append k L (e ∷ R))
    where
      at : (o : Ordering) → cmp k e.key ≡ o → rank_in k l ≡ rank k (entries l) → rank_in k r ≡ rank k (entries r) → Below e.key (entries l) → Above e.key (entries r)
          → pick o (rank_in k l) (size l) (size l + 1 + rank_in k r) ≡ rank k (entries l) + pick o (rank k (entries r)) (rank k (entries r)) (suc (rank k (entries r)))
      at Less q i j b a = omega (arith, i, rank-none k (entries r) (above-trans k e.key (entries r) q a))
      at Equal q i j b a =
          let g = cmp-eq k e.key q in
          omega (arith, rank-all k (entries l) (subst (λ (z : Key). Below z (entries l)) (sym g) b), rank-none k (entries r) (subst (λ (z : Key). Above z (entries r)) (sym g) a))
      at Greater q i j b a = omega (arith, j, rank-all k (entries l) (below-trans e.key k (entries l) (gt-lt k e.key q) b))

  -- ---- together

  pub rank-from : (k : Key) (L : List (EntryOf Val)) → Sorted L → nth (rank k L) L ≡ first_from k L
  unfolding nth rank first_from
  rank-from k [] s = refl
  rank-from k (e ∷ L) s = at (cmp k e.key) refl (rank-from k L s.1)
    where
      at : (o : Ordering) → cmp k e.key ≡ o → nth (rank k L) L ≡ first_from k L → nth (pick o (rank k L) (rank k L) (suc (rank k L))) (e ∷ L) ≡ pick o (some e) (some e) (first_from k L)
      at Less q i = ap (λ (n : ℕ). nth n (e ∷ L)) (rank-none k L (above-trans k e.key L q s.0))
      at Equal q i = ap (λ (n : ℕ). nth n (e ∷ L)) (rank-none k L (subst (λ (z : Key). Above z L) (sym (cmp-eq k e.key q)) s.0))
      at Greater q i = i

  nth-above : (k : Key) (n : ℕ) (L : List (EntryOf Val)) (e : EntryOf Val) → Above k L → nth n L ≡ some e → cmp k e.key ≡ Less
  unfolding nth
  nth-above k n [] e a h = absurd (let z : ◌≡◌ {A = ℕ} 0 1 = cc in omega arith)
  nth-above k zero (x ∷ L) e a h = let g : x ≡ e = cc in subst (λ (z : EntryOf Val). cmp k z.key ≡ Less) g a.0
  nth-above k (suc n) (x ∷ L) e a h = nth-above k n L e a.1 h

  pub nth-rank : (n : ℕ) (L : List (EntryOf Val)) (e : EntryOf Val) → Sorted L → nth n L ≡ some e → rank e.key L ≡ n
  unfolding nth rank
  nth-rank n [] e s h = absurd (let z : ◌≡◌ {A = ℕ} 0 1 = cc in omega arith)
  nth-rank zero (x ∷ L) e s h =
      let g : x ≡ e = cc in
      let a : Above e.key L = subst (λ (z : EntryOf Val). Above z.key L) g s.0 in
      let q : cmp e.key x.key ≡ Equal = subst (λ (z : EntryOf Val). cmp e.key z.key ≡ Equal) (sym g) (cmp-refl e.key) in
      rw q (rank-none e.key L a)
  nth-rank (suc n) (x ∷ L) e s h =
      let q : cmp e.key x.key ≡ Greater = lt-gt x.key e.key (nth-above x.key n L e s.0 h) in
      rw q (ap suc (nth-rank n L e s.1 h))
