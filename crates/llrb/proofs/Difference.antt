-- The difference of two maps in key order is the one list that says of each key what its two values say; it is empty exactly when the
-- maps are equal.
use mathlib.Core.Path.{◌≡◌, refl, sym, ap, ap₂, ◌∙◌, subst}
use mathlib.Core.Bool.{Bool, true, false, cond}
use mathlib.Core.Logic.{inl, inr}
use mathlib.Core.Option.{Option, none, some}
use mathlib.Core.List.{List, [], ◌∷◌}
use Prim.Native.Nat.{ℕ, suc, ◌+◌, ◌≤◌}
use native.Mathlib.Omega.{arith}
use lib.ListN.{length}
use Rattle.std.specs.declared.cmp.Ordering.{Ordering}
use Rattle.std.specs.declared.cmp.Ordering.TheVariants.{Less, Equal, Greater}
use Rattle.key_order.specs.Order.{Key, cmp, pick}
use Rattle.key_order.proofs.Laws.{cmp-refl, cmp-eq, cmp-trans, gt-lt, lt-gt, lt≢eq, gt≢eq, same_refl, same-eq}
use Rattle.llrb.specs.Tree.{EntryOf}
use Rattle.llrb.specs.Sorted.{Above, Sorted}
use Rattle.llrb.specs.Map.{PairOf, Pair, pairs, find}
use Rattle.llrb.specs.Difference.{Change, Gone, New, Other, Line, line, same_value, changed, added, with_both, against, difference, EachKey, Over, Rising, In, Difference}
use Rattle.llrb.proofs.Lists.{arms, arms₂}

-- ---- maps in order

module _ {Val : Type 0} where
  above-over : (k : Key) (L : List (EntryOf Val)) → Above k L → Over k (pairs L)
  above-over k [] a = tt
  above-over k (e ∷ L) a = (a.0, above-over k L a.1)

  pub sorted-rising : (L : List (EntryOf Val)) → Sorted L → Rising (pairs L)
  sorted-rising [] a = tt
  sorted-rising (e ∷ L) a = (above-over e.key L a.0, sorted-rising L a.1)

  pub over-trans : (j k : Key) (L : List (PairOf Val)) → cmp j k ≡ Less → Over k L → Over j L
  over-trans j k [] h a = tt
  over-trans j k (p ∷ L) h a = (cmp-trans j k p.key h a.0, over-trans j k L h a.1)

  pub over_none : (k : Key) (L : List (PairOf Val)) → Over k L → find k L ≡ none
  unfolding find
  over_none k [] a = refl
  over_none k (p ∷ L) a = rw a.0 (over_none k L a.1)

  -- below the first key there is nothing
  before-none : (k : Key) (p : PairOf Val) (L : List (PairOf Val)) → Over p.key L → cmp k p.key ≡ Less → find k (p ∷ L) ≡ none
  before-none k p L a h = over_none k (p ∷ L) (h, over-trans k p.key L h a)

  none≢some : {x : Option Val} {v : Val} → x ≡ none → x ≡ some v → ⊥
  none≢some p q = let z : ◌≡◌ {A = ℕ} 0 1 = cc in omega arith

  find_first : (p : PairOf Val) (L : List (PairOf Val)) → find p.key (p ∷ L) ≡ some p.value
  unfolding find
  find_first p L = rw (cmp-refl p.key)

  find-later : (k : Key) (p : PairOf Val) (L : List (PairOf Val)) → (cmp k p.key ≡ Equal → ⊥) → find k (p ∷ L) ≡ find k L
  unfolding find
  find-later k p L n = at (cmp k p.key) n
    where
      at : (o : Ordering) → (o ≡ Equal → ⊥) → pick o (find k L) (some p.value) (find k L) ≡ find k L
      at Less n = refl
      at Equal n = absurd (n refl)
      at Greater n = refl

  -- two maps in order that have the same of each key are the same
  pub same-finds : (A B : List (PairOf Val)) → Rising A → Rising B → ((k : Key) → find k A ≡ find k B) → A ≡ B
  unfolding find
  same-finds [] [] a b h = refl
  same-finds [] (q ∷ B) a b h = absurd (none≢some (sym (h q.key)) (find_first q B))
  same-finds (p ∷ A) [] a b h = absurd (none≢some (h p.key) (find_first p A))
  same-finds (p ∷ A) (q ∷ B) a b h = go (cmp p.key q.key) refl (same-finds A B a.1 b.1)
    where
      rest : p.key ≡ q.key → (k : Key) → find k A ≡ find k B
      rest e k = at (cmp k p.key) refl
        where
          at : (o : Ordering) → cmp k p.key ≡ o → find k A ≡ find k B
          at Less w =
              let l : cmp k q.key ≡ Less = rw e at w in
              over_none k A (over-trans k p.key A w a.0) ∙ sym (over_none k B (over-trans k q.key B l b.0))
          at Equal w =
              let l : k ≡ p.key = cmp-eq k p.key w in
              rw l (over_none p.key A a.0 ∙ sym (rw e (over_none q.key B b.0)))
          at Greater w =
              let n : cmp k p.key ≡ Equal → ⊥ = λ z. gt≢eq w z in
              sym (find-later k p A n) ∙ (h k ∙ find-later k q B (rw e at n))

      go : (o : Ordering) → cmp p.key q.key ≡ o → (((k : Key) → find k A ≡ find k B) → A ≡ B) → p ∷ A ≡ q ∷ B
      go Less w ih = absurd (none≢some (h p.key ∙ before-none p.key q B b.0 w) (find_first p A))
      go Greater w ih = absurd (none≢some (sym (h q.key) ∙ before-none q.key p A a.0 (gt-lt p.key q.key w)) (find_first q B))
      go Equal w ih =
          let e = cmp-eq p.key q.key w in
          let f : some p.value ≡ some q.value = sym (find_first p A) ∙ (h p.key ∙ subst (λ (z : Key). find z (q ∷ B) ≡ some q.value) (sym e) (find_first q B)) in
          let v : p.value ≡ q.value = cc in
          ap₂ {C = List (PairOf Val)} ◌∷◌ (λ i. record { key = e i; value = v i }) (ih (rest e))

  find-here : (k : Key) (p : PairOf Val) (L : List (PairOf Val)) → cmp k p.key ≡ Equal → find k (p ∷ L) ≡ some p.value
  unfolding find
  find-here k p L h = rw h

  -- in a list in order, what is found of a key stands there, and nothing else does
  in-over : (j : Key) (x : PairOf Val) (L : List (PairOf Val)) → Over j L → In x L → cmp j x.key ≡ Less
  in-over j x (p ∷ L) a (inl e) = ap (λ (y : PairOf Val). cmp j y.key) e ∙ a.0
  in-over j x (p ∷ L) a (inr m) = in-over j x L a.1 m
  in-over j x [] a x3 = elim x3 [ ]

  pub in-find : (x : PairOf Val) (L : List (PairOf Val)) → Rising L → In x L → find x.key L ≡ some x.value
  in-find x (p ∷ L) a (inl e) = ap (λ (y : PairOf Val). find y.key (p ∷ L)) e ∙ (find_first p L ∙ sym (ap (λ (y : PairOf Val). some y.value) e))
  in-find x (p ∷ L) a (inr m) =
      let l = lt-gt p.key x.key (in-over p.key x L a.0 m) in
      find-later x.key p L (λ z. gt≢eq l z) ∙ in-find x L a.1 m
  in-find x [] a x3 = elim x3 [ ]

  pub find-in : (k : Key) (v : Val) (L : List (PairOf Val)) → find k L ≡ some v → In (record { key = k; value = v }) L
  unfolding find
  find-in k v [] h = none≢some {v = v} refl h
  find-in k v (p ∷ L) h = at (cmp k p.key) refl h (find-in k v L)
    where
      at : (o : Ordering) → cmp k p.key ≡ o → pick o (find k L) (some p.value) (find k L) ≡ some v
          → (find k L ≡ some v → In (record { key = k; value = v }) L) → In (record { key = k; value = v }) (p ∷ L)
      at Less w e ih = inr (ih e)
      at Equal w e ih =
          let f = cmp-eq k p.key w in
          let g : v ≡ p.value = cc in
          inl (λ i. record { key = f i; value = g i })
      at Greater w e ih = inr (ih e)

-- ---- the walk, a step at a time

module _ (p : Pair) (old : List Pair) where
  pub gone-last : difference (p ∷ old) [] ≡ line Gone p.key ∷ difference old []
  unfolding difference against
  gone-last = refl

  module _ (q : Pair) (new : List Pair) where
    pub gone-first : cmp p.key q.key ≡ Less → difference (p ∷ old) (q ∷ new) ≡ line Gone p.key ∷ difference old (q ∷ new)
    unfolding difference against
    gone-first h = rw h

    pub both_first : cmp p.key q.key ≡ Equal → difference (p ∷ old) (q ∷ new) ≡ with_both p q (difference old new)
    unfolding difference against
    both_first h = rw h

    pub new-first : cmp p.key q.key ≡ Greater → difference (p ∷ old) (q ∷ new) ≡ line New q.key ∷ difference (p ∷ old) new
    unfolding difference against
    new-first h = rw h

pub new-last : (q : Pair) (new : List Pair) → difference [] (q ∷ new) ≡ line New q.key ∷ difference [] new
unfolding difference added
new-last q new = refl

pub none_last : difference [] [] ≡ []
unfolding difference added
none_last = refl

-- ---- what is found of a key in the difference

added-find : (k : Key) (new : List Pair) → find k (added new) ≡ changed none (find k new)
unfolding find added
added-find k [] = refl
added-find k (q ∷ new) = let i = added-find k new in arms₂ (λ u v. u ≡ changed none v) (cmp k q.key) (λ w. i) (λ w. refl) (λ w. i)

module _ (k : Key) (p q : Pair) (L : List Line) where
  both-here : cmp k p.key ≡ Equal → find k L ≡ none → find k (with_both p q L) ≡ changed (some p.value) (some q.value)
  both-here h n = at (same_value p.value q.value)
    where
      at : (b : Bool) → find k (cond b L (line Other p.key ∷ L)) ≡ cond b none (some Other)
      at true = n
      at false = find-here k (line Other p.key) L h

  both_later : (cmp k p.key ≡ Equal → ⊥) → find k (with_both p q L) ≡ find k L
  both_later h = at (same_value p.value q.value)
    where
      at : (b : Bool) → find k (cond b L (line Other p.key ∷ L)) ≡ find k L
      at true = refl
      at false = find-later k (line Other p.key) L h

module _ (k : Key) (p : Pair) (old : List Pair) (o : Over p.key old) (rest : List Pair → List Line)
    (ih : (N : List Pair) → Rising N → find k (rest N) ≡ changed (find k old) (find k N)) where
  against-find : (new : List Pair) → Rising new → find k (against p rest new) ≡ changed (find k (p ∷ old)) (find k new)
  unfolding against
  against-find [] a = at (cmp k p.key) refl
    where
      at : (x : Ordering) → cmp k p.key ≡ x → find k (line Gone p.key ∷ rest []) ≡ changed (find k (p ∷ old)) (find k [])
      at Equal w = find-here k (line Gone p.key) (rest []) w ∙ sym (ap₂ changed (find-here k p old w) (over_none k [] tt))
      at Less w =
          let n : cmp k p.key ≡ Equal → ⊥ = λ z. lt≢eq w z in
          find-later k (line Gone p.key) (rest []) n ∙ (ih [] tt ∙ sym (ap (λ y. changed y (find k [])) (find-later k p old n)))
      at Greater w =
          let n : cmp k p.key ≡ Equal → ⊥ = λ z. gt≢eq w z in
          find-later k (line Gone p.key) (rest []) n ∙ (ih [] tt ∙ sym (ap (λ y. changed y (find k [])) (find-later k p old n)))
  against-find (q ∷ new) a = arms (λ L. find k L ≡ changed (find k (p ∷ old)) (find k (q ∷ new))) (cmp p.key q.key) gone both (fresh (against-find new a.1))
    where
      later : cmp p.key q.key ≡ Less → (cmp k p.key ≡ Equal → ⊥) → find k (line Gone p.key ∷ rest (q ∷ new)) ≡ changed (find k (p ∷ old)) (find k (q ∷ new))
      later h n = find-later k (line Gone p.key) (rest (q ∷ new)) n ∙ (ih (q ∷ new) a ∙ sym (ap (λ y. changed y (find k (q ∷ new))) (find-later k p old n)))

      gone : cmp p.key q.key ≡ Less → find k (line Gone p.key ∷ rest (q ∷ new)) ≡ changed (find k (p ∷ old)) (find k (q ∷ new))
      gone h = at (cmp k p.key) refl
        where
          at : (x : Ordering) → cmp k p.key ≡ x → find k (line Gone p.key ∷ rest (q ∷ new)) ≡ changed (find k (p ∷ old)) (find k (q ∷ new))
          at Less w = later h (λ z. lt≢eq w z)
          at Equal w =
              let l : cmp k q.key ≡ Less = rw (cmp-eq k p.key w) h in
              find-here k (line Gone p.key) (rest (q ∷ new)) w ∙ sym (ap₂ changed (find-here k p old w) (before-none k q new a.0 l))
          at Greater w = later h (λ z. gt≢eq w z)

      apart : p.key ≡ q.key → (cmp k p.key ≡ Equal → ⊥) → find k (with_both p q (rest new)) ≡ changed (find k (p ∷ old)) (find k (q ∷ new))
      apart e n = both_later k p q (rest new) n ∙ (ih new a.1 ∙ sym (ap₂ changed (find-later k p old n) (find-later k q new (rw e at n))))

      both : cmp p.key q.key ≡ Equal → find k (with_both p q (rest new)) ≡ changed (find k (p ∷ old)) (find k (q ∷ new))
      both h = at (cmp k p.key) refl
        where
          at : (x : Ordering) → cmp k p.key ≡ x → find k (with_both p q (rest new)) ≡ changed (find k (p ∷ old)) (find k (q ∷ new))
          at Less w = apart (cmp-eq p.key q.key h) (λ z. lt≢eq w z)
          at Equal w =
              let e = cmp-eq k p.key w in
              let f = e ∙ cmp-eq p.key q.key h in
              let x = ap (λ j. find j old) e ∙ over_none p.key old o in
              let y = ap (λ j. find j new) f ∙ over_none q.key new a.0 in
              both-here k p q (rest new) w (ih new a.1 ∙ ap₂ changed x y)
              ∙ sym (ap₂ changed (find-here k p old w) (find-here k q new (rw f (cmp-refl q.key))))
          at Greater w = apart (cmp-eq p.key q.key h) (λ z. gt≢eq w z)

      fresh : find k (against p rest new) ≡ changed (find k (p ∷ old)) (find k new)
          → cmp p.key q.key ≡ Greater → find k (line New q.key ∷ against p rest new) ≡ changed (find k (p ∷ old)) (find k (q ∷ new))
      fresh inner h = at (cmp k q.key) refl
        where
          past : (cmp k q.key ≡ Equal → ⊥) → find k (line New q.key ∷ against p rest new) ≡ changed (find k (p ∷ old)) (find k (q ∷ new))
          past n = find-later k (line New q.key) (against p rest new) n ∙ (inner ∙ sym (ap (changed (find k (p ∷ old))) (find-later k q new n)))

          at : (x : Ordering) → cmp k q.key ≡ x → find k (line New q.key ∷ against p rest new) ≡ changed (find k (p ∷ old)) (find k (q ∷ new))
          at Less w = past (λ z. lt≢eq w z)
          at Equal w =
              let l : cmp k p.key ≡ Less = rw (cmp-eq k q.key w) (gt-lt p.key q.key h) in
              find-here k (line New q.key) (against p rest new) w ∙ sym (ap₂ changed (before-none k p old o l) (find-here k q new w))
          at Greater w = past (λ z. gt≢eq w z)

pub difference-find : (k : Key) (old new : List Pair) → Rising old → Rising new → find k (difference old new) ≡ changed (find k old) (find k new)
unfolding difference find
difference-find k [] new a b = added-find k new
difference-find k (p ∷ old) new a b = against-find k p old a.0 (λ L. difference old L) (λ N r. difference-find k old N a.1 r) new b

-- ---- its keys are keys of the two maps, and rise

module _ (P : Key → Type 0) where
  each-added : (new : List Pair) → EachKey P new → EachKey P (added new)
  unfolding added
  each-added [] a = tt
  each-added (q ∷ new) a = (a.0, each-added new a.1)

  each_both : (p q : Pair) (L : List Line) → P p.key → EachKey P L → EachKey P (with_both p q L)
  each_both p q L h a = at (same_value p.value q.value)
    where
      at : (b : Bool) → EachKey P (cond b L (line Other p.key ∷ L))
      at true = a
      at false = (h, a)

  each-against : (p : Pair) (rest : List Pair → List Line) → P p.key → ((N : List Pair) → EachKey P N → EachKey P (rest N))
      → (new : List Pair) → EachKey P new → EachKey P (against p rest new)
  unfolding against
  each-against p rest h ih [] a = (h, ih [] tt)
  each-against p rest h ih (q ∷ new) a =
      let i = each-against p rest h ih new a.1 in
      arms (EachKey P) (cmp p.key q.key) (λ w. (h, ih (q ∷ new) a)) (λ w. each_both p q (rest new) h (ih new a.1)) (λ w. (a.0, i))

  pub difference-each : (old new : List Pair) → EachKey P old → EachKey P new → EachKey P (difference old new)
  unfolding difference
  difference-each [] new a b = each-added new b
  difference-each (p ∷ old) new a b = each-against p (λ L. difference old L) a.0 (λ N n. difference-each old N a.1 n) new b

abbrev above : Key → Key → Type 0
above j k = cmp j k ≡ Less

rising-added : (new : List Pair) → Rising new → Rising (added new)
unfolding added
rising-added [] a = tt
rising-added (q ∷ new) a = (each-added (above q.key) new a.0, rising-added new a.1)

rising-both : (p q : Pair) (L : List Line) → Over p.key L → Rising L → Rising (with_both p q L)
rising-both p q L o a = at (same_value p.value q.value)
  where
    at : (b : Bool) → Rising (cond b L (line Other p.key ∷ L))
    at true = a
    at false = (o, a)

module _ (p : Pair) (old : List Pair) (o : Over p.key old) (rest : List Pair → List Line)
    (over : (j : Key) (N : List Pair) → Over j old → Over j N → Over j (rest N)) (ih : (N : List Pair) → Rising N → Rising (rest N)) where
  rising-against : (new : List Pair) → Rising new → Rising (against p rest new)
  unfolding against
  rising-against [] a = (over p.key [] o tt, ih [] tt)
  rising-against (q ∷ new) a =
      let i = rising-against new a.1 in
      arms Rising (cmp p.key q.key)
      (λ w. (over p.key (q ∷ new) o (w, over-trans p.key q.key new w a.0), ih (q ∷ new) a))
      (λ w. rising-both p q (rest new) (over p.key new o (rw (cmp-eq p.key q.key w) a.0)) (ih new a.1))
      (λ w.
      let l = gt-lt p.key q.key w in
      (each-against (above q.key) p rest l (λ N n. over q.key N (over-trans q.key p.key old l o) n) new a.0, i))

pub difference-rising : (old new : List Pair) → Rising old → Rising new → Rising (difference old new)
unfolding difference
difference-rising [] new a b = rising-added new b
difference-rising (p ∷ old) new a b =
    rising-against p old a.0 (λ L. difference old L) (λ j N x y. difference-each (above j) old N x y) (λ N n. difference-rising old N a.1 n) new b

-- ---- at most a line for each entry

both-length : (p q : Pair) (L : List Line) → length (with_both p q L) ≤ suc (length L)
both-length p q L = at (same_value p.value q.value)
  where
    at : (b : Bool) → length (cond b L (line Other p.key ∷ L)) ≤ suc (length L)
    at true = omega arith
    at false = omega arith

added-length : (new : List Pair) → length (added new) ≡ length new
unfolding added
added-length [] = refl
added-length (q ∷ new) = ap suc (added-length new)

against-length : (p : Pair) (n : ℕ) (rest : List Pair → List Line) → ((N : List Pair) → length (rest N) ≤ n + length N) → (new : List Pair)
    → length (against p rest new) ≤ suc n + length new
unfolding against
against-length p n rest ih [] = omega (arith, ih [])
against-length p n rest ih (q ∷ new) =
    let i = against-length p n rest ih new in
    let x : suc (length (rest (q ∷ new))) ≤ suc n + suc (length new) = omega (arith, ih (q ∷ new)) in
    let y : length (with_both p q (rest new)) ≤ suc n + suc (length new) = omega (arith, both-length p q (rest new), ih new) in
    let z : suc (length (against p rest new)) ≤ suc n + suc (length new) = omega arith in
    arms (λ (L : List Line). length L ≤ suc n + suc (length new)) (cmp p.key q.key) (λ w. x) (λ w. y) (λ w. z)

pub difference-length : (old new : List Pair) → length (difference old new) ≤ length old + length new
unfolding difference
difference-length [] new = omega (arith, added-length new)
difference-length (p ∷ old) new = against-length p (length old) (λ L. difference old L) (λ N. difference-length old N) new

-- ---- THE RESULTS

-- the list is a difference of the two maps
pub difference-is : (old new : List Pair) → Rising old → Rising new → Difference old new (difference old new)
difference-is old new a b =
    record {
      rising = difference-rising old new a b;
      listed = λ k c h. find-in k c (difference old new) (difference-find k old new a b ∙ h);
      only = λ k c h. sym (difference-find k old new a b) ∙ in-find (line c k) (difference old new) (difference-rising old new a b) h;
    }

-- only one list is
told : {old new : List Pair} {L : List Line} → Difference old new L → (k : Key) → find k L ≡ changed (find k old) (find k new)
told {old} {new} {L} d k = at (changed (find k old) (find k new)) refl
  where
    none-there : (y : Option Change) → find k L ≡ y → changed (find k old) (find k new) ≡ none → find k L ≡ none
    none-there none f e = f
    none-there (some c) f e = absurd (none≢some e (d.only k c (find-in k c L f)))

    at : (x : Option Change) → changed (find k old) (find k new) ≡ x → find k L ≡ x
    at none e = none-there (find k L) refl e
    at (some c) e = in-find (line c k) L d.rising (d.listed k c e)

pub difference-one : {old new : List Pair} (L M : List Line) → Difference old new L → Difference old new M → L ≡ M
difference-one L M d e = same-finds L M d.rising e.rising (λ k. told d k ∙ sym (told e k))

-- no line exactly when the two maps are equal
changed-none : (x y : Option (List ℕ)) → changed x y ≡ none → x ≡ y
changed-none none none h = refl
changed-none (some v) none h = absurd (none≢some h refl)
changed-none none (some w) h = absurd (none≢some h refl)
changed-none (some v) (some w) h = at (same_value v w) refl h
  where
    at : (b : Bool) → same_value v w ≡ b → cond b none (some Other) ≡ none → some v ≡ some w
    at true e z = ap some (same-eq v w e)
    at false e z = absurd (none≢some z refl)

changed-same : (x : Option (List ℕ)) → changed x x ≡ none
changed-same none = refl
changed-same (some v) = rw (same_refl v)

pub no_line : (old new : List Pair) → Rising old → Rising new → difference old new ≡ [] → old ≡ new
unfolding find
no_line old new a b h = same-finds old new a b (λ k. changed-none (find k old) (find k new) (sym (difference-find k old new a b) ∙ ap (find k) h))

pub equal-maps : (map : List Pair) → Rising map → difference map map ≡ []
unfolding find
equal-maps map a = same-finds (difference map map) [] (difference-rising map map a a) tt (λ k. difference-find k map map a a ∙ changed-same (find k map))
