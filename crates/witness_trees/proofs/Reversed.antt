-- Request Q-7: a range with first above last. Its bounds are crossed exactly when two keys of the map lie from last to first (`four-says`, `says_four`);
-- where they are not, key_range and value_range are `shown` at `reversed_rule`, and label the bounds that exist and nothing else.
use mathlib.Core.Path.{◌≡◌, refl, sym, ◌∙◌}
use mathlib.Core.Logic.{◌⊎◌, inl, inr}
use mathlib.Core.Bool.{Bool, true, false, not, cond, ◌&&◌, ◌||◌, true≢false}
use mathlib.Core.List.{List, [], ◌∷◌}
use mathlib.Core.Option.{Option, none, some}
use Rattle.std.specs.declared.cmp.Ordering.{Ordering}
use Rattle.std.specs.declared.cmp.Ordering.TheVariants.{Less, Equal, Greater}
use Rattle.key_order.specs.Order.{Key, cmp, pick}
use Rattle.key_order.proofs.Laws.{cmp-refl, cmp-eq, cmp-trans, gt-lt, lt-gt, lt≢eq}
use Rattle.hash_tree.specs.HashTree.{Empty}
use Rattle.llrb.specs.Tree.{Entry, Tree, nil, node, entries}
use Rattle.llrb.specs.Map.{pairs}
use Rattle.llrb.specs.Sorted.{Sorted}
use Rattle.witness_trees.specs.Shown.{What, Hide, Label, shown, three_way_fork}
use Rattle.witness_trees.specs.Reading.{labels, says}
use Rattle.witness_trees.specs.Witness.{Form, keys_only, values, seen, KeyBound, Exact, Neighbor, at, lower_bound, upper_bound, last_arm, full_witness_tree, witness_range_above, witness_range_below, witness_range_between, range_witness, key_range, value_range}
use Rattle.witness_trees.specs.Sides.{Beyond, Edge, Exactly, Inside, meet}
use Rattle.witness_trees.specs.Rules.{In, here, there, Lt, Le, IsLow, IsHigh, InOrder, crossed, upto, below, none_of, next_below, next_above, keys_of, same, an_end, wanted_reversed, reversed_rule, Witness, nothing}
use Rattle.witness_trees.specs.Words.{Has, it, more, WantedReversed, Two}
use Rattle.witness_trees.proofs.Lists.{lt_not, lt-irr, lt-le}
use Rattle.witness_trees.proofs.Bounds.{lower-is, upper_is}
use Rattle.witness_trees.proofs.Rules.{none-all, low_words, high_words}
use Rattle.witness_trees.proofs.Calls.{join-same, shown-same, range-by, bounds-in-order}
use Rattle.witness_trees.proofs.Laws.{shown-witness, rule-keys, rule-values, or_left}
use Rattle.witness_trees.proofs.Words.{next-below, nearest-below, next-above, nearest-above}

-- ---- when the bounds are crossed

-- what is not below is at or above
not-below : (a b : Key) → (Lt b a → ⊥) → (cmp a b ≡ Less) ⊎ (a ≡ b)
not-below a b h = go (cmp a b) refl
  where
    go : (o : Ordering) → cmp a b ≡ o → (cmp a b ≡ Less) ⊎ (a ≡ b)
    go Less q = inl q
    go Equal q = inr (cmp-eq a b q)
    go Greater q = absurd (h (gt-lt a b q))

le-lt : (a b c : Key) → Le a b → Lt b c → Lt a c
le-lt a b c h q = go (not-below a b h)
  where
    go : (cmp a b ≡ Less) ⊎ (a ≡ b) → Lt a c
    go (inl p) = cmp-trans a b c p q
    go (inr p) = rw p q

le_refl : (a b : Key) → a ≡ b → Le a b
le_refl a b p q = lt-irr b (rw p at q)

-- a key not above first is not above its low bound, and one not below last is not below its high bound
low-over : (k : Key) (L : List Entry) (b : KeyBound) → IsLow k L (some b) → (y : Entry) → In y L → Le y.key k → Le y.key (at b)
low-over k L (Exact b) h y i q = rw h.1 q
low-over k L (Neighbor b) h y i q = λ u. q (h.2 y i u)

high-under : (k : Key) (L : List Entry) (b : KeyBound) → IsHigh k L (some b) → (x : Entry) → In x L → Le k x.key → Le (at b) x.key
high-under k L (Exact b) h x i q = rw h.1 q
high-under k L (Neighbor b) h x i q = λ u. q (h.2 x i u)

-- no two entries lie from last to first
abbrev pub NoTwo : (first last : Key) → List Entry → Type 0
NoTwo first last L = (x y : Entry) → In x L → In y L → Le last x.key → Lt x.key y.key → Le y.key first → ⊥

no-two : (first last : Key) (L : List Entry) (lo hi : Option KeyBound) → IsLow first L lo → IsHigh last L hi → InOrder lo hi → NoTwo first last L
no-two first last L none hi p q o x y i j a b c = c (p y j)
no-two first last L (some lo) none p q o x y i j a b c = a (q x i)
no-two first last L (some lo) (some hi) p q o x y i j a b c =
    o (le-lt (at hi) x.key (at lo) (high-under last L hi q x i a) (lt-le x.key y.key (at lo) b (low-over first L lo p y j c)))

-- the bounds' own entries
abbrev entry_of : KeyBound → Entry
entry_of (Exact e) = e
entry_of (Neighbor e) = e

low-in : (k : Key) (L : List Entry) (b : KeyBound) → IsLow k L (some b) → In (entry_of b) L × Le (at b) k × (at b ≡ (entry_of b).key)
low-in k L (Exact b) h = (h.0, le_refl b.key k h.1, refl)
low-in k L (Neighbor b) h = (h.0, lt_not b.key k h.1, refl)

high-in : (k : Key) (L : List Entry) (b : KeyBound) → IsHigh k L (some b) → In (entry_of b) L × Le k (at b) × (at b ≡ (entry_of b).key)
high-in k L (Exact b) h = (h.0, le_refl k b.key (sym h.1), refl)
high-in k L (Neighbor b) h = (h.0, lt_not k b.key h.1, refl)

two_none : (first last : Key) (L : List Entry) (lo hi : Option KeyBound) → IsLow first L lo → IsHigh last L hi → NoTwo first last L → InOrder lo hi
two_none first last L none hi p q n = tt
two_none first last L (some lo) none p q n = tt
two_none first last L (some lo) (some hi) p q n =
    λ u.
    let a = low-in first L lo p in
    let b = high-in last L hi q in
    n (entry_of hi) (entry_of lo) b.0 a.0 (rw b.2 at b.1) (rw (a.2, b.2) at u) (rw a.2 at a.1)

-- ---- the sides together

module _ (first last : Key) (h : Lt last first) (L : List Entry) (n : NoTwo first last L) (e : Entry) (i : In e L) where
  le_of : (a b : Key) (v : Bool) → upto a b ≡ v → (v ≡ true) → Le a b
  le_of a b v q p u = true≢false (sym (q ∙ p) ∙ rw (lt-gt b a u))

  lt_of : (a b : Key) (v : Ordering) → cmp b a ≡ v → not (pick v true true false) ≡ true → Lt a b
  lt_of a b Less q p = absurd (true≢false (sym p))
  lt_of a b Equal q p = absurd (true≢false (sym p))
  lt_of a b Greater q p = gt-lt b a q

  both : (x y : Bool) → ((x ≡ true) → (y ≡ true) → ⊥) → (x && y) ≡ false
  both true true h = absurd (h refl refl)
  both true false h = refl
  both false y h = refl

  -- nothing between last and a key not above first, and nothing between first and a key not below last
  none-under : Le e.key first → none_of (λ x. upto last x && below x e.key) (keys_of L) ≡ true
  none-under q = none-all _ L (λ x j. both (upto last x.key) (below x.key e.key)
      (λ u v. n x e j i (le_of last x.key _ refl u) (lt_of x.key e.key (cmp e.key x.key) refl v) q))

  none_over : Le last e.key → none_of (λ x. below e.key x && upto x first) (keys_of L) ≡ true
  none_over q = none-all _ L (λ x j. both (below e.key x.key) (upto x.key first)
      (λ u v. n e x i j q (lt_of e.key x.key (cmp x.key e.key) refl u) (le_of x.key first _ refl v)))

  pub reversed-words : (w : Form) → meet w (low_words first (keys_of L) e.key) (high_words last (keys_of L) e.key) ≡ reversed_rule first last (keys_of L) w e
  reversed-words w =
      go (cmp first e.key) (cmp e.key last) refl refl
      (none_of (λ x. below e.key x && upto x first) (keys_of L)) (none_of (λ x. upto last x && below x e.key) (keys_of L)) none_over none-under
    where
      rule : Ordering → Ordering → Bool → Bool → What
      rule o v a b =
          let s : Bool = pick o false true false || pick v false true false in
          cond s (seen w) (cond (s || ((not (pick o true true false) && a) || (not (pick v true true false) && b))) Label Hide)

      go : (o v : Ordering) → cmp first e.key ≡ o → cmp e.key last ≡ v → (a b : Bool) → (Le last e.key → a ≡ true) → (Le e.key first → b ≡ true)
          → meet w (pick o Inside Exactly (cond a Edge Beyond)) (pick v Inside Exactly (cond b Edge Beyond)) ≡ rule o v a b
      go Less Less p q a b x y = absurd (lt_not last first h (cmp-trans first e.key last p q))
      go Less Equal p q a b x y = absurd (lt_not last first h (rw (← (cmp-eq e.key last q)) p))
      go Less Greater p q a true x y = refl
      go Less Greater p q a false x y = refl
      go Equal Less p q a b x y = absurd (lt_not last first h (rw (cmp-eq first e.key p) q))
      go Equal Equal p q a b x y = absurd (lt≢eq h (rw (cmp-eq first e.key p, cmp-eq e.key last q) (cmp-refl last)))
      go Equal Greater p q a b x y = rw (y (le_refl e.key first (sym (cmp-eq first e.key p))))
      go Greater Less p q true b x y = refl
      go Greater Less p q false b x y = refl
      go Greater Equal p q a b x y = rw (x (le_refl last e.key (sym (cmp-eq e.key last q))))
      go Greater Greater p q a b x y = rw (x (lt_not last e.key (gt-lt e.key last q)), y (lt_not e.key first (gt-lt first e.key p)))

-- ---- the calls

module _ (first last : Key) (t : Tree) (s : Sorted (entries t)) where
  order-none : InOrder (lower_bound first t) (upper_bound last t) → NoTwo first last (entries t)
  order-none o = no-two first last (entries t) (lower_bound first t) (upper_bound last t) (lower-is first t s) (upper_is last t s) o

  range-reversed : (w : Form) → Lt last first → InOrder (lower_bound first t) (upper_bound last t)
      → shown (λ e. meet w (low_words first (keys_of (entries t)) e.key) (high_words last (keys_of (entries t)) e.key)) t ≡ shown (reversed_rule first last (keys_of (entries t)) w) t
  range-reversed w h o = shown-same _ _ t (λ e i. reversed-words first last h (entries t) (order-none o) e i w)

  pub key-range-reversed-is : Lt last first → InOrder (lower_bound first t) (upper_bound last t) → key_range first last t ≡ shown (reversed_rule first last (keys_of (entries t)) keys_only) t
  unfolding key_range
  key-range-reversed-is h o = range-by three_way_fork last_arm join-same first last keys_only t s o ∙ range-reversed keys_only h o

  pub value-range-reversed-is : Lt last first → InOrder (lower_bound first t) (upper_bound last t) → value_range first last t ≡ shown (reversed_rule first last (keys_of (entries t)) values) t
  unfolding value_range
  value-range-reversed-is h o = range-by three_way_fork last_arm join-same first last values t s o ∙ range-reversed values h o

  -- labels, values, root digest and depth
  pub key-range-reversed : Lt last first → InOrder (lower_bound first t) (upper_bound last t)
      → Witness t (pairs (entries t)) (wanted_reversed first last (keys_of (entries t))) nothing (key_range first last t)
  key-range-reversed h o =
      let ks = keys_of (entries t) in
      rw (key-range-reversed-is h o) (shown-witness (reversed_rule first last ks keys_only) (wanted_reversed first last ks) nothing t
      (λ e i. rule-keys (an_end first last e.key) (next_below first ks e.key || next_above last ks e.key))
      (λ e u. absurd (true≢false (sym u))))

  pub value-range-reversed : Lt last first → InOrder (lower_bound first t) (upper_bound last t)
      → Witness t (pairs (entries t)) (wanted_reversed first last (keys_of (entries t))) (an_end first last) (value_range first last t)
  value-range-reversed h o =
      let ks = keys_of (entries t) in
      rw (value-range-reversed-is h o) (shown-witness (reversed_rule first last ks values) (wanted_reversed first last ks) (an_end first last) t
      (λ e i. rule-values (an_end first last e.key) (next_below first ks e.key || next_above last ks e.key))
      (λ e u. or_left (an_end first last e.key) (next_below first ks e.key || next_above last ks e.key) u))

-- ---- 4, in words: the bounds are not in order exactly when two keys of the map lie from last to first

has_in : {k : Key} (L : List Entry) → Has k (keys_of L) → (e : Entry) × In e L × (e.key ≡ k)
has_in (e ∷ L) it = (e, here, refl)
has_in (e ∷ L) (more h) = let r = has_in L h in (r.0, there r.1, r.2)
has_in {k = k} [] x' = elim x' [ ]

in-has : {e : Entry} {L : List Entry} → In e L → Has e.key (keys_of L)
in-has here = it
in-has (there i) = more (in-has i)

module _ (first last : Key) (t : Tree) (s : Sorted (entries t)) where
  pub says_four : Two first last (keys_of (entries t)) → InOrder (lower_bound first t) (upper_bound last t) → ⊥
  says_four w o =
      let x = has_in (entries t) w.has-lower in
      let y = has_in (entries t) w.has-upper in
      order-none first last t s o x.0 y.0 x.1 y.1 (rw x.2 w.from_last) (rw (x.2, y.2) w.apart) (rw y.2 w.to-first)

  pub four-says : (Two first last (keys_of (entries t)) → ⊥) → InOrder (lower_bound first t) (upper_bound last t)
  four-says n =
      two_none first last (entries t) (lower_bound first t) (upper_bound last t) (lower-is first t s) (upper_is last t s)
      (λ x y i j a b c. n (record { lower = x.key; upper = y.key; has-lower = in-has i; has-upper = in-has j; from_last = a; apart = b; to-first = c }))

  -- with no key from last to first, the bounds are in order
  pub gap-in-order : ((x : Key) → Has x (keys_of (entries t)) → Le last x → Le x first → ⊥) → InOrder (lower_bound first t) (upper_bound last t)
  gap-in-order n = four-says (λ w. n w.lower w.has-lower w.from_last (λ q. w.to-first (cmp-trans first w.lower w.upper q w.apart)))

-- ---- the test of two bounds; they are crossed only where first is above last, so that first and last need not be compared

pub in-order-not : (lo hi : Option KeyBound) → InOrder lo hi → crossed lo hi ≡ false
in-order-not none hi o = refl
in-order-not (some lo) none o = refl
in-order-not (some lo) (some hi) o = go (cmp (at lo) (at hi)) refl
  where
    go : (v : Ordering) → cmp (at lo) (at hi) ≡ v → not (pick v true true false) ≡ false
    go Less q = refl
    go Equal q = refl
    go Greater q = absurd (o (gt-lt (at lo) (at hi) q))

pub not-crossed : (lo hi : Option KeyBound) → crossed lo hi ≡ false → InOrder lo hi
not-crossed none hi h = tt
not-crossed (some lo) none h = tt
not-crossed (some lo) (some hi) h = λ u. true≢false (rw (lt-gt (at hi) (at lo) u) at h)

pub crossed-above : (first last : Key) (t : Tree) → Sorted (entries t) → crossed (lower_bound first t) (upper_bound last t) ≡ true → Lt last first
crossed-above first last t s h = go (cmp last first) refl
  where
    no : Le first last → ⊥
    no q = true≢false (sym h ∙ in-order-not (lower_bound first t) (upper_bound last t) (bounds-in-order first last t s q))

    go : (v : Ordering) → cmp last first ≡ v → Lt last first
    go Less q = q
    go Equal q = absurd (no (le_refl first last (sym (cmp-eq last first q))))
    go Greater q = absurd (no (lt_not first last (gt-lt last first q)))

-- ---- labels in propositions, both ways

same-is : (a b : Key) → same a b ≡ true → a ≡ b
same-is a b h = go (cmp a b) refl h
  where
    go : (o : Ordering) → cmp a b ≡ o → pick o false true false ≡ true → a ≡ b
    go Less q h = absurd (true≢false (sym h))
    go Equal q h = cmp-eq a b q
    go Greater q h = absurd (true≢false (sym h))

is_same : (a b : Key) → a ≡ b → same a b ≡ true
is_same a b h = rw (h, cmp-refl b)

pub reversed-says : (first last : Key) (ks : List Key) (k : Key) → wanted_reversed first last ks k ≡ true → WantedReversed first last ks k
reversed-says first last ks k h = go (same first k) refl (same k last) refl (next_below first ks k) refl (next_above last ks k) refl h
  where
    go : (a : Bool) → same first k ≡ a → (b : Bool) → same k last ≡ b → (c : Bool) → next_below first ks k ≡ c → (d : Bool) → next_above last ks k ≡ d
        → ((a || b) || (c || d)) ≡ true → WantedReversed first last ks k
    go true p b q c r d u h = inl (inl (same-is first k p))
    go false p true q c r d u h = inl (inr (same-is k last q))
    go false p false q true r d u h = inr (inl (next-below first ks k r))
    go false p false q false r true u h = inr (inr (next-above last ks k u))
    go false p false q false r false u h = absurd (true≢false (sym h))

pub says-reversed : (first last : Key) (ks : List Key) (k : Key) → WantedReversed first last ks k → wanted_reversed first last ks k ≡ true
says-reversed first last ks k (inl (inl h)) = rw (is_same first k h)
says-reversed first last ks k (inl (inr h)) = rw (is_same k last h) (go (same first k))
  where
    go : (a : Bool) → ((a || true) || (next_below first ks k || next_above last ks k)) ≡ true
    go true = refl
    go false = refl
says-reversed first last ks k (inr (inl h)) = rw (nearest-below first ks k h) (go (an_end first last k))
  where
    go : (a : Bool) → (a || true) ≡ true
    go true = refl
    go false = refl
says-reversed first last ks k (inr (inr h)) = rw (nearest-above last ks k h) (go (an_end first last k) (next_below first ks k))
  where
    go : (a b : Bool) → (a || (b || true)) ≡ true
    go true b = refl
    go false true = refl
    go false false = refl

-- ---- examples: keys a and z, the range m to c; the key m alone; keys a, b, c, the range c to a; keys x and y; no key

abbrev one : (key : Key) → Tree
one k = node false (record { slot = 1; key = k; value = 7 ∷ [] }) nil nil

abbrev two : (lower upper : Key) → Tree
two k l = node false (record { slot = 1; key = l; value = 7 ∷ [] }) (node true (record { slot = 2; key = k; value = 7 ∷ [] }) nil nil) nil

abbrev abc : Tree
abc = node false (record { slot = 2; key = 98 ∷ []; value = [] }) (one (97 ∷ [])) (one (99 ∷ []))

pub gap-shown : (says (value_range (109 ∷ []) (99 ∷ []) (two (97 ∷ []) (122 ∷ []))) ≡ record { key = 97 ∷ []; value = none } ∷ record { key = 122 ∷ []; value = none } ∷ [])
unfolding value_range range_witness lower_bound upper_bound full_witness_tree witness_range_above witness_range_below witness_range_between three_way_fork cmp
gap-shown = refl

pub end-shown : (says (value_range (109 ∷ []) (99 ∷ []) (one (109 ∷ []))) ≡ record { key = 109 ∷ []; value = some (7 ∷ []) } ∷ [])
unfolding value_range range_witness lower_bound upper_bound full_witness_tree witness_range_above witness_range_below witness_range_between three_way_fork cmp
end-shown = refl

pub both-neighbors : (says (value_range (112 ∷ []) (99 ∷ []) (one (109 ∷ []))) ≡ record { key = 109 ∷ []; value = none } ∷ [])
unfolding value_range range_witness lower_bound upper_bound full_witness_tree witness_range_above witness_range_below witness_range_between three_way_fork cmp
both-neighbors = refl

pub abc-crossed : crossed (lower_bound (99 ∷ []) abc) (upper_bound (97 ∷ []) abc) ≡ true
unfolding lower_bound upper_bound cmp
abc-crossed = refl

pub high-alone : labels (key_range (99 ∷ []) (97 ∷ []) (two (120 ∷ []) (121 ∷ []))) ≡ (120 ∷ []) ∷ []
unfolding key_range range_witness lower_bound upper_bound full_witness_tree witness_range_above witness_range_below witness_range_between three_way_fork cmp
high-alone = refl

pub none-empty : (first last : Key) → key_range first last nil ≡ Empty
unfolding key_range range_witness lower_bound upper_bound full_witness_tree
none-empty first last = refl
