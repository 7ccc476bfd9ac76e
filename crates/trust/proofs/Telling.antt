-- Each entry that f shows stands in the list of `shown f t` as a label; so a key is known of where f shows it, or else the keys next to it.
use mathlib.Core.Path.{◌≡◌, refl, sym, ap, ap₂, subst, ◌∙◌}
use mathlib.Core.Bool.{true, false, true≢false}
use mathlib.Core.Logic.{inl, inr}
use mathlib.Core.List.{List, [], ◌∷◌, ◌++◌, append_assoc}
use Rattle.std.specs.declared.cmp.Ordering.{Ordering}
use Rattle.std.specs.declared.cmp.Ordering.TheVariants.{Less, Equal, Greater}
use Rattle.key_order.specs.Order.{Key, cmp}
use Rattle.key_order.proofs.Laws.{cmp-eq, cmp-trans, gt-lt}
use Rattle.hash_tree.specs.HashTree.{Digest, HashTree, Empty, Fork, Labeled, Leaf, Pruned}
use Rattle.llrb.specs.Tree.{Entry, Tree, entries}
use Rattle.llrb.specs.Sorted.{Above, Below, Sorted}
use Rattle.llrb.proofs.Lists.{above-trans, sorted-right, sorted-below}
use Rattle.witness_trees.specs.Shown.{What, Show, is_hide, item, quiet, shown}
use Rattle.witness_trees.specs.Rules.{In, here, there, Lt, keys_of}
use Rattle.witness_trees.specs.Words.{Has, it, NearestBelow, NearestAbove}
use Rattle.witness_trees.specs.Words as words
use Rattle.witness_trees.proofs.Lists.{lt_not, lt-irr, in_right, in-node, above_in, below_in, left_lt, right-gt}
use Rattle.lookup.specs.Flatten.{flatten}
use Rattle.lookup.specs.Lookup.{Found, Known, between, before, after, nothing}
use Rattle.trust.proofs.Tracing.{and-true, Traces, traces, not-nil, traces-nil, item-key}

-- ---- where a key lies in a list

data Spot (k : Key) : List Entry → Type 0 where
  at : {M : List Entry} (S : List Entry) (e : Entry) (R : List Entry) → M ≡ S ++ (e ∷ R) → e.key ≡ k → Spot k M
  none : {M : List Entry} → M ≡ [] → Spot k M
  front : {M : List Entry} (e : Entry) (R : List Entry) → M ≡ e ∷ R → Lt k e.key → Spot k M
  back : {M : List Entry} (S : List Entry) (e : Entry) → M ≡ S ++ (e ∷ []) → Lt e.key k → Spot k M
  mid : {M : List Entry} (S : List Entry) (e y : Entry) (R : List Entry) → M ≡ S ++ (e ∷ y ∷ R) → Lt e.key k → Lt k y.key → Spot k M

-- one more entry, below the key
more : (k : Key) (e : Entry) {M : List Entry} → Lt e.key k → Spot k M → Spot k (e ∷ M)
more k e lo (at S x R q h) = at (e ∷ S) x R (ap {B = List Entry} (λ (X : List Entry). e ∷ X) q) h
more k e lo (none q) = back [] e (ap {B = List Entry} (λ (X : List Entry). e ∷ X) q) lo
more k e lo (front x R q h) = mid [] e x R (ap {B = List Entry} (λ (X : List Entry). e ∷ X) q) lo h
more k e lo (back S x q h) = back (e ∷ S) x (ap {B = List Entry} (λ (X : List Entry). e ∷ X) q) h
more k e lo (mid S x y R q h g) = mid (e ∷ S) x y R (ap {B = List Entry} (λ (X : List Entry). e ∷ X) q) h g

spot : (k : Key) (M : List Entry) → Spot k M
spot k [] = none refl
spot k (e ∷ M) = go (cmp k e.key) refl (spot k M)
  where
    go : (o : Ordering) → cmp k e.key ≡ o → Spot k M → Spot k (e ∷ M)
    go Less q i = front e M refl q
    go Equal q i = at [] e M refl (sym (cmp-eq k e.key q))
    go Greater q i = more k e (gt-lt k e.key q) i

has_in : (k : Key) (L : List Entry) → Has k (keys_of L) → (y : Entry) × In y L × (y.key ≡ k)
has_in k (e ∷ L) it = (e, here, refl)
has_in k (e ∷ L) (words.more i) = let r = has_in k L i in (r.0, there r.1, r.2)
has_in k [] x' = elim x' [ ]

below-trans : (j k : Key) (L : List Entry) → Lt j k → Below j L → Below k L
below-trans j k [] h a = tt
below-trans j k (e ∷ L) h a = (cmp-trans e.key j k a.0 h, below-trans j k L h a.1)

low-join : (k : Key) (S : List Entry) (e : Entry) → Below k S → Lt e.key k → Below k (S ++ (e ∷ []))
low-join k [] e a h = (h, tt)
low-join k (x ∷ S) e a h = (a.0, low-join k S e a.1 h)

module _ (S : List Entry) (e : Entry) (R : List Entry) (k : Key) (s : Sorted (S ++ (e ∷ R))) where
  near-low : Lt e.key k → Above k R → NearestBelow k (keys_of (S ++ (e ∷ R))) e.key
  near-low h a = (
    h,
    λ x i q.
        let y = has_in x (S ++ (e ∷ R)) i in
        subst (Lt k) y.2 (in-node (λ z. Lt e.key z.key → Lt k z.key) S e R
        (λ z j p. absurd (lt_not e.key z.key p (left_lt S e R s z j))) (λ p. absurd (lt-irr e.key p)) (λ z j p. above_in k a j)
        y.0 y.1 (subst (Lt e.key) (sym y.2) q)),
  )

  near-high : Below k S → Lt k e.key → NearestAbove k (keys_of (S ++ (e ∷ R))) e.key
  near-high a h = (
    h,
    λ x i q.
        let y = has_in x (S ++ (e ∷ R)) i in
        subst (λ (z : Key). Lt z k) y.2 (in-node (λ z. Lt z.key e.key → Lt z.key k) S e R
        (λ z j p. below_in k a j) (λ p. absurd (lt-irr e.key p)) (λ z j p. absurd (lt_not z.key e.key p (right-gt S e R s z j)))
        y.0 y.1 (subst (λ (z : Key). Lt z e.key) (sym y.2) q)),
  )

module _ (f : Entry → What) where
  -- ---- each entry that f shows stands there as a label

  -- a run that f hides does not reach an entry that f shows
  past-run : (T N S : List Entry) (e : Entry) (R : List Entry) → T ++ N ≡ S ++ (e ∷ R) → quiet f T ≡ true → is_hide (f e) ≡ false
      → (P : List Entry) × (S ≡ T ++ P) × (N ≡ P ++ (e ∷ R))
  past-run [] N S e R q h n = (S, refl, q)
  past-run (t ∷ T) N [] e R q h n =
      let w : t ≡ e = cc in
      absurd (true≢false (sym (and-true (is_hide (f t)) (quiet f T) h).0 ∙ ap (λ (x : Entry). is_hide (f x)) w ∙ n))
  past-run (t ∷ T) N (s ∷ S) e R q h n =
      let w : s ≡ t = cc in
      let v : T ++ N ≡ S ++ (e ∷ R) = cc in
      let r = past-run T N S e R v (and-true (is_hide (f t)) (quiet f T) h).1 n in
      (r.0, ap₂ {C = List Entry} ◌∷◌ w r.1, r.2)

  record Seen (L : List HashTree) (S : List Entry) (e : Entry) (R : List Entry) : Type 0 where
    low : List HashTree
    child : HashTree
    high : List HashTree
    stands : L ≡ low ++ (Labeled e.key child ∷ high)
    own : Labeled e.key child ≡ item (f e) e
    lows : Traces f low S
    highs : Traces f high R

  -- one label, or one hidden run, further left
  past-label : (k : Key) (x : HashTree) (L : List HashTree) (o s : Entry) (S : List Entry) (e : Entry) (R : List Entry) → s ≡ o
      → is_hide (f o) ≡ false → Labeled k x ≡ item (f o) o
      → Seen L S e R → Seen (Labeled k x ∷ L) (s ∷ S) e R
  past-label k x L o s S e R w n h r =
      record {
        low = Labeled k x ∷ r.low;
        child = r.child;
        high = r.high;
        stands = ap {B = List HashTree} (λ (X : List HashTree). Labeled k x ∷ X) r.stands;
        own = r.own;
        lows = (o, S, ap {B = List Entry} (λ (y : Entry). y ∷ S) w, n, h, r.lows);
        highs = r.highs;
      }

  past-hidden : (d : Digest) (L : List HashTree) (o : Entry) (T P S : List Entry) (e : Entry) (R : List Entry) → S ≡ o ∷ (T ++ P)
      → quiet f (o ∷ T) ≡ true
      → Seen L P e R → Seen (Pruned d ∷ L) S e R
  past-hidden d L o T P S e R w n r =
      record {
        low = Pruned d ∷ r.low;
        child = r.child;
        high = r.high;
        stands = ap {B = List HashTree} (λ (X : List HashTree). Pruned d ∷ X) r.stands;
        own = r.own;
        lows = (o, T, P, w, n, r.lows);
        highs = r.highs;
      }

  label_at : (L : List HashTree) (M S : List Entry) (e : Entry) (R : List Entry) → Traces f L M → M ≡ S ++ (e ∷ R)
      → is_hide (f e) ≡ false → Seen L S e R
  label_at [] M S e R c q n = absurd (not-nil f S e R (sym q ∙ c))
  label_at (Empty ∷ L) M S e R c q n = absurd c
  label_at (Fork l r ∷ L) M S e R c q n = absurd c
  label_at (Labeled k x ∷ L) M [] e R c q n =
      let i = c.2 in
      let w : c.0 ≡ e = cc in
      let v : c.1 ≡ R = cc in
      let j : k ≡ e.key = item-key f (f c.0) c.0 k x c.3 c.4 ∙ ap (λ (y : Entry). y.key) w in
      record {
        low = [];
        child = x;
        high = L;
        stands = ap {B = List HashTree} (λ (j : Key). Labeled j x ∷ L) j;
        own = ap (λ (j : Key). Labeled j x) (sym j) ∙ c.4 ∙ ap (λ (y : Entry). item (f y) y) w;
        lows = refl;
        highs = subst (Traces f L) v c.5;
      }
  label_at (Labeled k x ∷ L) M (s ∷ S) e R c q n =
      let i = c.2 in
      let w : s ≡ c.0 = cc in
      let v : c.1 ≡ S ++ (e ∷ R) = cc in
      past-label k x L c.0 s S e R w c.3 c.4 (label_at L c.1 S e R c.5 v n)
  label_at (Leaf v ∷ L) M S e R c q n = absurd c
  label_at (Pruned d ∷ L) M S e R c q n =
      let p = past-run (c.0 ∷ c.1) c.2 S e R (sym c.3 ∙ q) c.4 n in
      past-hidden d L c.0 c.1 p.0 S e R p.1 c.4 (label_at L c.2 p.0 e R c.5 p.2 n)

  -- first, last, and two side by side
  module _ {L : List HashTree} {e : Entry} where
    seen_first : {R : List Entry} (r : Seen L [] e R) → L ≡ Labeled e.key r.child ∷ r.high
    seen_first r = r.stands ∙ ap (λ (X : List HashTree). X ++ (Labeled e.key r.child ∷ r.high)) (traces-nil f r.low [] r.lows refl)

    seen_last : {S : List Entry} (r : Seen L S e []) → L ≡ r.low ++ (Labeled e.key r.child ∷ [])
    seen_last r = r.stands ∙ ap (λ (X : List HashTree). r.low ++ (Labeled e.key r.child ∷ X)) (traces-nil f r.high [] r.highs refl)

    seen-two : {S : List Entry} {y : Entry} {R : List Entry} (r : Seen L S e (y ∷ R)) (t : Seen r.high [] y R)
        → L ≡ r.low ++ (Labeled e.key r.child ∷ Labeled y.key t.child ∷ t.high)
    seen-two r t = r.stands ∙ ap (λ (X : List HashTree). r.low ++ (Labeled e.key r.child ∷ X)) (t.stands ∙ first t)
      where
        first : {y : Entry} {R : List Entry} {K : List HashTree} (t : Seen K [] y R)
            → t.low ++ (Labeled y.key t.child ∷ t.high) ≡ Labeled y.key t.child ∷ t.high
        first {y = y} t = ap (λ (X : List HashTree). X ++ (Labeled y.key t.child ∷ t.high)) (traces-nil f t.low [] t.lows refl)

  -- ---- so a key is known of where f shows it, or else the keys next to it

  module _ (k : Key) (L : List HashTree) (M : List Entry) (c : Traces f L M) (s : Sorted M)
      (own : (e : Entry) → In e M → e.key ≡ k → is_hide (f e) ≡ false)
      (lower : (e : Entry) → In e M → NearestBelow k (keys_of M) e.key → is_hide (f e) ≡ false)
      (upper : (e : Entry) → In e M → NearestAbove k (keys_of M) e.key → is_hide (f e) ≡ false) where
    in-mid : (S : List Entry) (e : Entry) (R : List Entry) → M ≡ S ++ (e ∷ R) → In e M
    in-mid S e R q = subst (In e) (sym q) (in_right S here)

    found : (S : List Entry) (e : Entry) (R : List Entry) → e.key ≡ k → Seen L S e R → Known k L
    found S e R h r =
        inl (r.child, record { before = r.low; after = r.high; stands = r.stands ∙ ap (λ (j : Key). r.low ++ (Labeled j r.child ∷ r.high)) h })

    known_at : Spot k M → Known k L
    known_at (at S e R q h) = found S e R h (label_at L M S e R c q (own e (in-mid S e R q) h))
    known_at (none q) = inr (nothing (traces-nil f L M c q))
    known_at (front e R q h) =
        let r = label_at L M [] e R c q (upper e (in-mid [] e R q) (rw q (near-high [] e R k (subst Sorted q s) tt h))) in
        inr (before r.high e.key r.child (seen_first r) h)
    known_at (back S e q h) =
        let r = label_at L M S e [] c q (lower e (in-mid S e [] q) (rw q (near-low S e [] k (subst Sorted q s) h tt))) in
        inr (after r.low e.key r.child (seen_last r) h)
    known_at (mid S e y R q h g) =
        let w = subst Sorted q s in
        let v : M ≡ (S ++ (e ∷ [])) ++ (y ∷ R) = q ∙ sym (append_assoc S (e ∷ []) (y ∷ R)) in
        let r = label_at L M S e (y ∷ R) c q
        (lower e (in-mid S e (y ∷ R) q) (rw q (near-low S e (y ∷ R) k w h (g, above-trans k y.key R g (sorted-right S (e ∷ y ∷ R) w).1.0)))) in
        let t = label_at r.high (y ∷ R) [] y R r.highs refl
        (upper y (in-mid (S ++ (e ∷ [])) y R v)
        (rw v (near-high (S ++ (e ∷ [])) y R k (subst Sorted v s) (low-join k S e (below-trans e.key k S h (sorted-below S e (y ∷ R) w)) h) g))) in
        inr (between r.low t.high e.key y.key r.child t.child (seen-two r t) h g)

  pub shown-known : (t : Tree) → Sorted (entries t) → (k : Key)
      → ((e : Entry) → In e (entries t) → e.key ≡ k → is_hide (f e) ≡ false)
      → ((e : Entry) → In e (entries t) → NearestBelow k (keys_of (entries t)) e.key → is_hide (f e) ≡ false)
      → ((e : Entry) → In e (entries t) → NearestAbove k (keys_of (entries t)) e.key → is_hide (f e) ≡ false)
      → Known k (flatten (shown f t))
  shown-known t s k own lower upper = known_at k (flatten (shown f t)) (entries t) (traces f t) s own lower upper (spot k (entries t))

  -- ---- an entry that f shows with its value is found with it

  in_split : {e : Entry} {M : List Entry} → In e M → (S : List Entry) × (R : List Entry) × (M ≡ S ++ (e ∷ R))
  in_split (here {L = L}) = ([], L, refl)
  in_split (there {x = x} i) = let r = in_split i in (x ∷ r.0, r.1, ap {B = List Entry} (λ (X : List Entry). x ∷ X) r.2)

  seen_value : (L : List HashTree) (S : List Entry) (e : Entry) (R : List Entry) → f e ≡ Show → Seen L S e R
      → Found e.key (Leaf e.value) L
  seen_value L S e R h r =
      let q : Labeled e.key r.child ≡ Labeled e.key (Leaf e.value) = r.own ∙ ap (λ (w : What). item w e) h in
      let c : r.child ≡ Leaf e.value = cc in
      record { before = r.low; after = r.high; stands = r.stands ∙ ap (λ (x : HashTree). r.low ++ (Labeled e.key x ∷ r.high)) c }

  pub shown-value : (t : Tree) (e : Entry) → In e (entries t) → f e ≡ Show → Found e.key (Leaf e.value) (flatten (shown f t))
  shown-value t e i h =
      let p = in_split i in
      seen_value (flatten (shown f t)) p.0 e p.1 h (label_at (flatten (shown f t)) (entries t) p.0 e p.1 (traces f t) p.2 (ap is_hide h))
