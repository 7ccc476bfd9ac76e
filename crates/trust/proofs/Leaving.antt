-- WHAT READS AS UNKNOWN IS OPEN: the list of a witness that covers a map covers one that has the key and one that has not.
use Prim.Native.Nat.{ℕ, ◌≤◌}
use mathlib.Core.Path.{◌≡◌, refl, sym, ap, subst, ◌∙◌}
use mathlib.Core.Logic.{◌⊎◌, inl, inr}
use mathlib.Core.List.{List, [], ◌∷◌, ◌++◌, append_assoc}
use mathlib.Core.Option.{none, some}
use native.Mathlib.Omega.{arith}
use lib.ListN.{length}
use Rattle.std.specs.Prelude.{Some}
use Rattle.std.specs.declared.cmp.Ordering.{Ordering}
use Rattle.std.specs.declared.cmp.Ordering.TheVariants.{Less, Equal, Greater}
use Rattle.key_order.specs.Order.{Key, cmp, pick}
use Rattle.key_order.proofs.Laws.{cmp-eq, cmp-refl, gt-lt, gt≢eq}
use Rattle.hash_tree.specs.HashTree.{HashTree, Empty, Fork, Labeled, Leaf, Pruned}
use Rattle.lookup.specs.declared.Looked.TheVariants as looked
use Rattle.lookup.specs.Answer.{lookup_answer}
use Rattle.lookup.specs.Flatten.{flatten}
use Rattle.lookup.specs.Lookup.{Lt, Found, Absent, between, before, after, nothing, Says}
use Rattle.lookup.proofs.Promises.{says-answered}
use Rattle.llrb.specs.Tree.{Value, entries}
use Rattle.llrb.specs.Map.{Pair, find}
use Rattle.store.specs.Decode.{decode}
use Rattle.store.specs.Sound.{Sound}
use Rattle.store.proofs.Decoding.{sound-decodes}
use Rattle.trust.specs.Honest.{pair_of, Covers, Over, Rising, Open}
use Rattle.trust.specs.Truth.{map_of, Truth}
use Rattle.trust.proofs.Covering.{Low, over-trans, over-right, rising-right, find-low, found_at}
use Rattle.trust.proofs.Wholes.{sorted-rising}

-- no label of the list is k
abbrev None : Key → List HashTree → Type 0
None k L = (x : HashTree) → Found k x L → ⊥

none_rest : (k : Key) (e : HashTree) (L : List HashTree) → None k (e ∷ L) → None k L
none_rest k e L n x f = n x (record { before = e ∷ f.before; after = f.after; stands = ap {B = List HashTree} (λ (X : List HashTree). e ∷ X) f.stands })

-- ---- the map of the labels alone: each hidden part stands for no key

abbrev shown_only : (L : List HashTree) (M : List Pair) → Covers L M → List Pair
shown_only [] M c = []
shown_only (Empty ∷ L) M c = absurd c
shown_only (Fork l r ∷ L) M c = absurd c
shown_only (Labeled j x ∷ L) M c = pair_of j c.0 ∷ shown_only L c.1 c.4
shown_only (Leaf v ∷ L) M c = absurd c
shown_only (Pruned d ∷ L) M c = shown_only L c.1 c.3

shown-covers : (L : List HashTree) (M : List Pair) (c : Covers L M) → Covers L (shown_only L M c)
shown-covers [] M c = refl
shown-covers (Empty ∷ L) M c = absurd c
shown-covers (Fork l r ∷ L) M c = absurd c
shown-covers (Labeled j x ∷ L) M c = (c.0, shown_only L c.1 c.4, refl, c.3, shown-covers L c.1 c.4)
shown-covers (Leaf v ∷ L) M c = absurd c
shown-covers (Pruned d ∷ L) M c = ([], shown_only L c.1 c.3, refl, shown-covers L c.1 c.3)

shown-over : (k : Key) (L : List HashTree) (M : List Pair) (c : Covers L M) → Over k M → Over k (shown_only L M c)
shown-over k [] M c o = tt
shown-over k (Empty ∷ L) M c o = absurd c
shown-over k (Fork l r ∷ L) M c o = absurd c
shown-over k (Labeled j x ∷ L) M c o = let p = subst (Over k) c.2 o in (p.0, shown-over k L c.1 c.4 p.1)
shown-over k (Leaf v ∷ L) M c o = absurd c
shown-over k (Pruned d ∷ L) M c o = shown-over k L c.1 c.3 (over-right k c.0 c.1 (subst (Over k) c.2 o))

shown-rising : (L : List HashTree) (M : List Pair) (c : Covers L M) → Rising M → Rising (shown_only L M c)
shown-rising [] M c r = tt
shown-rising (Empty ∷ L) M c r = absurd c
shown-rising (Fork l r ∷ L) M c q = absurd c
shown-rising (Labeled j x ∷ L) M c r = let p = subst Rising c.2 r in (shown-over j L c.1 c.4 p.0, shown-rising L c.1 c.4 p.1)
shown-rising (Leaf v ∷ L) M c r = absurd c
shown-rising (Pruned d ∷ L) M c r = shown-rising L c.1 c.3 (rising-right c.0 c.1 (subst Rising c.2 r))

-- a key that is not the first one's is found in the rest
find-rest : (k : Key) (p : Pair) (M : List Pair) → (k ≡ p.key → ⊥) → find k (p ∷ M) ≡ find k M
unfolding find
find-rest k p M n = go (cmp k p.key) refl
  where
    go : (o : Ordering) → cmp k p.key ≡ o → pick o (find k M) (some p.value) (find k M) ≡ find k M
    go Less q = refl
    go Equal q = absurd (n (cmp-eq k p.key q))
    go Greater q = refl

not_first : (k j : Key) (x : HashTree) (L : List HashTree) → None k (Labeled j x ∷ L) → k ≡ j → ⊥
not_first k j x L n e = n x (record { before = []; after = L; stands = ap {B = List HashTree} (λ (z : Key). Labeled z x ∷ L) (sym e) })

find-nothing : (k : Key) → find {Val = Value} k [] ≡ none
unfolding find
find-nothing k = refl

shown-lacks : (k : Key) (L : List HashTree) (M : List Pair) (c : Covers L M) → None k L → find k (shown_only L M c) ≡ none
shown-lacks k [] M c n = find-nothing k
shown-lacks k (Empty ∷ L) M c n = absurd c
shown-lacks k (Fork l r ∷ L) M c n = absurd c
shown-lacks k (Labeled j x ∷ L) M c n =
    find-rest k (pair_of j c.0) (shown_only L c.1 c.4) (not_first k j x L n) ∙ shown-lacks k L c.1 c.4 (none_rest k (Labeled j x) L n)
shown-lacks k (Leaf v ∷ L) M c n = absurd c
shown-lacks k (Pruned d ∷ L) M c n = shown-lacks k L c.1 c.3 (none_rest k (Pruned d) L n)

-- ---- the key put in where something is hidden

-- N is M with k put in where it belongs
record Put (k : Key) (M N : List Pair) : Type 0 where
  low : List Pair
  high : List Pair
  of : M ≡ low ++ high
  to : N ≡ low ++ (pair_of k [] ∷ high)
  lows : Low k low
  highs : Over k high

-- the list covers the map with k put in; or k is below all of it, and nothing hidden stands first; or it reads as absent past a label
data Where (k : Key) (L : List HashTree) (M : List Pair) : Type 0 where
  inside : (N : List Pair) → Covers L N → Put k M N → Where k L M
  ahead : Over k M → (L ≡ []) ⊎ ((b : Key) × (y : HashTree) × (B : List HashTree) × (L ≡ Labeled b y ∷ B) × Lt k b) → Where k L M
  past : (A B : List HashTree) (a : Key) (x : HashTree) → L ≡ A ++ (Labeled a x ∷ B) → Lt a k
      → (B ≡ []) ⊎ ((b : Key) × (y : HashTree) × (C : List HashTree) × (B ≡ Labeled b y ∷ C) × Lt k b) → Where k L M

-- one label further left, below k
past-label : (k j : Key) (x : HashTree) (L : List HashTree) (v : Value) (N : List Pair)
    → ((O : List Pair) → Covers L O → Covers (Labeled j x ∷ L) (pair_of j v ∷ O)) → Lt j k → Where k L N
    → Where k (Labeled j x ∷ L) (pair_of j v ∷ N)
past-label k j x L v N f h (inside O c p) =
    inside (pair_of j v ∷ O) (f O c)
    (record {
      low = pair_of j v ∷ p.low;
      high = p.high;
      of = ap {B = List Pair} (λ (X : List Pair). pair_of j v ∷ X) p.of;
      to = ap {B = List Pair} (λ (X : List Pair). pair_of j v ∷ X) p.to;
      lows = (h, p.lows);
      highs = p.highs;
    })
past-label k j x L v N f h (ahead o s) = past [] L j x refl h s
past-label k j x L v N f h (past A B a y e l s) = past (Labeled j x ∷ A) B a y (ap {B = List HashTree} (λ (X : List HashTree). Labeled j x ∷ X) e) l s

low-append : (k : Key) (S T : List Pair) → Low k S → Low k T → Low k (S ++ T)
low-append k [] T a b = b
low-append k (p ∷ S) T a b = (a.0, low-append k S T a.1 b)

-- one hidden part further left, whose keys are below k
past-hidden : (k : Key) (d : List ℕ) (L : List HashTree) (S N : List Pair) → Covers L N → Low k S → Where k L N
    → Where k (Pruned d ∷ L) (S ++ N)
past-hidden k d L S N c l (inside O q p) =
    inside (S ++ O) (S, O, refl, q)
    (record {
      low = S ++ p.low;
      high = p.high;
      of = ap (λ (X : List Pair). S ++ X) p.of ∙ sym (append_assoc S p.low p.high);
      to = ap (λ (X : List Pair). S ++ X) p.to ∙ sym (append_assoc S p.low (pair_of k [] ∷ p.high));
      lows = low-append k S p.low l p.lows;
      highs = p.highs;
    })
past-hidden k d L S N c l (ahead o s) =
    inside (S ++ (pair_of k [] ∷ N)) (S ++ (pair_of k [] ∷ []), N, sym (append_assoc S (pair_of k [] ∷ []) N), c)
    (record { low = S; high = N; of = refl; to = refl; lows = l; highs = o })
past-hidden k d L S N c l (past A B a y e h s) = past (Pruned d ∷ A) B a y (ap {B = List HashTree} (λ (X : List HashTree). Pruned d ∷ X) e) h s

-- a stretch in order, cut at k: all of it is below k, or k goes into it
data Cut (k : Key) (S N : List Pair) : Type 0 where
  all : Low k S → Cut k S N
  at : (T U : List Pair) → S ≡ T ++ U → Low k T → Over k (U ++ N) → Cut k S N

cut-more : (k : Key) (p : Pair) (S N : List Pair) → Lt p.key k → Cut k S N → Cut k (p ∷ S) N
cut-more k p S N h (all l) = all (h, l)
cut-more k p S N h (at T U e l o) = at (p ∷ T) U (ap {B = List Pair} (λ (X : List Pair). p ∷ X) e) (h, l) o

some≢none : (M : List Pair) (k : Key) {v : Value} → find k M ≡ some v → find k M ≡ none → ⊥
some≢none M k e f = let z : ◌≡◌ {A = ℕ} 0 1 = cc in omega arith

find-here : (k : Key) (p : Pair) (M : List Pair) → cmp k p.key ≡ Equal → find k (p ∷ M) ≡ some p.value
unfolding find
find-here k p M e = rw e

cut_at : (k : Key) (S N : List Pair) → Rising (S ++ N) → find k (S ++ N) ≡ none → Cut k S N
cut_at k [] N r n = all tt
cut_at k (p ∷ S) N r n = go (cmp k p.key) refl (λ q. cut_at k S N r.1 (sym (find-rest k p (S ++ N) q) ∙ n))
  where
    go : (o : Ordering) → cmp k p.key ≡ o → ((k ≡ p.key → ⊥) → Cut k S N) → Cut k (p ∷ S) N
    go Less q i = at [] (p ∷ S) refl tt (q, over-trans k p.key (S ++ N) q r.0)
    go Equal q i = absurd (some≢none (p ∷ (S ++ N)) k (find-here k p (S ++ N) q) n)
    go Greater q i = cut-more k p S N (gt-lt k p.key q) (i (λ e. gt≢eq q (ap (cmp k) (sym e) ∙ cmp-refl k)))

find_past : (k : Key) (S N : List Pair) → Low k S → find k (S ++ N) ≡ none → find k N ≡ none
find_past k S N l n = sym (find-low k S N l) ∙ n

-- WHERE k GOES in a map in order that has it not, and that the list covers
where-is : (k : Key) (L : List HashTree) (M : List Pair) → Covers L M → Rising M → None k L → find k M ≡ none → Where k L M
where-is k [] M c r n e = ahead (subst (Over k) (sym c) tt) (inl refl)
where-is k (Empty ∷ L) M c r n e = absurd c
where-is k (Fork l r' ∷ L) M c r n e = absurd c
where-is k (Labeled j x ∷ L) M c r n e =
    let v = c.0 in
    let N = c.1 in
    let q = subst Rising c.2 r in
    subst (Where k (Labeled j x ∷ L)) (sym c.2)
    (go (cmp k j) refl v N q.0 (λ O d. (v, O, refl, c.3, d))
    (where-is k L N c.4 q.1 (none_rest k (Labeled j x) L n) (sym (find-rest k (pair_of j v) N (not_first k j x L n)) ∙ (sym (ap (find k) c.2) ∙ e))))
  where
    go : (o : Ordering) → cmp k j ≡ o → (v : Value) (N : List Pair) → Over j N
        → ((O : List Pair) → Covers L O → Covers (Labeled j x ∷ L) (pair_of j v ∷ O))
        → Where k L N → Where k (Labeled j x ∷ L) (pair_of j v ∷ N)
    go Less q v N a f i = ahead (q, over-trans k j N q a) (inr (j, x, L, refl, q))
    go Equal q v N a f i = absurd (not_first k j x L n (cmp-eq k j q))
    go Greater q v N a f i = past-label k j x L v N f (gt-lt k j q) i
where-is k (Leaf v ∷ L) M c r n e = absurd c
where-is k (Pruned d ∷ L) M c r n e =
    let S = c.0 in
    let N = c.1 in
    let q = subst Rising c.2 r in
    let z : find k (S ++ N) ≡ none = sym (ap (find k) c.2) ∙ e in
    subst (Where k (Pruned d ∷ L)) (sym c.2)
    (go S N c.3 (cut_at k S N q z) (λ l. where-is k L N c.3 (rising-right S N q) (none_rest k (Pruned d) L n) (find_past k S N l z)))
  where
    go : (S N : List Pair) → Covers L N → Cut k S N → (Low k S → Where k L N) → Where k (Pruned d ∷ L) (S ++ N)
    go S N g (all l) i = past-hidden k d L S N g l (i l)
    go S N g (at T U y l o) i =
        inside ((T ++ (pair_of k [] ∷ U)) ++ N) (T ++ (pair_of k [] ∷ U), N, refl, g)
        (record {
          low = T;
          high = U ++ N;
          of = ap (λ (X : List Pair). X ++ N) y ∙ append_assoc T U N;
          to = append_assoc T (pair_of k [] ∷ U) N;
          lows = l;
          highs = o;
        })

-- ---- so it is put in, or it reads as absent

over-put : (j k : Key) (S N : List Pair) → Over j (S ++ N) → Lt j k → Over j (S ++ (pair_of k [] ∷ N))
over-put j k [] N a h = (h, a)
over-put j k (p ∷ S) N a h = (a.0, over-put j k S N a.1 h)

rising-put : (k : Key) (S N : List Pair) → Rising (S ++ N) → Low k S → Over k N → Rising (S ++ (pair_of k [] ∷ N))
rising-put k [] N r l o = (o, r)
rising-put k (p ∷ S) N r l o = (over-put p.key k S N r.0 l.0, rising-put k S N r.1 l.1 o)

record Held (k : Key) (L : List HashTree) : Type 0 where
  map : List Pair
  rises : Rising map
  covers : Covers L map
  has : find k map ≡ some []

held-or : (k : Key) (L : List HashTree) (M : List Pair) → Rising M → Where k L M → Held k L ⊎ Absent k L
held-or k L M r (inside N c p) =
    let q = rising-put k p.low p.high (subst Rising p.of r) p.lows p.highs in
    inl (record { map = N; rises = subst Rising (sym p.to) q; covers = c; has = ap (find k) p.to ∙ found_at p.low k [] p.high q })
held-or k L M r (ahead o (inl e)) = inr (nothing e)
held-or k L M r (ahead o (inr s)) = inr (before s.2 s.0 s.1 s.3 s.4)
held-or k L M r (past A B a x e l (inl f)) = inr (after A a x (e ∙ ap (λ (X : List HashTree). A ++ (Labeled a x ∷ X)) f) l)
held-or k L M r (past A B a x e l (inr s)) =
    inr (between A s.2 a s.0 x s.1 (e ∙ ap (λ (X : List HashTree). A ++ (Labeled a x ∷ X)) s.3) l s.4)

pub leaves-open : (k : Key) (L : List HashTree) (M : List Pair) → Covers L M → Rising M → None k L → (Absent k L → ⊥) → Open k L
leaves-open k L M c r n a =
    let O = shown_only L M c in
    let d = shown-covers L M c in
    let q = shown-rising L M c r in
    let z = shown-lacks k L M c n in
    go O d q z (held-or k L O q (where-is k L O d q n z))
  where
    go : (O : List Pair) → Covers L O → Rising O → find k O ≡ none → Held k L ⊎ Absent k L → Open k L
    go O d q z (inl h) =
        record {
          having = h.map;
          lacking = O;
          rises_having = h.rises;
          rises_lacking = q;
          covers_having = h.covers;
          covers_lacking = d;
          has = ([], h.has);
          lacks = z;
        }
    go O d q z (inr b) = absurd (a b)

-- UNKNOWN: of a file that tells the truth of a sound store
pub unknown-open : (s : List ℕ) → Sound s → (u : HashTree) (w : List ℕ) → Truth s u w → (k : Key) → length k ≤ 48
    → (lookup_answer k w).looked ≡ Some looked.Unknown → Open k (flatten u)
unknown-open s h u w t k n e =
    let f = subst (λ (x : List ℕ). (lookup_answer k x).looked ≡ Some looked.Unknown) t.tells.reads.0 e in
    let y : ((x : HashTree) → Found k x (flatten u) → ⊥) × (Absent k (flatten u) → ⊥) =
    subst (Says k _ (flatten u)) f (says-answered k u n t.tells.reads.1 t.honest.well_formed) in
    leaves-open k (flatten u) (map_of s) t.honest.covers (sorted-rising (entries (decode s).tree) (sound-decodes h).lawful.ordered) y.0 y.1
