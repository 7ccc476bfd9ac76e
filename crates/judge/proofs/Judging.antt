-- The judgement as a whole: each step holds of a sound store, and together they make a store sound.
use mathlib.Core.Path.{◌≡◌, refl, sym, ap, subst, ◌∙◌}
use mathlib.Core.Bool.{Bool, true}
use mathlib.Core.List.{List, [], ◌∷◌, ◌++◌}
use Prim.Native.Nat.{ℕ, ◌+◌, ◌-◌, ◌≤◌}
use native.Mathlib.Omega.{arith}
use lib.ListN.{length}
use Rattle.slots.specs.declared.Header.{Header}
use Rattle.slots.specs.Layout.{header, Slot, Decides}
use Rattle.slots.proofs.Lenses.{slot-fits}
use Rattle.llrb.specs.Tree.{Entry, Tree, nil, node, entries, size}
use Rattle.llrb.proofs.Height.{height-20}
use Rattle.store.specs.Counts.{occurs}
use Rattle.store.specs.Counting.{is-self}
use Rattle.store.specs.Model.{Model, slots_of, root}
use Rattle.store.specs.Sound.{Nodes, Marks, Short, SoundIn}
use Rattle.store.proofs.Trees.{slots-node}
use Rattle.store.proofs.Decoding.{live-and-free}
use Rattle.store.proofs.Operating.{tree-lawful}
use Rattle.store.proofs.Seats.{tree-within, chain-within}
use Rattle.judge.specs.Rising.{none}
use Rattle.judge.specs.Steps.{Sized, HeaderOk, Within, Inside, Good, Seen, Fits, HasChain}
use Rattle.runs.proofs.Testing.{decides-via}
use Rattle.judge.proofs.Order.{rising-sorted, sorted-rising}
use Rattle.judge.proofs.Unique.{tree-same}
use Rattle.judge.proofs.Once.{covered}
use Rattle.judge.proofs.Testing.{has-slot, padded-most}

-- ---- of a sound store

within_of : (cap : ℕ) (t : Tree) → ((x : ℕ) → 1 ≤ occurs x (slots_of t) → (1 ≤ x) × (x ≤ cap)) → Within cap t
within_of cap nil h = tt
within_of cap (node c e l r) h = (
  h e.slot (omega (arith, slots-node e.slot c e l r, is-self e.slot)),
  within_of cap l (λ x p. h x (omega (arith, slots-node x c e l r))),
  within_of cap r (λ x p. h x (omega (arith, slots-node x c e l r))),
)

inside_of : (cap : ℕ) (f : List ℕ) → ((x : ℕ) → 1 ≤ occurs x f → (1 ≤ x) × (x ≤ cap)) → Inside cap f
inside_of cap [] h = tt
inside_of cap (y ∷ f) h = (h y (omega (arith, is-self y)), inside_of cap f (λ x p. h x (omega arith)))

module _ {d : ℕ} (s : List ℕ) (h : SoundIn d s) where
  abbrev m : Model
  m = h.0

  cap-is : (header s).capacity ≡ m.capacity
  cap-is = ap (λ (z : Header). z.capacity) h.1.laid.header

  edition-is : (header s).edition ≡ d
  edition-is = ap (λ (z : Header). z.edition) h.1.laid.header

  live-is : (header s).live ≡ size m.tree
  live-is = ap (λ (z : Header). z.live) h.1.laid.header

  sum : (header s).live + length m.free ≡ (header s).capacity
  sum = omega (arith, cap-is, live-is, live-and-free h.1.lawful)

  pub long_of : 8 ≤ length s
  long_of = omega (arith, h.1.laid.len)

  pub header_of : HeaderOk d (length s) (header s)
  header_of =
      record {
        edition = edition-is;
        zero = ap (λ (z : Header). z.zero) h.1.laid.header;
        least = omega (arith, cap-is, h.1.lawful.least);
        sized = record { most = omega (arith, cap-is, h.1.lawful.most); len = omega (arith, cap-is, h.1.laid.len) };
        live = omega (arith, sum);
      }

  pub good_of : Good s (header s).capacity m.tree
  good_of =
      record {
        within = within_of (header s).capacity m.tree (λ x p. subst (λ (c : ℕ). (1 ≤ x) × (x ≤ c)) (sym cap-is) (tree-within h.1.lawful x p));
        nodes = h.1.laid.nodes;
        marks = subst (λ (e : ℕ). Marks e s m.tree) (sym edition-is) h.1.laid.marks;
        reds_apart = h.1.lawful.reds_apart;
        leans_left = h.1.lawful.leans_left;
      }

  root_is : root m.tree ≡ (header s).root
  root_is = sym (ap (λ (z : Header). z.root) h.1.laid.header)

  pub fits-of : Fits s (header s).capacity 20 (header s).root 0 (header s).live true m.tree
  fits-of =
      record {
        top = root_is;
        good = good_of;
        colour = λ x. h.1.lawful.root_black;
        rising = sorted-rising (entries m.tree) h.1.lawful.ordered;
        few = omega (arith, live-is);
        deep = height-20 (tree-lawful h.1.lawful) (omega (arith, live-and-free h.1.lawful, h.1.lawful.most));
        same_blacks = h.1.lawful.same_blacks;
      }

  pub none-left-of : {q n b : ℕ} → (t : Tree) × Seen s (header s).capacity 20 (header s).root 0 (header s).live true t q n b → n ≡ 0
  none-left-of x =
      let e : x.0 ≡ m.tree = tree-same s (header s).capacity x.0 m.tree x.1.good.within good_of.within x.1.good.nodes good_of.nodes (x.1.top ∙ sym root_is) in
      omega (arith, x.1.sum, ap size e, live-is)

  pub chain-of : HasChain s (header s).capacity (header s).free ((header s).capacity - (header s).live)
  chain-of =
      record {
        free = m.free;
        top = sym (ap (λ (z : Header). z.free) h.1.laid.header);
        inside = inside_of (header s).capacity m.free (λ x p. subst (λ (c : ℕ). (1 ≤ x) × (x ≤ c)) (sym cap-is) (chain-within h.1.lawful x p));
        chain = h.1.laid.chain;
        long = omega (arith, sum);
      }

-- ---- and back

short-join : (L : List Entry) (e : Entry) (R : List Entry) → Short L → length e.key ≤ 48 → length e.value ≤ 64 → Short R → Short (L ++ (e ∷ R))
short-join [] e R p k v r = (k, v, r)
short-join (x ∷ L) e R p k v r = (p.0, p.1, short-join L e R p.2 k v r)

short-of : (s : List ℕ) (cap : ℕ) (t : Tree) → Sized (length s) cap → Within cap t → Nodes s t → Short (entries t)
short-of s cap nil r w a = tt
short-of s cap (node c e l r) z w a =
    let f = slot-fits s e.slot (has-slot z w.0.0 w.0.1) in
    short-join (entries l) e (entries r) (short-of s cap l z w.1 a.1)
    (padded-most 48 e.key (ap length (sym (ap (λ (y : Slot). y.key_room) a.0)) ∙ f.key_room))
    (padded-most 64 e.value (ap length (sym (ap (λ (y : Slot). y.value_room) a.0)) ∙ f.value_room))
    (short-of s cap r z w.2 a.2)

pub sound-of : {d : ℕ} (s : List ℕ) → HeaderOk d (length s) (header s) → {q n b : ℕ} → (t : Tree) × Seen s (header s).capacity 20 (header s).root 0 (header s).live true t q n b
    → n ≡ 0 → HasChain s (header s).capacity (header s).free ((header s).capacity - (header s).live) → SoundIn d s
sound-of s o {q} {n} {b} x z k =
    let t = x.0 in
    let g = x.1.good in
    let c : ℕ = (header s).capacity in
    let e : size t ≡ (header s).live = omega (arith, x.1.sum) in
    let p = rising-sorted none (entries t) x.1.rising in
    let ex = x.1.top in
    let ek = k.top in (
      record { capacity = c; tree = t; free = k.free },
      record {
        laid =
            record {
              len = o.sized.len;
              header = λ i. record { edition = o.edition i; capacity = c; live = sym e i; root = sym ex i; free = sym ek i; zero = o.zero i };
              nodes = g.nodes;
              marks = subst (λ (e : ℕ). Marks e s t) o.edition g.marks;
              chain = k.chain;
            };
        lawful =
            record {
              least = o.least;
              most = o.sized.most;
              short = short-of s c t o.sized g.within g.nodes;
              ordered = p;
              root_black = x.1.colour refl;
              reds_apart = g.reds_apart;
              leans_left = g.leans_left;
              same_blacks = (b, x.1.blacks);
              once = covered s c t k.free g.within k.inside g.nodes k.chain p (omega (arith, e, k.long, o.live));
            };
      },
    )

-- ---- in the words of the code, h the header that it read

module _ (s : List ℕ) {h : Header} (e : h ≡ header s) where
  pub header-says : {d : ℕ} → SoundIn d s → HeaderOk d (length s) h
  header-says {d} x = subst (HeaderOk d (length s)) (sym e) (header_of s x)

  pub walk_none : {d : ℕ} → ((t : Tree) → Fits s h.capacity 20 h.root 0 h.live true t → ⊥) → SoundIn d s → ⊥
  walk_none k x = subst (λ (z : Header). (t : Tree) → Fits s z.capacity 20 z.root 0 z.live true t → ⊥) e k x.0.tree (fits-of s x)

  module _ {q n b : ℕ} (x : (t : Tree) × Seen s h.capacity 20 h.root 0 h.live true t q n b) where
    seen : (t : Tree) × Seen s (header s).capacity 20 (header s).root 0 (header s).live true t q n b
    seen = subst (λ (z : Header). (t : Tree) × Seen s z.capacity 20 z.root 0 z.live true t q n b) e x

    pub left_over : {d : ℕ} → (n ≡ 0 → ⊥) → SoundIn d s → ⊥
    left_over k y = k (none-left-of s y seen)

    pub chain-says : {d : ℕ} → HeaderOk d (length s) h → n ≡ 0 → (o : Bool) → Decides o (HasChain s h.capacity h.free (h.capacity - h.live)) → Decides o (SoundIn d s)
    chain-says {d} g k o says =
        decides-via o (λ c. sound-of s (subst (HeaderOk d (length s)) e g) seen k c) (λ y. chain-of s y)
        (subst (λ (z : Header). Decides o (HasChain s z.capacity z.free (z.capacity - z.live))) e says)
