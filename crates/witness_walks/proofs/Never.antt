-- Request Q-6: on any sorted tree no call joins three Pruned parts, and none meets a key that lies below its low and above its high bound;
-- of a range this asks for found bounds in order, which first not above last gives, and a prefix always. So both arms are left out here.
-- witness_trees/proofs/Never has it of the Rust's own functions: whatever stands in the place of both arms, each call gives the same.
use mathlib.Core.Logic.{inl}
use mathlib.Core.Option.{Option, none, some}
use Prim.Native.Nat.{ℕ}
use Rattle.key_order.specs.Order.{Key}
use Rattle.key_order.proofs.Laws.{cmp-trans, gt-lt}
use Rattle.llrb.specs.Tree.{Tree, node, entries}
use Rattle.llrb.specs.Sorted.{Sorted, Mem}
use Rattle.witness_trees.specs.Witness.{Form, keys_only, values, KeyBound, lower_bound, upper_bound, right_prefix_neighbor}
use Rattle.witness_trees.specs.Rules.{Le, InOrder}
use Rattle.witness_trees.proofs.Bounds.{lower-is, upper_is, past_is}
use Rattle.witness_trees.proofs.Lists.{lt-irr}
use Rattle.witness_trees.proofs.Calls.{Present, low-present, high-present, past-present, bounds-in-order, prefix-in-order}
use Rattle.witness_walks.specs.declared.Walk.{Walk}
use Rattle.witness_walks.specs.declared.Walk.TheVariants.{Full, Above, Below, Between, Lookup}
use Rattle.search.specs.Search.{slot_of}
use Rattle.witness_walks.specs.Bounds.{range_walk}
use Rattle.witness_walks.specs.Walked.{showing}
use Rattle.witness_walks.specs.Met.{Meets, here, on-left, on-right, Outside, Never}
use Rattle.witness_walks.proofs.Reached.{Reached, goes, not_three}
use Rattle.witness_walks.proofs.Walking.{PlacedEnd}

-- ---- what holds where a walk starts holds where it comes to

met-reached : (K : ℕ → Key) (g : Form) {w v : Walk} {t u : Tree} → Reached K w t → Meets K (showing g) w t v u → Reached K v u
met-reached K g h here = h
met-reached K g {w = w} h (on-left {c = c} {e = e} {l = l} {r = r} q m) = met-reached K g (rw q at (goes K g w c e l r h).0) m
met-reached K g {w = w} h (on-right {c = c} {e = e} {l = l} {r = r} q m) = met-reached K g (rw q at (goes K g w c e l r h).1) m

not-outside : (K : ℕ → Key) (w : Walk) (k : Key) (t : Tree) → Reached K w t → Outside K w k → ⊥
not-outside K Full k t h o = o
not-outside K (Above lo) k t h o = o
not-outside K (Below hi) k t h o = o
not-outside K (Between lo hi) k t h o = h.0 (cmp-trans (K (slot_of hi)) k (K (slot_of lo)) (gt-lt k (K (slot_of hi)) o.1) (gt-lt (K (slot_of lo)) k o.0))
not-outside K (Lookup i) k t h o = o

-- NEITHER ARM IS EVER REACHED
pub never : (K : ℕ → Key) (g : Form) (w : Walk) (t : Tree) → Reached K w t → Never K (showing g) w t
never K g w t h v c e l r m =
    let k = met-reached K g h m in
    (not_three K g v c e l r k, not-outside K v e.key (node c e l r) k)

-- ---- of each call; K gives the key of a bound's slot

module _ (K : ℕ → Key) (t : Tree) where
  pub as-hash-tree-never : Never K (showing values) Full t
  as-hash-tree-never = never K values Full t tt

  pub keys-never : Never K (showing keys_only) Full t
  keys-never = never K keys_only Full t tt

  module _ (s : Sorted (entries t)) where
    pub range-reached : (g : Form) (lo hi : Option KeyBound) → PlacedEnd K g lo → PlacedEnd K g hi → Present lo (entries t) → Present hi (entries t) → InOrder lo hi → Reached K (range_walk lo hi) t
    range-reached g none none a b p q o = tt
    range-reached g (some lo) none a b p q o = (s, inl (rw a p))
    range-reached g none (some hi) a b p q o = (s, inl (rw b q))
    range-reached g (some lo) (some hi) a b p q o = (rw (a, b) o, s, inl (rw a p), inl (rw b q))

    -- key_range and value_range, by their form; found bounds in order are enough
    pub range-never : (g : Form) (first last : Key) → PlacedEnd K g (lower_bound first t) → PlacedEnd K g (upper_bound last t) → InOrder (lower_bound first t) (upper_bound last t)
        → Never K (showing g) (range_walk (lower_bound first t) (upper_bound last t)) t
    range-never g first last a b o =
        never K g _ t (range-reached g (lower_bound first t) (upper_bound last t) a b
        (low-present first (entries t) (lower_bound first t) (lower-is first t s)) (high-present last (entries t) (upper_bound last t) (upper_is last t s)) o)

    pub key-range-never : (first last : Key) → PlacedEnd K keys_only (lower_bound first t) → PlacedEnd K keys_only (upper_bound last t) → Le first last
        → Never K (showing keys_only) (range_walk (lower_bound first t) (upper_bound last t)) t
    key-range-never first last a b h = range-never keys_only first last a b (bounds-in-order first last t s h)

    pub value-range-never : (first last : Key) → PlacedEnd K values (lower_bound first t) → PlacedEnd K values (upper_bound last t) → Le first last
        → Never K (showing values) (range_walk (lower_bound first t) (upper_bound last t)) t
    value-range-never first last a b h = range-never values first last a b (bounds-in-order first last t s h)

    pub prefix-never : (p : Key) → PlacedEnd K keys_only (lower_bound p t) → PlacedEnd K keys_only (right_prefix_neighbor p t)
        → Never K (showing keys_only) (range_walk (lower_bound p t) (right_prefix_neighbor p t)) t
    prefix-never p a b =
        never K keys_only _ t (range-reached keys_only (lower_bound p t) (right_prefix_neighbor p t) a b
        (low-present p (entries t) (lower_bound p t) (lower-is p t s)) (past-present p (entries t) (right_prefix_neighbor p t) (past_is p t s)) (prefix-in-order p t s))

    -- witness of a present key, and of an absent one
    pub witness-never : (i : ℕ) → Mem (K i) (entries t) → Never K (showing values) (Lookup i) t
    witness-never i m = never K values (Lookup i) t (s, m)

    pub absent-never : (k : Key) → PlacedEnd K keys_only (lower_bound k t) → PlacedEnd K keys_only (upper_bound k t) → Never K (showing keys_only) (range_walk (lower_bound k t) (upper_bound k t)) t
    absent-never k a b = key-range-never k k a b (lt-irr k)
