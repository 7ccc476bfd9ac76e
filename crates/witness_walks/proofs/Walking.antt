-- Each walk, arm by arm, is the Rust's: its arms at a node are those of the pure function, on every tree and for bounds in order.
use mathlib.Core.Path.{◌≡◌, refl}
use mathlib.Core.Option.{Option, none, some}
use Prim.Native.Nat.{ℕ}
use Rattle.std.specs.declared.cmp.Ordering.{Ordering}
use Rattle.std.specs.declared.cmp.Ordering.TheVariants.{Less, Equal, Greater}
use Rattle.key_order.specs.Order.{Key, cmp, pick}
use Rattle.key_order.proofs.Laws.{gt-lt}
use Rattle.hash_tree.specs.HashTree.{HashTree}
use Rattle.llrb.specs.Tree.{Tree, nil, node, entries}
use Rattle.llrb.specs.Sorted.{Sorted, Mem}
use Rattle.llrb.proofs.Lists.{mem-left, mem-right}
use Rattle.witness_trees.specs.Shown.{three_way_fork}
use Rattle.witness_trees.specs.Witness.{Form, keys_only, values, seen, KeyBound, Exact, Neighbor, at, pruned_tree, ends, both, last_arm, full_witness_tree, witness_range_above, witness_range_below, witness_range_between, range_witness, lookup_and_build_witness}
use Rattle.witness_trees.specs.Rules.{Le, InOrder}
use Rattle.witness_trees.proofs.Lists.{lt-le, sorted-l, sorted-r}
use Rattle.witness_walks.specs.declared.What.{What}
use Rattle.witness_walks.specs.declared.Part.{Part}
use Rattle.witness_walks.specs.declared.Arm.{Arm}
use Rattle.witness_walks.specs.declared.Part.TheVariants.{Hidden, Walked}
use Rattle.witness_walks.specs.declared.Walk.TheVariants.{Full, Above, Below, Between, Lookup}
use Rattle.witness_walks.specs.Arms.{seen_at, both_seen}
use Rattle.search.specs.Search.{slot_of}
use Rattle.search.specs.Search.{key_bound_slot}
use Rattle.witness_walks.specs.Bounds.{range_walk}
use Rattle.witness_walks.specs.Walked.{what_of, showing, joined, part_tree}

what-seen : (w : Form) → what_of (showing w) ≡ seen w
what-seen keys_only = refl
what-seen values = refl

what-ends : (b : KeyBound) (w : Form) → what_of (seen_at (key_bound_slot b) (showing w)) ≡ ends b w
what-ends (Exact e) w = what-seen w
what-ends (Neighbor e) w = refl

what-both : (a b : KeyBound) (w : Form) → what_of (both_seen (key_bound_slot a) (key_bound_slot b) (showing w)) ≡ both a b w
what-both (Exact a) b w = what-seen w
what-both (Neighbor a) (Exact b) w = what-seen w
what-both (Neighbor a) (Neighbor b) w = refl

hidden-tree : (K : ℕ → Key) (f : What) (t : Tree) → part_tree K f t Hidden ≡ pruned_tree t
unfolding part_tree
hidden-tree K f nil = refl
hidden-tree K f (node c e l r) = refl

-- two choices of three by one answer, arm by arm
both-arms : {X Y : Type 0} (R : X → Y → Type 0) (o : Ordering) {a b c : X} {x y z : Y}
    → (o ≡ Less → R a x) → (o ≡ Equal → R b y) → (o ≡ Greater → R c z) → R (pick o a b c) (pick o x y z)
both-arms R Less p q s = p refl
both-arms R Equal p q s = q refl
both-arms R Greater p q s = s refl

-- the key that stands in a bound's slot is the bound's
abbrev pub Placed : (K : ℕ → Key) → KeyBound → Type 0
Placed K b = K (slot_of (key_bound_slot b)) ≡ at b

module _ (K : ℕ → Key) (w : Form) where
  abbrev made : Tree → Part → HashTree
  made = part_tree K (showing w)

  pub walk-full : (t : Tree) → made t (Walked Full) ≡ full_witness_tree three_way_fork last_arm w t
  unfolding part_tree full_witness_tree
  walk-full nil = refl
  walk-full (node c e l r) = rw (walk-full l, walk-full r, what-seen w)

  pub walk-above : (lo : KeyBound) → Placed K lo → (t : Tree) → made t (Walked (Above (key_bound_slot lo))) ≡ witness_range_above three_way_fork last_arm lo w t
  unfolding part_tree witness_range_above
  walk-above lo h nil = refl
  walk-above lo h (node c e l r) =
      let il = walk-above lo h l in
      let ir = walk-above lo h r in
      let hl = hidden-tree K (showing w) l in
      rw h
      (both-arms (λ a u. joined a (made l) (made r) e ≡ u) (cmp e.key (at lo))
      (λ q. rw (hl, ir))
      (λ q. rw (hl, what-ends lo w, walk-full r))
      (λ q. rw (il, what-seen w, walk-full r)))

  pub walk-below : (hi : KeyBound) → Placed K hi → (t : Tree) → made t (Walked (Below (key_bound_slot hi))) ≡ witness_range_below three_way_fork last_arm hi w t
  unfolding part_tree witness_range_below
  walk-below hi h nil = refl
  walk-below hi h (node c e l r) =
      let il = walk-below hi h l in
      let ir = walk-below hi h r in
      let hr = hidden-tree K (showing w) r in
      rw h
      (both-arms (λ a u. joined a (made l) (made r) e ≡ u) (cmp e.key (at hi))
      (λ q. rw (walk-full l, what-seen w, ir))
      (λ q. rw (walk-full l, what-ends hi w, hr))
      (λ q. rw (il, hr)))

  -- the low bound is not above the high one: of the Rust's nine pairs the last three are then one
  pub walk-between : (lo hi : KeyBound) → Placed K lo → Placed K hi → Le (at lo) (at hi) → (t : Tree) → made t (Walked (Between (key_bound_slot lo) (key_bound_slot hi))) ≡ witness_range_between three_way_fork last_arm lo hi w t
  unfolding part_tree witness_range_between
  walk-between lo hi h k ord nil = refl
  walk-between lo hi h k ord (node c e l r) =
      let il = walk-between lo hi h k ord l in
      let ir = walk-between lo hi h k ord r in
      let hl = hidden-tree K (showing w) l in
      let hr = hidden-tree K (showing w) r in
      let R : Arm → HashTree → Type 0 = λ a u. joined a (made l) (made r) e ≡ u in
      rw (h, k)
      (both-arms R (cmp (at lo) e.key)
      (λ p. both-arms R (cmp e.key (at hi)) (λ q. rw (il, what-seen w, ir)) (λ q. rw (il, what-ends hi w, hr)) (λ q. rw (il, hr)))
      (λ p. both-arms R (cmp e.key (at hi)) (λ q. rw (hl, what-ends lo w, ir)) (λ q. rw (hl, what-both lo hi w, hr)) (λ q. rw (hl, what-ends lo w, ir)))
      (λ p. rw (lt-le e.key (at lo) (at hi) (gt-lt (at lo) e.key p) ord, hl, ir)))

  abbrev pub PlacedEnd : Option KeyBound → Type 0
  PlacedEnd none = Unit {0}
  PlacedEnd (some b) = Placed K b

  -- `range_witness`
  pub walk-range : (lo hi : Option KeyBound) → PlacedEnd lo → PlacedEnd hi → InOrder lo hi → (t : Tree) → made t (Walked (range_walk lo hi)) ≡ range_witness three_way_fork last_arm lo hi w t
  unfolding range_witness
  walk-range none none p q o t = walk-full t
  walk-range (some lo) none p q o t = walk-above lo p t
  walk-range none (some hi) p q o t = walk-below hi q t
  walk-range (some lo) (some hi) p q o t = walk-between lo hi p q o t

-- `lookup_and_build_witness` of a present key
pub walk-lookup : (K : ℕ → Key) (f : What) (i : ℕ) (t : Tree) → Sorted (entries t) → Mem (K i) (entries t)
    → lookup_and_build_witness three_way_fork last_arm (K i) t ≡ some (part_tree K f t (Walked (Lookup i)))
unfolding part_tree lookup_and_build_witness
walk-lookup K f i nil s h = absurd h
walk-lookup K f i (node c e l r) s h =
    let L = entries l in
    let R = entries r in
    let il = walk-lookup K f i l (sorted-l L e R s) in
    let ir = walk-lookup K f i r (sorted-r L e R s) in
    both-arms (λ (u : Option HashTree) a. u ≡ some (joined a (part_tree K f l) (part_tree K f r) e)) (cmp (K i) e.key)
    (λ q. rw (il (mem-left (K i) L e R s q h), hidden-tree K f r))
    (λ q. rw (hidden-tree K f l, hidden-tree K f r))
    (λ q. rw (ir (mem-right (K i) L e R s q h), hidden-tree K f l))
