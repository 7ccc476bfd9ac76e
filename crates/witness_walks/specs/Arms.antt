-- What each walk of the Rust does at a node, by how the node's key stands to the bounds' keys: what becomes of its left side, of its
-- entry and of its right side. A bound is named by its slot; `K` gives the key of a slot.
use Rattle.std.specs.Prelude.{ℕ}
use Rattle.std.specs.declared.cmp.Ordering.{Ordering}
use Rattle.key_order.specs.Order.{Key, cmp, pick}
use Rattle.search.specs.Search.{slot_of}
use Rattle.search.specs.declared.KeyBound.{KeyBound}
use Rattle.search.specs.declared.KeyBound.TheVariants.{Exact, Neighbor}
use Rattle.witness_walks.specs.declared.Walk.{Walk}
use Rattle.witness_walks.specs.declared.Walk.TheVariants.{Full, Above, Below, Between, Lookup}
use Rattle.witness_walks.specs.declared.What.{What}
use Rattle.witness_walks.specs.declared.What.TheVariants.{Hide, Label, Show}
use Rattle.witness_walks.specs.declared.Part.{Part}
use Rattle.witness_walks.specs.declared.Part.TheVariants.{Hidden, Walked}
use Rattle.witness_walks.specs.declared.Arm.{Arm}

-- a bound's own entry: a Neighbor always with a Pruned value
abbrev pub seen_at : KeyBound → What → What
seen_at (Exact i) f = f
seen_at (Neighbor i) f = Label

-- an entry that is both bounds
abbrev pub both_seen : KeyBound → KeyBound → What → What
both_seen (Exact i) hi f = f
both_seen (Neighbor i) hi f = seen_at hi f

-- the three parts that are joined
abbrev pub parts : Part → What → Part → Arm
parts l m r = record { left = l; middle = m; right = r }

abbrev pub full_arms : What → Arm
full_arms f = parts (Walked Full) f (Walked Full)

-- by how the key stands to the low bound
abbrev pub above_arms : KeyBound → What → Ordering → Arm
above_arms lo f o =
    pick o
    (parts Hidden Hide (Walked (Above lo)))
    (parts Hidden (seen_at lo f) (Walked Full))
    (parts (Walked (Above lo)) f (Walked Full))

-- by how the key stands to the high bound
abbrev pub below_arms : KeyBound → What → Ordering → Arm
below_arms hi f o =
    pick o
    (parts (Walked Full) f (Walked (Below hi)))
    (parts (Walked Full) (seen_at hi f) Hidden)
    (parts (Walked (Below hi)) Hide Hidden)

-- by how the low bound stands to the key, and the key to the high bound; a key below the low bound is below the high one too
abbrev pub between_arms : KeyBound → KeyBound → What → Ordering → Ordering → Arm
between_arms lo hi f o p =
    pick o
    (pick p
    (parts (Walked (Between lo hi)) f (Walked (Between lo hi)))
    (parts (Walked (Between lo hi)) (seen_at hi f) Hidden)
    (parts (Walked (Between lo hi)) Hide Hidden))
    (pick p
    (parts Hidden (seen_at lo f) (Walked (Between lo hi)))
    (parts Hidden (both_seen lo hi f) Hidden)
    (parts Hidden (seen_at lo f) (Walked (Between lo hi))))
    (parts Hidden Hide (Walked (Between lo hi)))

-- by how the key looked up, that of slot i, stands to the key
abbrev pub lookup_arms : ℕ → Ordering → Arm
lookup_arms i o =
    pick o
    (parts (Walked (Lookup i)) Hide Hidden)
    (parts Hidden Show Hidden)
    (parts Hidden Hide (Walked (Lookup i)))

-- at a node with the key k
abbrev pub arms_at : (K : ℕ → Key) → Walk → What → Key → Arm
arms_at K Full f k = full_arms f
arms_at K (Above lo) f k = above_arms lo f (cmp k (K (slot_of lo)))
arms_at K (Below hi) f k = below_arms hi f (cmp k (K (slot_of hi)))
arms_at K (Between lo hi) f k = between_arms lo hi f (cmp (K (slot_of lo)) k) (cmp k (K (slot_of hi)))
arms_at K (Lookup i) f k = lookup_arms i (cmp (K i) k)
