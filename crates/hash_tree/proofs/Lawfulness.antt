-- Parts of a lawful tree are lawful, and parts of a list of bytes are bytes.
use Prim.Native.Nat.{ℕ, suc, ◌+◌, ◌≤◌, max}
use mathlib.Core.List.{List, ◌++◌}
use native.Mathlib.Omega.{arith}
use native.Mathlib.Nat.{le-max_left, le-max_right, max-le}
use lib.ListN.{length, drop}
use lib.Seq.{get_or-drop, get_or-append-add}
use lib.Dec.{lit≤}
use Rattle.hash_tree.specs.HashTree.{HashTree, Empty, Fork, Labeled, Leaf, Pruned}
use Rattle.hash_tree.specs.Written.{depth, Lawful, max_label}
use Rattle.hash_tree.specs.Parse.{Bytes}

-- the depth of a part
pub depth_pos : (t : HashTree) → 1 ≤ depth t
depth_pos Empty = lit≤ tt
depth_pos (Fork l r) = omega arith
depth_pos (Labeled b t) = omega arith
depth_pos (Leaf b) = lit≤ tt
depth_pos (Pruned b) = lit≤ tt

module _ (d : ℕ) (l r : HashTree) where
  pub lawful-left : Lawful (suc d) (Fork l r) → Lawful d l
  lawful-left h = (h.0.0, omega (arith, h.1, le-max_left (depth l) (depth r)))

  pub lawful-right : Lawful (suc d) (Fork l r) → Lawful d r
  lawful-right h = (h.0.1, omega (arith, h.1, le-max_right (depth l) (depth r)))

  pub lawful-fork : Lawful d l → Lawful d r → Lawful (suc d) (Fork l r)
  lawful-fork h g = let m : max (depth l) (depth r) ≤ d = max-le h.1 g.1 in ((h.0, g.0), omega (arith, m))

module _ (d : ℕ) (b : List ℕ) (t : HashTree) where
  pub lawful-below : Lawful (suc d) (Labeled b t) → Lawful d t
  lawful-below h = (h.0.1, omega (arith, h.1))

  pub lawful-labeled : length b ≤ max_label → Lawful d t → Lawful (suc d) (Labeled b t)
  lawful-labeled n h = ((n, h.0), omega (arith, h.1))

pub bytes_rest : (a b : List ℕ) → Bytes (a ++ b) → Bytes b
bytes_rest a b h i = rw get_or-append-add at (h (length a + i))

pub bytes_drop : (n : ℕ) (xs : List ℕ) → Bytes xs → Bytes (drop n xs)
bytes_drop n xs h i = rw get_or-drop (h (n + i))
