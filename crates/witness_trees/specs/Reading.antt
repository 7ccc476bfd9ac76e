-- What a reader finds in a hash tree.
use Rattle.std.specs.Prelude.{Bool, true, false, List, [], ◌∷◌, ◌++◌}
use Rattle.std.proofs.Math.Option.{Option, none, some}
use Rattle.key_order.specs.Order.{Key}
use Rattle.hash_tree.specs.HashTree.{HashTree, Empty, Fork, Labeled, Leaf, Pruned}
-- records on the longest way down, the outermost counted
pub use Rattle.hash_tree.specs.Written.{depth}
use Rattle.llrb.specs.Tree.{Value}

abbrev pub is_empty : HashTree → Bool
is_empty Empty = true
is_empty (Fork l r) = false
is_empty (Labeled k t) = false
is_empty (Leaf v) = false
is_empty (Pruned d) = false

abbrev pub is_pruned : HashTree → Bool
is_pruned Empty = false
is_pruned (Fork l r) = false
is_pruned (Labeled k t) = false
is_pruned (Leaf v) = false
is_pruned (Pruned d) = true

-- what stands right under a label
abbrev pub under : HashTree → Option Value
under Empty = none
under (Fork l r) = none
under (Labeled k t) = none
under (Leaf v) = some v
under (Pruned d) = none

abbrev pub or_nothing : Option Value → List Value
or_nothing none = []
or_nothing (some v) = v ∷ []

-- the labels at the level of a map, in order: what lies below a label is not read
abbrev pub labels : HashTree → List Key
labels Empty = []
labels (Fork l r) = labels l ++ labels r
labels (Labeled k t) = k ∷ []
labels (Leaf v) = []
labels (Pruned d) = []

-- the values at the level of a map, in order: those right under a label
abbrev pub leaves : HashTree → List Value
leaves Empty = []
leaves (Fork l r) = leaves l ++ leaves r
leaves (Labeled k t) = or_nothing (under t)
leaves (Leaf v) = v ∷ []
leaves (Pruned d) = []

-- a label, and the value under it if that is shown
pub record Told : Type 0 where
  pub key : Key
  pub value : Option Value

abbrev pub says : HashTree → List Told
says Empty = []
says (Fork l r) = says l ++ says r
says (Labeled k t) = record { key = k; value = under t } ∷ []
says (Leaf v) = []
says (Pruned d) = []
