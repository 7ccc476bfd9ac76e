-- What a walk makes of a tree: the hash tree, arm by arm as the Rust joins it; and the bytes that the writer puts for it, parent first.
-- proofs/Writing shows that the bytes are the written form of the hash tree.
use Rattle.std.specs.Prelude.{Bool, true, false, List, [], ◌++◌, ℕ}
use Rattle.key_order.specs.Order.{Key}
use Rattle.hash_tree.specs.HashTree.{HashTree, Empty, fork_hash}
use Rattle.hash_tree.specs.Written.{piece, write}
use Rattle.llrb.specs.Tree.{Entry as TheEntry, Tree, nil, node}
use Rattle.llrb.specs.Digests.{is_nil, data_digest, subtree_digest}
use Rattle.witness_trees.specs.Shown.{three_way_fork, item}
use Rattle.witness_trees.specs.Shown as shown
use Rattle.witness_trees.specs.Witness.{Form, keys_only, values, pruned_tree}
use Rattle.witness_walks.specs.declared.Walk.{Walk}
use Rattle.witness_walks.specs.declared.What.{What}
use Rattle.witness_walks.specs.declared.What.TheVariants.{Hide, Label, Show}
use Rattle.witness_walks.specs.declared.Part.{Part}
use Rattle.witness_walks.specs.declared.Part.TheVariants.{Nothing, Hidden, Walked}
use Rattle.witness_walks.specs.declared.Arm.{Arm}
use Rattle.witness_walks.specs.declared.Middle.{Middle}
use Rattle.witness_walks.specs.declared.Middle.TheVariants.{Entry, Both}
use Rattle.witness_walks.specs.declared.Records.{Records}
use Rattle.witness_walks.specs.Arms.{arms_at}
use Rattle.witness_walks.specs.Records.{records_at}

-- ---- the hash tree

abbrev pub what_of : What → shown.What
what_of Hide = shown.Hide
what_of Label = shown.Label
what_of Show = shown.Show

-- `witness_tree` or `data_tree`, in place of the closure
abbrev pub showing : Form → What
showing keys_only = Label
showing values = Show

-- the arm's join, given what becomes of each part on the left and on the right of the entry e
abbrev pub joined : Arm → (left right : Part → HashTree) → TheEntry → HashTree
joined a left right e = three_way_fork (left a.left) (item (what_of a.middle) e) (right a.right)

-- by what becomes of a part
abbrev pub on_part : {X : Type 0} → Part → X → X → (Walk → X) → X
on_part Nothing a b g = a
on_part Hidden a b g = b
on_part (Walked w) a b g = g w

unfoldable pub part_tree : (K : ℕ → Key) → What → Tree → Part → HashTree
part_tree K f nil p = Empty
part_tree K f (node c e l r) p =
    on_part p Empty (pruned_tree (node c e l r))
    (λ w. joined (arms_at K w f e.key) (part_tree K f l) (part_tree K f r) e)

-- ---- the bytes

abbrev pub fork_bytes : Bool → List ℕ
fork_bytes true = piece 1 []
fork_bytes false = []

-- with the right side r
abbrev pub middle_bytes : Middle → TheEntry → (r : Tree) → List ℕ
middle_bytes (Entry m) e r = write (item (what_of m) e)
middle_bytes Both e r = piece 4 (fork_hash (data_digest e) (subtree_digest r))

abbrev pub in_order : Records → (left right : Part → List ℕ) → TheEntry → (r : Tree) → List ℕ
in_order x left right e r = fork_bytes x.outer ++ (left x.left ++ (fork_bytes x.inner ++ (middle_bytes x.middle e r ++ right x.right)))

unfoldable pub part_bytes : (K : ℕ → Key) → What → Tree → Part → List ℕ
part_bytes K f nil p = on_part p [] (write Empty) (λ w. write Empty)
part_bytes K f (node c e l r) p =
    on_part p [] (write (pruned_tree (node c e l r)))
    (λ w. in_order (records_at (arms_at K w f e.key) (is_nil l) (is_nil r)) (part_bytes K f l) (part_bytes K f r) e r)
