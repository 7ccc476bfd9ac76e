-- WHAT A WITNESS GIVES AWAY (request Q-10): the view of a map that a witness is made from, and nothing else. It has no slot, no colour, no
-- capacity and no free chain: of the tree's shape it has the links alone.
use Rattle.std.specs.Prelude.{Bool, true, false, cond, ◌&&◌, List}
use Rattle.key_order.specs.Order.{Key}
use Rattle.hash_tree.specs.HashTree.{Digest, HashTree, Empty, Labeled, Leaf, Pruned, leaf_hash}
use Rattle.llrb.specs.Tree.{Entry, Tree, nil, node, entries}
use Rattle.llrb.specs.Tree as llrb
use Rattle.llrb.specs.Digests.{data_digest}
use Rattle.witness_trees.specs.Shown.{What, Hide, Label, Show, three_way_fork}
use Rattle.witness_trees.specs.Rules.{keys_of, within, wanted}

-- of an entry: its key and value; its key and the digest of Leaf(value); its data digest
pub data Seen : Type 0 where
  Value : Key → llrb.Value → Seen
  Neighbor : Key → Digest → Seen
  Other : Digest → Seen

-- of a tree: nothing for a missing child; else the node's stored digest, what it has of the entry, and the two views below
pub data View : Type 0 where
  none : View
  part : Digest → Seen → (left right : View) → View

-- ---- the view of a tree; `digest_at` gives the stored digest of the node on top

unfoldable pub view : (digest_at : Tree → Digest) → (Entry → Seen) → Tree → View
view digest_at g nil = none
view digest_at g (node c e l r) = part (digest_at (node c e l r)) (g e) (view digest_at g l) (view digest_at g r)

-- of an entry in a value range: within first to last its value, of a bound outside it its name, of any other a digest
abbrev pub seen_of : (first last : Key) → List Key → Entry → Seen
seen_of first last ks e =
    cond (within first last e.key) (Value e.key e.value)
    (cond (wanted first last ks e.key) (Neighbor e.key (leaf_hash e.value)) (Other (data_digest e)))

abbrev pub view_of : (digest_at : Tree → Digest) → (first last : Key) → Tree → View
view_of digest_at first last t = view digest_at (seen_of first last (keys_of (entries t))) t

-- the same by any rule of what is shown of an entry
abbrev pub seen_by : What → Entry → Seen
seen_by Hide e = Other (data_digest e)
seen_by Label e = Neighbor e.key (leaf_hash e.value)
seen_by Show e = Value e.key e.value

-- ---- the witness from the view alone

abbrev pub is_other : Seen → Bool
is_other (Value k v) = false
is_other (Neighbor k d) = false
is_other (Other d) = true

-- nothing in it is labelled
abbrev pub unlabelled : View → Bool
unlabelled none = true
unlabelled (part d s l r) = unlabelled l && (is_other s && unlabelled r)

abbrev pub item_of : Seen → HashTree
item_of (Value k v) = Labeled k (Leaf v)
item_of (Neighbor k d) = Labeled k (Pruned d)
item_of (Other d) = Pruned d

-- document 01's paragraph over a view: a missing child is Empty; where nothing is labelled, Pruned to the node's digest; else the three
-- parts are joined
unfoldable pub from_view : View → HashTree
from_view none = Empty
from_view (part d s l r) = cond (unlabelled (part d s l r)) (Pruned d) (three_way_fork (from_view l) (item_of s) (from_view r))
