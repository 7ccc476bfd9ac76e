-- Document 01, "Witness trees", first paragraph: how three parts join, and the witness that shows what a rule says, entry by entry.
use Rattle.std.specs.Prelude.{Bool, true, false, cond, ◌&&◌, List, [], ◌∷◌, ◌++◌}
use Rattle.hash_tree.specs.HashTree.{Digest, HashTree, Empty, Fork, Labeled, Leaf, Pruned, fork_hash, leaf_hash, digest}
use Rattle.llrb.specs.Tree.{Entry, Tree, nil, node, entries}
use Rattle.llrb.specs.Digests.{data_digest, subtree_digest, is_nil}
use Rattle.witness_trees.specs.Reading.{is_empty, is_pruned}

-- ---- three parts join: the first rule that fits

abbrev pub three : HashTree → HashTree → HashTree → Bool
three l m r = is_pruned l && (is_pruned m && is_pruned r)

-- `three_way_fork`; the digest of a Pruned is what it holds
unfoldable pub three_way_fork : HashTree → HashTree → HashTree → HashTree
three_way_fork l m r =
    cond (is_empty l && is_empty r) m
    (cond (is_empty r) (Fork l m)
    (cond (is_empty l) (Fork m r)
    (cond (three l m r) (Pruned (fork_hash (digest l) (fork_hash (digest m) (digest r))))
    (cond (is_pruned m && is_pruned r) (Fork l (Pruned (fork_hash (digest m) (digest r))))
    (Fork l (Fork m r))))))

-- ---- what is shown of an entry

pub data What : Type 0 where
  Hide : What
  Label : What
  Show : What

abbrev pub is_hide : What → Bool
is_hide Hide = true
is_hide Label = false
is_hide Show = false

-- unlabelled: Pruned to its data digest; `witness_tree`: labelled, the value Pruned; `data_tree`: labelled with its Leaf
abbrev pub item : What → Entry → HashTree
item Hide e = Pruned (data_digest e)
item Label e = Labeled e.key (Pruned (leaf_hash e.value))
item Show e = Labeled e.key (Leaf e.value)

-- no entry of the list is labelled
abbrev pub quiet : (Entry → What) → List Entry → Bool
quiet f [] = true
quiet f (e ∷ L) = is_hide (f e) && quiet f L

-- THE WITNESS that shows of each entry what the rule f says: a missing child is Empty; a subtree with no labelled key is
-- Pruned to its subtree digest; any other unlabelled entry is Pruned to its data digest
unfoldable pub shown : (Entry → What) → Tree → HashTree
shown f nil = Empty
shown f (node c e l r) =
    cond (quiet f (entries l ++ (e ∷ entries r))) (Pruned (subtree_digest (node c e l r)))
    (three_way_fork (shown f l) (item (f e) e) (shown f r))

-- ---- the same without looking at a part once made: what a writer that puts the parent first has to know

-- `both`: the entry and all of the right side are unlabelled; `d`: their digest together
abbrev pub spread : (no_left no_right both : Bool) → Digest → HashTree → HashTree → HashTree → HashTree
spread true true both d l m r = m
spread false true both d l m r = Fork l m
spread true false both d l m r = Fork m r
spread false false true d l m r = Fork l (Pruned d)
spread false false false d l m r = Fork l (Fork m r)

unfoldable pub traced : (Entry → What) → Tree → HashTree
traced f nil = Empty
traced f (node c e l r) =
    cond (quiet f (entries l ++ (e ∷ entries r))) (Pruned (subtree_digest (node c e l r)))
    (spread (is_nil l) (is_nil r) (is_hide (f e) && quiet f (entries r)) (fork_hash (data_digest e) (subtree_digest r)) (traced f l) (item (f e) e) (traced f r))
