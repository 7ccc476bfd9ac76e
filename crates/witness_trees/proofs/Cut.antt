-- Every witness is the whole hash tree with parts cut to their digests: what it shows stands there at the same place.
use mathlib.Core.Path.{◌≡◌, refl, subst}
use mathlib.Core.Bool.{Bool, true, false, ◌&&◌}
use Rattle.hash_tree.specs.HashTree.{Digest, HashTree, Empty, Fork, Leaf, Pruned, fork_hash, digest}
use Rattle.hash_tree.specs.Prune.{Prunes, cut, same, fork, labeled}
use Rattle.llrb.specs.Tree.{Entry, Tree, nil, node, entries}
use Rattle.llrb.specs.Digests.{data_digest, subtree_digest, is_nil}
use Rattle.witness_trees.specs.Shown.{What, Hide, Label, Show, is_hide, item, quiet, shown, spread}
use Rattle.witness_trees.proofs.Shown.{node-cases, shown-nil, shown-spread, digest-shown}
use Rattle.witness_trees.proofs.Lists.{loud-here}

prunes-item : (w : What) (e : Entry) → Prunes (item w e) (item Show e)
prunes-item Hide e = cut (item Show e)
prunes-item Label e = labeled e.key (cut (Leaf e.value))
prunes-item Show e = same (item Show e)

prunes-spread : (a b both : Bool) (d d' : Digest) {l m r l' m' r' : HashTree} → fork_hash (digest m) (digest r) ≡ d
    → Prunes l' l → Prunes m' m → Prunes r' r → Prunes (spread a b both d l' m' r') (spread a b false d' l m r)
prunes-spread true true both d d' h p q s = q
prunes-spread false true both d d' h p q s = fork p q
prunes-spread true false both d d' h p q s = fork q s
prunes-spread false false true d d' {m = m} {r = r} h p q s = fork p (subst (λ (x : Digest). Prunes (Pruned x) (Fork m r)) h (cut (Fork m r)))
prunes-spread false false false d d' h p q s = fork p (fork q s)

abbrev all : Entry → What
all e = Show

pub shown-prunes : (f : Entry → What) (t : Tree) → Prunes (shown f t) (shown all t)
shown-prunes f nil = rw (shown-nil f, shown-nil all) (same Empty)
shown-prunes f (node c e l r) =
    let p = shown-prunes f l in
    let q = shown-prunes f r in
    node-cases (λ u. (u ≡ shown f (node c e l r)) → Prunes u (shown all (node c e l r))) f c e l r
    (λ h k. subst (λ (x : Digest). Prunes (Pruned x) (shown all (node c e l r))) (digest-shown all (node c e l r)) (cut (shown all (node c e l r))))
    (λ h k. rw (k, shown-spread f c e l r h, shown-spread all c e l r (loud-here all (entries l) e (entries r) refl))
    (prunes-spread (is_nil l) (is_nil r) (is_hide (f e) && quiet f (entries r)) (fork_hash (data_digest e) (subtree_digest r)) (fork_hash (data_digest e) (subtree_digest r))
    (rw (digest-shown all r)) p (prunes-item (f e) e) q))
    refl
