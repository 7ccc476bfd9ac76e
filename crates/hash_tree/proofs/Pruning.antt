-- A tree with some of its parts pruned has the tree's digest.
use mathlib.Core.Path.{◌≡◌, refl}
use Rattle.hash_tree.specs.HashTree.{HashTree, digest}
use Rattle.hash_tree.specs.Prune.{Prunes, cut, same, fork, labeled}

pub digest-prunes : {u t : HashTree} → Prunes u t → digest u ≡ digest t
digest-prunes (cut t) = refl
digest-prunes (same t) = refl
digest-prunes (fork h g) = rw (digest-prunes h, digest-prunes g)
digest-prunes (labeled b h) = rw (digest-prunes h)
