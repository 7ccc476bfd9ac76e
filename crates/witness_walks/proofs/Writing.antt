-- The bytes of a walk are the written form of the hash tree that it makes.
use mathlib.Core.Path.{◌≡◌, refl, sym}
use mathlib.Core.List.{[]}
use Prim.Native.Nat.{ℕ}
use Rattle.key_order.specs.Order.{Key}
use Rattle.hash_tree.specs.Written.{write}
use Rattle.llrb.specs.Tree.{Tree, nil, node}
use Rattle.llrb.specs.Digests.{is_nil}
use Rattle.witness_trees.specs.Witness.{Form}
use Rattle.witness_walks.specs.declared.What.{What}
use Rattle.witness_walks.specs.declared.Part.{Part}
use Rattle.witness_walks.specs.declared.Part.TheVariants.{Nothing, Hidden, Walked}
use Rattle.witness_walks.specs.declared.Arm.{Arm}
use Rattle.witness_walks.specs.Arms.{arms_at}
use Rattle.witness_walks.specs.Records.{kind_of_part, records_at}
use Rattle.witness_walks.specs.Walked.{showing, joined, part_tree, in_order, part_bytes}
use Rattle.witness_walks.proofs.Joining.{join-bytes}
use Rattle.witness_walks.proofs.Reached.{ReachedPart, Goes, goes, part-kind, pruned-part, not_three}

pub nothing-bytes : (K : ℕ → Key) (f : What) (t : Tree) → part_bytes K f t Nothing ≡ []
unfolding part_bytes
nothing-bytes K f nil = refl
nothing-bytes K f (node c e l r) = refl

pub part_bytes_lem : (K : ℕ → Key) (w : Form) (t : Tree) (p : Part) → ReachedPart K p t → part_bytes K (showing w) t p ≡ write (part_tree K (showing w) t p)
unfolding part_bytes part_tree
part_bytes_lem K w nil Nothing h = elim h [ ]
part_bytes_lem K w nil Hidden h = refl
part_bytes_lem K w nil (Walked walk) h = refl
part_bytes_lem K w (node c e l r) Nothing h = elim h [ ]
part_bytes_lem K w (node c e l r) Hidden h = refl
part_bytes_lem K w (node c e l r) (Walked walk) h =
    on (goes K w walk c e l r h) (part_bytes_lem K w l) (part_bytes_lem K w r)
  where
    f : What
    f = showing w

    a : Arm
    a = arms_at K walk f e.key

    on : Goes K a l r
        → ((p : Part) → ReachedPart K p l → part_bytes K f l p ≡ write (part_tree K f l p))
        → ((p : Part) → ReachedPart K p r → part_bytes K f r p ≡ write (part_tree K f r p))
        → in_order (records_at a (is_nil l) (is_nil r)) (part_bytes K f l) (part_bytes K f r) e r ≡ write (joined a (part_tree K f l) (part_tree K f r) e)
    on (p, q, x) il ir =
        sym (join-bytes a.left a.right a.middle e r (part_tree K f l a.left) (part_tree K f r a.right) (kind_of_part (is_nil l) a.left) (kind_of_part (is_nil r) a.right) (part_bytes K f l) (part_bytes K f r)
        (part-kind K w l a.left p) (part-kind K w r a.right q) (nothing-bytes K f l) (nothing-bytes K f r) (il a.left p) (ir a.right q)
        (not_three K w walk c e l r h) (pruned-part K w r a.right q))
