-- `three_way_fork` by the kinds of its parts, and the records of a node: their bytes are the written form of the joined tree.
use mathlib.Core.Path.{◌≡◌, refl, sym, ◌∙◌}
use mathlib.Core.Bool.{Bool, true, false, ◌&&◌, true≢false}
use mathlib.Core.List.{List, [], append-nil}
use Prim.Native.Nat.{ℕ}
use Rattle.hash_tree.specs.HashTree.{HashTree, fork_hash, digest}
use Rattle.hash_tree.specs.Written.{piece, write}
use Rattle.llrb.specs.Tree.{Entry, Tree}
use Rattle.llrb.specs.Digests.{data_digest, subtree_digest}
use Rattle.witness_trees.specs.Reading.{is_empty, is_pruned}
use Rattle.witness_trees.specs.Shown.{three_way_fork, three, item}
use Rattle.witness_trees.proofs.Shown.{join-cases, digest-item}
use Rattle.witness_walks.specs.declared.Kind.{Kind}
use Rattle.witness_walks.specs.declared.What.{What}
use Rattle.witness_walks.specs.declared.What.TheVariants.{Hide, Label, Show}
use Rattle.witness_walks.specs.declared.Part.{Part}
use Rattle.witness_walks.specs.declared.Part.TheVariants.{Nothing}
use Rattle.witness_walks.specs.Records.{is_empty as kind_empty, is_pruned as kind_pruned, kind_of_what, shape_of, records_of}
use Rattle.witness_walks.specs.Walked.{what_of, in_order}

-- the hash tree u is of the kind k
pub record IsKind (k : Kind) (u : HashTree) : Type 0 where
  pub empty : is_empty u ≡ kind_empty k
  pub pruned : is_pruned u ≡ kind_pruned k

and-true : (a b : Bool) → (a && b) ≡ true → b ≡ true
and-true true b h = h
and-true false b h = absurd (true≢false (sym h))

pub what-kind : (m : What) (e : Entry) → IsKind (kind_of_what m) (item (what_of m) e)
what-kind Hide e = record { empty = refl; pruned = refl }
what-kind Label e = record { empty = refl; pruned = refl }
what-kind Show e = record { empty = refl; pruned = refl }

pub digest-what : (m : What) (e : Entry) → digest (item (what_of m) e) ≡ data_digest e
digest-what m e = digest-item (what_of m) e

-- The parts u and v of the sides l and r, with their bytes, not all Pruned; `t` is the right side of the node.
module _ (l r : Part) (m : What) (e : Entry) (t : Tree) (u v : HashTree) (kl kr : Kind) (bl br : Part → List ℕ)
    (hl : IsKind kl u) (hr : IsKind kr v)
    (nl : bl Nothing ≡ []) (nr : br Nothing ≡ []) (wl : bl l ≡ write u) (wr : br r ≡ write v)
    (never : three u (item (what_of m) e) v ≡ false)
    (both : is_pruned v ≡ true → digest v ≡ subtree_digest t) where
  abbrev mid : HashTree
  mid = item (what_of m) e

  pair : (b : Bool) → (is_pruned mid && is_pruned v) ≡ b → (kind_pruned (kind_of_what m) && kind_pruned kr) ≡ b
  pair b z = rw (← (what-kind m e).pruned, ← hr.pruned) z

  pub join-bytes : write (three_way_fork u mid v) ≡ in_order (records_of (shape_of kl (kind_of_what m) kr) l m r) bl br e t
  unfolding write
  join-bytes =
      join-cases (λ w. write w ≡ in_order (records_of (shape_of kl (kind_of_what m) kr) l m r) bl br e t) u mid v
      (λ x y. rw (sym hl.empty ∙ x, sym hr.empty ∙ y, nl, nr) (sym (append-nil (write mid))))
      (λ x y. rw (sym hl.empty ∙ x, sym hr.empty ∙ y, nr, wl, append-nil (write mid)))
      (λ x y. rw (sym hl.empty ∙ x, sym hr.empty ∙ y, nl, wr))
      (λ x y z. absurd (true≢false (sym z ∙ never)))
      (λ x y z.
      rw (sym hl.empty ∙ x, sym hr.empty ∙ y, pair true z, nr, wl, digest-what m e, both (and-true (is_pruned mid) (is_pruned v) z), append-nil (piece 4 (fork_hash (data_digest e) (subtree_digest t)))))
      (λ x y z. rw (sym hl.empty ∙ x, sym hr.empty ∙ y, pair false z, wl, wr))
