-- The nodes that a walk meets, and what an auditor asks of them: request Q-6.
use Rattle.std.specs.Prelude.{◌≡◌, Bool, false, ℕ}
use Rattle.std.specs.declared.cmp.Ordering.TheVariants.{Greater}
use Rattle.key_order.specs.Order.{Key, cmp}
use Rattle.llrb.specs.Tree.{Entry, Tree, node}
use Rattle.witness_trees.specs.Shown.{three, item}
use Rattle.witness_walks.specs.declared.Walk.{Walk}
use Rattle.witness_walks.specs.declared.Walk.TheVariants.{Full, Above, Below, Between, Lookup}
use Rattle.witness_walks.specs.declared.What.{What}
use Rattle.witness_walks.specs.declared.Part.TheVariants.{Walked}
use Rattle.witness_walks.specs.Arms.{arms_at}
use Rattle.search.specs.Search.{slot_of}
use Rattle.witness_walks.specs.Walked.{what_of, part_tree}

-- the walk w from the tree t comes to the tree u, where it is the walk v
pub data Meets (K : ℕ → Key) (f : What) : (w : Walk) (t : Tree) (v : Walk) (u : Tree) → Type 0 where
  here : {w : Walk} {t : Tree} → Meets K f w t w t
  on-left : {w x v : Walk} {c : Bool} {e : Entry} {l r u : Tree} → (arms_at K w f e.key).left ≡ Walked x → Meets K f x l v u → Meets K f w (node c e l r) v u
  on-right : {w x v : Walk} {c : Bool} {e : Entry} {l r u : Tree} → (arms_at K w f e.key).right ≡ Walked x → Meets K f x r v u → Meets K f w (node c e l r) v u

-- are the three parts that the walk joins at the node of e, l and r all Pruned?
abbrev pub Three : (K : ℕ → Key) → What → Walk → Entry → (l r : Tree) → Bool
Three K f w e l r =
    three (part_tree K f l (arms_at K w f e.key).left) (item (what_of (arms_at K w f e.key).middle) e) (part_tree K f r (arms_at K w f e.key).right)

-- the key lies below the low bound and above the high one
abbrev pub Outside : (K : ℕ → Key) → Walk → Key → Type 0
Outside K Full k = ⊥
Outside K (Above lo) k = ⊥
Outside K (Below hi) k = ⊥
Outside K (Between lo hi) k = (cmp (K (slot_of lo)) k ≡ Greater) × (cmp k (K (slot_of hi)) ≡ Greater)
Outside K (Lookup i) k = ⊥

-- OF EVERY NODE THAT THE WALK MEETS: no three Pruned parts are joined there, and it does not lie below the low and above the high bound
abbrev pub Never : (K : ℕ → Key) → What → Walk → Tree → Type 0
Never K f w t = (v : Walk) (c : Bool) (e : Entry) (l r : Tree) → Meets K f w t v (node c e l r) → (Three K f v e l r ≡ false) × (Outside K v e.key → ⊥)
