-- How often a slot stands in a tree, and how many nodes it has, node by node.
use mathlib.Core.Path.{◌≡◌, refl, ap, ◌∙◌}
use mathlib.Core.Bool.{Bool}
use mathlib.Core.List.{List, [], ◌∷◌, ◌++◌}
use Prim.Native.Nat.{ℕ, suc, ◌+◌}
use native.Mathlib.Omega.{arith}
use lib.ListN.{length}
use Rattle.llrb.specs.Tree.{Entry, Tree, node, entries, size}
use Rattle.llrb.specs.Map.{slots, Without, here, next}
use Rattle.store.specs.Counts.{is, occurs}
use Rattle.store.specs.Counting.{occurs-append}
use Rattle.store.specs.Model.{slots_of}

slots-append : (L M : List Entry) → slots (L ++ M) ≡ slots L ++ slots M
slots-append [] M = refl
slots-append (e ∷ L) M = ap {B = List ℕ} (λ (z : List ℕ). e.slot ∷ z) (slots-append L M)

pub slots-node : (x : ℕ) (c : Bool) (e : Entry) (l r : Tree)
    → occurs x (slots_of (node c e l r)) ≡ is x e.slot + (occurs x (slots_of l) + occurs x (slots_of r))
slots-node x c e l r =
    ap (occurs x) (slots-append (entries l) (e ∷ entries r)) ∙ omega (arith, occurs-append x (slots_of l) (slots (e ∷ entries r)))

pub size-slots : (t : Tree) → length (slots_of t) ≡ size t
unfolding size
size-slots t = go (entries t)
  where
    go : (L : List Entry) → length (slots L) ≡ length L
    go [] = refl
    go (e ∷ L) = ap suc (go L)

pub occurs-without : (x : ℕ) {s : ℕ} {L M : List ℕ} → Without s L M → occurs x L ≡ is x s + occurs x M
occurs-without x here = refl
occurs-without x (next w) = omega (arith, occurs-without x w)
