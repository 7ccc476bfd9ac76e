-- Which entry is the k-th, and how many keys lie below one (document 02, Q-5): first of the entries in order, then the ways down a tree, by the
-- numbers of entries in its subtrees.
use Rattle.std.specs.Prelude.{cond, List, [], ◌∷◌, ℕ, zero, suc, ◌+◌, ◌-◌, ltb, eqb}
use Rattle.std.proofs.Math.Option.{Option, none, some}
use Rattle.key_order.specs.Order.{Key, cmp, pick}
use Rattle.llrb.specs.Tree.{EntryOf, RbTree, nil, node, size}

module _ {Val : Type 0} where
  -- ---- on the entries in order

  -- the k-th, counted from 0
  unfoldable pub nth : ℕ → List (EntryOf Val) → Option (EntryOf Val)
  nth k [] = none
  nth zero (e ∷ L) = some e
  nth (suc k) (e ∷ L) = nth k L

  -- how many keys lie below this one, which may be there or not
  unfoldable pub rank : Key → List (EntryOf Val) → ℕ
  rank k [] = 0
  rank k (e ∷ L) = pick (cmp k e.key) (rank k L) (rank k L) (suc (rank k L))

  -- the first whose key is not below this one
  unfoldable pub first_from : Key → List (EntryOf Val) → Option (EntryOf Val)
  first_from k [] = none
  first_from k (e ∷ L) = pick (cmp k e.key) (some e) (some e) (first_from k L)

  -- ---- one way down

  unfoldable pub nth_entry : ℕ → RbTree Val → Option (EntryOf Val)
  nth_entry k nil = none
  nth_entry k (node c e l r) = cond (ltb k (size l)) (nth_entry k l) (cond (eqb k (size l)) (some e) (nth_entry (k - (size l + 1)) r))

  unfoldable pub rank_in : Key → RbTree Val → ℕ
  rank_in k nil = 0
  rank_in k (node c e l r) = pick (cmp k e.key) (rank_in k l) (size l) (size l + 1 + rank_in k r)
