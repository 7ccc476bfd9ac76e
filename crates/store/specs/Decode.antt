-- The model that bytes hold, if they hold one: the tree found by its links from the root, and the chain from its head.
-- The number that falls is the live count, and the capacity: a sound store has no more nodes, and no longer chain.
use Rattle.std.specs.Prelude.{List, [], ◌∷◌, ℕ, zero, suc}
use Rattle.slots.specs.Layout.{header, slot, key_of, value_of}
use Rattle.llrb.specs.Tree.{Tree, nil, node, size}
use Rattle.store.specs.Model.{Model}

unfoldable pub tree_at : (fuel : ℕ) → List ℕ → ℕ → Tree
tree_at zero s x = nil
tree_at (suc n) s zero = nil
tree_at (suc n) s (suc x) =
    node (slot s (suc x)).red (record { slot = suc x; key = key_of (slot s (suc x)); value = value_of (slot s (suc x)) })
    (tree_at n s (slot s (suc x)).left) (tree_at n s (slot s (suc x)).right)

-- how many entries lie below slot h, by the links: what falls as the code goes down. A store has fewer than 2,048 slots.
unfoldable pub entries_below : List ℕ → ℕ → ℕ
entries_below s h = size (tree_at 2047 s h)

unfoldable pub chain_at : (fuel : ℕ) → List ℕ → ℕ → List ℕ
chain_at zero s x = []
chain_at (suc n) s zero = []
chain_at (suc n) s (suc x) = suc x ∷ chain_at n s (slot s (suc x)).left

unfoldable pub decode : List ℕ → Model
unfolding tree_at chain_at
decode s =
    record {
      capacity = (header s).capacity;
      tree = tree_at (header s).live s (header s).root;
      free = chain_at (header s).capacity s (header s).free;
    }
