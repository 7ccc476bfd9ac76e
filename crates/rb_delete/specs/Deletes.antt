-- The contracts of delete on a tree in slots: a function runs where the Rust's, with its panics, succeeds, and leaves what it gives.
use Rattle.std.specs.Prelude.{◌≡◌, List, ℕ}
use Rattle.std.proofs.Math.Option.{some}
use Rattle.key_order.specs.Order.{Key}
use Rattle.llrb.specs.Tree.{Entry, Tree, nil, node, right, balance, get}
use Rattle.llrb.specs.Delete.{least, moved, delete}
use Rattle.llrb.specs.Shape.{Lawful}
use Rattle.llrb.specs.Panic.{delete_min_p, delete_go_p}
use Rattle.rb_nodes.specs.Heap.{Held, Full, Marked, nothing, only, Step, hang_right}

abbrev pub CanMin : List ℕ → ℕ → Type 0
CanMin s h = (t : Tree) × Held s h t × (n : ℕ) × (u : Tree) × (delete_min_p n t ≡ some u)

-- the least entry's slot leaves
abbrev pub DoesMin : List ℕ → List ℕ → ℕ → ℕ → Type 0
DoesMin s s' h r = (t u : Tree) (n : ℕ) (d : Entry) → Held s h t → delete_min_p n t ≡ some u → Step Marked Marked nothing (only (least d t).slot) s s' r t u

-- the top takes the key and the value of the least entry on its right
abbrev pub renew : Tree → Tree
renew nil = nil
renew (node c e l r) = node c (moved e (least e r)) l r

abbrev pub CanNext : List ℕ → ℕ → Type 0
CanNext s h = (t : Tree) × Held s h t × Full t × (n : ℕ) × (y : Tree) × (delete_min_p n (right t) ≡ some y)

abbrev pub DoesNext : List ℕ → List ℕ → ℕ → ℕ → ℕ → Type 0
DoesNext s s' h r f =
    (t y : Tree) (n : ℕ) → Held s h t → Full t → delete_min_p n (right t) ≡ some y → Step Marked Marked nothing (only f) s s' r t (balance (hang_right y (renew t)))

abbrev pub CanDelete : Key → List ℕ → ℕ → Type 0
CanDelete k s h = (t : Tree) × Held s h t × (n : ℕ) × (u : Tree) × (delete_go_p n k t ≡ some u)

abbrev pub DoesDelete : Key → List ℕ → List ℕ → ℕ → ℕ → ℕ → Type 0
DoesDelete k s s' h r f = (t u : Tree) (n : ℕ) → Held s h t → delete_go_p n k t ≡ some u → Step Marked Marked nothing (only f) s s' r t u

-- the whole deletion, where the key is there
abbrev pub CanCut : Key → List ℕ → ℕ → Type 0
CanCut k s h = (t : Tree) × Held s h t × Lawful t × (e : Entry) × (get k t ≡ some e)

abbrev pub DoesCut : Key → List ℕ → List ℕ → ℕ → ℕ → ℕ → Type 0
DoesCut k s s' h r f = (t : Tree) (e : Entry) → Held s h t → Lawful t → get k t ≡ some e → Step Marked Marked nothing (only f) s s' r t (delete k t)
