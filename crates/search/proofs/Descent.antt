-- The way down in a search, as the code's loop takes it: it has come to slot a with b met so far, and what the rest of the way answers
-- is the answer of the whole.
use mathlib.Core.Path.{◌≡◌, refl, sym, subst}
use mathlib.Core.Bool.{Bool}
use mathlib.Core.List.{List}
use Prim.Native.Nat.{ℕ, ◌<◌}
use native.Mathlib.Omega.{arith}
use Rattle.slots.specs.Layout.{slot}
use Rattle.llrb.specs.Tree.{Entry, Tree, nil, node, size}
use Rattle.llrb.proofs.Height.{size-node}
use Rattle.store.specs.Decode.{entries_below}
use Rattle.search.specs.declared.Turn.{Turn}
use Rattle.search.specs.declared.Turn.TheVariants.{Stop, Left, Right}
use Rattle.search.specs.Search.{Lies, HasTree, EntryAt, Descends}
use Rattle.search.proofs.Lying.{top_in, top-entry, lies-left, lies-right, one-tree, below-lies}

pub record Along {B : Type 0} (P : ℕ → B → Turn B → Type 0) (s : List ℕ) (h a : ℕ) (first b : B) : Type 0 where
  pub rest : Tree
  pub lies : Lies s a rest
  pub whole : (z : B) → Descends P rest b z → (t : Tree) → Lies s h t → Descends P t first z

-- the node that the way has come to
record Met {B : Type 0} (P : ℕ → B → Turn B → Type 0) (s : List ℕ) (h a : ℕ) (first b : B) : Type 0 where
  red : Bool
  top : Entry
  lower : Tree
  upper : Tree
  lies : Lies s a (node red top lower upper)
  whole : (z : B) → Descends P (node red top lower upper) b z → (t : Tree) → Lies s h t → Descends P t first z

module _ {B : Type 0} {P : ℕ → B → Turn B → Type 0} {s : List ℕ} {h : ℕ} {first : B} where
  pub start : HasTree s h → Along P s h h first first
  start p = record { rest = p.0; lies = p.1; whole = λ z d t a. subst (λ (u : Tree). Descends P u first z) (one-tree p.0 t p.1 a) d }

  module _ {a : ℕ} {b : B} (p : Along P s h a first b) where
    -- no slot: the best is the answer
    pub ends : a ≡ 0 → (t : Tree) → Lies s h t → Descends P t first b
    ends e = go p.rest p.lies (p.whole b)
      where
        go : (u : Tree) → Lies s a u → (Descends P u b b → (t : Tree) → Lies s h t → Descends P t first b) → (t : Tree) → Lies s h t → Descends P t first b
        go nil w q = q refl
        go (node c x l r) w q = absurd (omega (arith, e, (top_in w).low))

    -- a slot: there is a node
    module _ (ne : a ≡ 0 → ⊥) where
      met : Met P s h a first b
      met = go p.rest p.lies p.whole
        where
          go : (u : Tree) → Lies s a u → ((z : B) → Descends P u b z → (t : Tree) → Lies s h t → Descends P t first z) → Met P s h a first b
          go nil w q = absurd (ne (sym w.top))
          go (node c e l r) w q = record { red = c; top = e; lower = l; upper = r; lies = w; whole = q }

      pub here_in : EntryAt s a
      here_in = top-entry met.lies

      turn : {w : Turn B} → P a b w → P met.top.slot b w
      turn {w} = subst (λ (i : ℕ). P i b w) (sym met.lies.top)

      pub stops : {z : B} → P a b (Stop z) → (t : Tree) → Lies s h t → Descends P t first z
      stops {z} v = met.whole z (Stop z, turn v, refl)

      -- below a child v
      less : {q : ℕ} (v : Tree) → Lies s q v → size v < size (node met.red met.top met.lower met.upper) → entries_below s q < entries_below s a
      less {q} v w k = omega (arith, below-lies s a (node met.red met.top met.lower met.upper) met.lies, below-lies s q v w)

      module _ {q : ℕ} (e : q ≡ (slot s a).left) where
        pub less-left : entries_below s q < entries_below s a
        less-left = less met.lower (lies-left met.lies e) (omega (arith, size-node met.red met.top met.lower met.upper))

        pub goes-left : {x : B} → P a b (Left x) → Along P s h q first x
        goes-left {x} v = record { rest = met.lower; lies = lies-left met.lies e; whole = λ z d. met.whole z (Left x, turn v, d) }

      module _ {q : ℕ} (e : q ≡ (slot s a).right) where
        pub less-right : entries_below s q < entries_below s a
        less-right = less met.upper (lies-right met.lies e) (omega (arith, size-node met.red met.top met.lower met.upper))

        pub goes-right : {x : B} → P a b (Right x) → Along P s h q first x
        goes-right {x} v = record { rest = met.upper; lies = lies-right met.lies e; whole = λ z d. met.whole z (Right x, turn v, d) }
