-- A key compared with the one at the top: what the answer says of the tree.
use mathlib.Core.Path.{◌≡◌, refl, sym, ap, ◌∙◌}
use mathlib.Core.Bool.{Bool, true, false}
use mathlib.Core.List.{List}
use mathlib.Core.Option.{Option, none, some}
use Prim.Native.Nat.{ℕ}
use Rattle.std.specs.Ordering.{is_lt, is_eq}
use Rattle.std.specs.declared.cmp.Ordering.{Ordering}
use Rattle.std.specs.declared.cmp.Ordering.TheVariants.{Less, Equal, Greater}
use Rattle.key_order.specs.Order.{Key, cmp}
use Rattle.runs.proofs.Testing.{clash}
use Rattle.slots.specs.Layout.{slot, key_of}
use Rattle.llrb.specs.Tree.{Value, Entry, Tree, nil, node, left, right, get}
use Rattle.rb_nodes.specs.Heap.{Held, Full}
use Rattle.rb_nodes.proofs.Heap.{top_key_lem}

-- the key at the top
abbrev pub top_key : Tree → Key → Key
top_key nil k = k
top_key (node c e l r) k = e.key

pub answer : {s : List ℕ} {h : ℕ} {o : Ordering} (k : Key) (t : Tree) → Held s h t → Full t → o ≡ cmp k (key_of (slot s h)) → cmp k (top_key t k) ≡ o
answer k nil a f w = absurd f
answer k (node c e l r) a f w = sym (w ∙ ap (cmp k) (top_key_lem a))

-- a test of the answer: it holds, or not
pub is-less : {b : Bool} (o : Ordering) → b ≡ is_lt o → b ≡ true → o ≡ Less
is-less Less e w = refl
is-less Equal e w = absurd (clash w e)
is-less Greater e w = absurd (clash w e)

pub not-less : {b : Bool} (o : Ordering) → b ≡ is_lt o → b ≡ false → o ≡ Less → ⊥
not-less o e w q = clash (e ∙ ap is_lt q) w

pub is-equal : {b : Bool} (o : Ordering) → b ≡ is_eq o → b ≡ true → o ≡ Equal
is-equal Less e w = absurd (clash w e)
is-equal Equal e w = refl
is-equal Greater e w = absurd (clash w e)

pub not_equal : {b : Bool} (o : Ordering) → b ≡ is_eq o → b ≡ false → o ≡ Equal → ⊥
not_equal o e w q = clash (e ∙ ap is_eq q) w

-- ---- get goes the same way

pub get-nil : (k : Key) → get {Val = Value} k nil ≡ none
unfolding get
get-nil k = refl

module _ (k : Key) (t : Tree) (f : Full t) where
  pub get_left : cmp k (top_key t k) ≡ Less → get k t ≡ get k (left t)
  get_left q = go t f q
    where
      go : (t : Tree) → Full t → cmp k (top_key t k) ≡ Less → get k t ≡ get k (left t)
      go nil f q = absurd f
      go (node c e l r) f q = unfold get in rw q refl

  pub get-right : cmp k (top_key t k) ≡ Greater → get k t ≡ get k (right t)
  get-right q = go t f q
    where
      go : (t : Tree) → Full t → cmp k (top_key t k) ≡ Greater → get k t ≡ get k (right t)
      go nil f q = absurd f
      go (node c e l r) f q = unfold get in rw q refl

-- the entry that is found is the top's
abbrev pub top_entry : Tree → Option Entry
top_entry nil = none
top_entry (node c e l r) = some e

pub get-here : (k : Key) (t : Tree) → Full t → cmp k (top_key t k) ≡ Equal → get k t ≡ top_entry t
unfolding get
get-here k nil f q = absurd f
get-here k (node c e l r) f q = rw q refl
