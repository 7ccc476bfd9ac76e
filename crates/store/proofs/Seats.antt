-- Which subtree stands at a slot; and a store seen slot by slot is the store seen along its tree and chain.
use mathlib.Core.Path.{◌≡◌, refl, sym, ap, ◌∙◌}
use mathlib.Core.Bool.{Bool, true, false}
use mathlib.Core.Logic.{◌≢◌}
use mathlib.Core.List.{List, [], ◌∷◌}
use mathlib.Core.Option.{none, some}
use Prim.Native.Nat.{ℕ, zero, suc, ◌+◌, ◌≤◌, ◌<◌}
use native.Mathlib.Nat.{not-suc-le-zero}
use native.Mathlib.Omega.{arith}
use lib.Dec.{eqb}
use lib.ListN.{length}
use borrow.Author.Tests.{eqb-true, eqb-false, eq-eqb, ne_eqb}
use Rattle.slots.specs.Layout.{store_length, header, slot, Mark, mark_of, no_mark}
use Rattle.llrb.specs.Tree.{Entry, Tree, nil, node}
use Rattle.llrb.specs.Path.{Sub, whole, on-left, on-right, subtree_at}
use Rattle.store.specs.Counts.{is, occurs}
use Rattle.store.specs.Deciding.{le?}
use Rattle.store.specs.Counting.{is-self, is-other, numbers-in, numbers-low, numbers-high, numbers-most}
use Rattle.store.specs.Model.{Model, slots_of}
use Rattle.store.specs.Sound.{header_in, Nodes, Marks, Digests, Counts, Chain, LaidIn, Lawful}
use Rattle.store.specs.Encode.{in_chain, slot_at, mark_at}
use Rattle.store.proofs.Trees.{slots-node}
use Rattle.store.proofs.Decoding.{once-sum}

-- ---- subtrees

pub sub-left : {c : Bool} {e : Entry} {l r t : Tree} → Sub (node c e l r) t → Sub l t
sub-left whole = on-left whole
sub-left (on-left s) = on-left (sub-left s)
sub-left (on-right s) = on-right (sub-left s)

pub sub-right : {c : Bool} {e : Entry} {l r t : Tree} → Sub (node c e l r) t → Sub r t
sub-right whole = on-right whole
sub-right (on-left s) = on-left (sub-right s)
sub-right (on-right s) = on-right (sub-right s)

pub sub-nodes : (s : List ℕ) {u t : Tree} → Sub u t → Nodes s t → Nodes s u
sub-nodes s whole a = a
sub-nodes s (on-left p) a = sub-nodes s p a.1
sub-nodes s (on-right p) a = sub-nodes s p a.2

sub-marks : (d : ℕ) (s : List ℕ) {u t : Tree} → Sub u t → Marks d s t → Marks d s u
sub-marks d s whole a = a
sub-marks d s (on-left p) a = sub-marks d s p a.1
sub-marks d s (on-right p) a = sub-marks d s p a.2

-- the two halves of the marks
pub marks-digests : (d : ℕ) (s : List ℕ) (t : Tree) → Marks d s t → Digests s t
marks-digests d s nil a = tt
marks-digests d s (node c e l r) a = (ap (λ (m : Mark). m.digest) a.0, marks-digests d s l a.1, marks-digests d s r a.2)

pub marks-counts : (d : ℕ) (s : List ℕ) (t : Tree) → Marks d s t → Counts d s t
marks-counts d s nil a = tt
marks-counts d s (node c e l r) a = (ap (λ (m : Mark). m.count) a.0, marks-counts d s l a.1, marks-counts d s r a.2)

pub marks-are : (d : ℕ) (s : List ℕ) (t : Tree) → Digests s t → Counts d s t → Marks d s t
marks-are d s nil a b = tt
marks-are d s (node c e l r) a b = (λ i. record { count = b.0 i; digest = a.0 i }, marks-are d s l a.1 b.1, marks-are d s r a.2 b.2)

-- a subtree's slots are the tree's
pub sub-occurs : (x : ℕ) {u t : Tree} → Sub u t → occurs x (slots_of u) ≤ occurs x (slots_of t)
sub-occurs x whole = omega arith
sub-occurs x (on-left {c = c} {e = e} {l = l} {r = r} p) = omega (arith, sub-occurs x p, slots-node x c e l r)
sub-occurs x (on-right {c = c} {e = e} {l = l} {r = r} p) = omega (arith, sub-occurs x p, slots-node x c e l r)

pub top-occurs : (c : Bool) (e : Entry) (l r : Tree) → 1 ≤ occurs e.slot (slots_of (node c e l r))
top-occurs c e l r = omega (arith, slots-node e.slot c e l r, is-self e.slot)

-- ---- what stands at slot x

pub data Seat (x : ℕ) (t : Tree) : Type 0 where
  missing : occurs x (slots_of t) ≡ 0 → subtree_at x t ≡ none → Seat x t
  seated : (c : Bool) (e : Entry) (l r : Tree) → subtree_at x t ≡ some (node c e l r) → e.slot ≡ x → Sub (node c e l r) t → Seat x t

pub seat : (x : ℕ) (t : Tree) → Seat x t
unfolding subtree_at
seat x nil = missing refl refl
seat x (node c e l r) = here (eqb x e.slot) refl (seat x l) (seat x r)
  where
    here : (b : Bool) → eqb x e.slot ≡ b → Seat x l → Seat x r → Seat x (node c e l r)
    here true q i j = seated c e l r (rw q) (sym (eqb-true x e.slot q)) whole
    here false q (seated d f m n h k p) j = seated d f m n (rw (q, h)) k (on-left p)
    here false q (missing z h) (seated d f m n i k p) = seated d f m n (rw (q, h, i)) k (on-right p)
    here false q (missing z h) (missing w i) =
        missing (omega (arith, slots-node x c e l r, is-other x e.slot (eqb-false x e.slot q), z, w)) (rw (q, h, i))

pub not-seated : (x : ℕ) (t : Tree) → occurs x (slots_of t) ≡ 0 → subtree_at x t ≡ none
not-seated x t z = at (seat x t)
  where
    at : Seat x t → subtree_at x t ≡ none
    at (missing w h) = h
    at (seated c e l r h k p) = absurd (omega (arith, sub-occurs x p, ap (λ (y : ℕ). occurs y (slots_of (node c e l r))) k, top-occurs c e l r))

-- where no slot stands twice, a node is found at its slot
pub found : {c : Bool} {e : Entry} {l r t : Tree} → ((x : ℕ) → occurs x (slots_of t) ≤ 1) → Sub (node c e l r) t → subtree_at e.slot t ≡ some (node c e l r)
unfolding subtree_at
found {e = e} o whole = rw (eq-eqb e.slot e.slot refl)
found {c} {e} {l} {r} o (on-left {c = d} {e = f} {l = m} {r = n} p) =
    let w = slots-node e.slot d f m n in
    let q : 1 ≤ occurs e.slot (slots_of m) = omega (arith, sub-occurs e.slot p, top-occurs c e l r) in
    let ne : e.slot ≢ f.slot = λ k. omega (arith, o e.slot, w, ap (λ (z : ℕ). is z f.slot) k, is-self f.slot) in
    let lo : (x : ℕ) → occurs x (slots_of m) ≤ 1 = λ x. omega (arith, o x, slots-node x d f m n) in
    rw (ne_eqb e.slot f.slot ne, found lo p)
found {c} {e} {l} {r} o (on-right {c = d} {e = f} {l = m} {r = n} p) =
    let w = slots-node e.slot d f m n in
    let q : 1 ≤ occurs e.slot (slots_of n) = omega (arith, sub-occurs e.slot p, top-occurs c e l r) in
    let ne : e.slot ≢ f.slot = λ k. omega (arith, o e.slot, w, ap (λ (z : ℕ). is z f.slot) k, is-self f.slot) in
    let lo : (x : ℕ) → occurs x (slots_of n) ≤ 1 = λ x. omega (arith, o x, slots-node x d f m n) in
    let z : subtree_at e.slot m ≡ none = not-seated e.slot m (omega (arith, o e.slot, w)) in
    rw (ne_eqb e.slot f.slot ne, z, found lo p)

-- ---- a store seen slot by slot

pub record Shows (edition : ℕ) (s : List ℕ) (m : Model) : Type 0 where
  pub len : length s ≡ store_length m.capacity
  pub head : header s ≡ header_in edition m
  pub slots : (x : ℕ) → 1 ≤ x → x ≤ m.capacity → slot s x ≡ slot_at m x
  pub marks : (x : ℕ) → 1 ≤ x → x ≤ m.capacity → mark_of s x ≡ mark_at edition m x

-- the chain at x
record Linked (s : List ℕ) (x : ℕ) (f : List ℕ) : Type 0 where
  here : slot s x ≡ in_chain x f
  blank : mark_of s x ≡ no_mark

linked : (s : List ℕ) (x : ℕ) (f : List ℕ) → Chain s f → 1 ≤ occurs x f → Linked s x f
linked s x [] a p = absurd (not-suc-le-zero p)
linked s x (y ∷ f) a p = go (eqb x y) refl (linked s x f a.2)
  where
    go : (b : Bool) → eqb x y ≡ b → (1 ≤ occurs x f → Linked s x f) → Linked s x (y ∷ f)
    go true q i =
        let k = eqb-true x y q in
        record { here = rw q (ap (slot s) k ∙ a.0); blank = ap (mark_of s) k ∙ a.1 }
    go false q i =
        let r = i (omega (arith, is-other x y (eqb-false x y q))) in
        record { here = rw q r.here; blank = r.blank }

-- ---- the slots of tree and chain are within the capacity, and none stands twice

module _ {m : Model} (g : Lawful m) where
  within : (x : ℕ) → 1 ≤ occurs x (slots_of m.tree) + occurs x m.free → (1 ≤ x) × (x ≤ m.capacity)
  within zero p = absurd (omega (arith, once-sum g 0, numbers-low m.capacity))
  within (suc x) p = (omega arith, at (le? (suc x) m.capacity))
    where
      at : Dec (suc x ≤ m.capacity) → suc x ≤ m.capacity
      at (yes h) = h
      at (no h) = let q : m.capacity < suc x = omega arith in absurd (omega (arith, once-sum g (suc x), numbers-high (suc x) m.capacity q))

  pub tree-within : (x : ℕ) → 1 ≤ occurs x (slots_of m.tree) → (1 ≤ x) × (x ≤ m.capacity)
  tree-within x p = within x (omega arith)

  pub chain-within : (x : ℕ) → 1 ≤ occurs x m.free → (1 ≤ x) × (x ≤ m.capacity)
  chain-within x p = within x (omega arith)

  pub tree-once : (x : ℕ) → occurs x (slots_of m.tree) ≤ 1
  tree-once x = omega (arith, once-sum g x, numbers-most x m.capacity)

  pub chain-once : (x : ℕ) → occurs x m.free ≤ 1
  chain-once x = omega (arith, once-sum g x, numbers-most x m.capacity)

module _ {d : ℕ} {s : List ℕ} {m : Model} (g : Lawful m) where
  pub laid_shows : LaidIn d s m → Shows d s m
  laid_shows a = record { len = a.len; head = a.header; slots = λ x p q. slots_at x p q (seat x m.tree); marks = λ x p q. marks-at x p q (seat x m.tree) }
    where
      chained : (x : ℕ) → 1 ≤ x → x ≤ m.capacity → occurs x (slots_of m.tree) ≡ 0 → Linked s x m.free
      chained x p q z = linked s x m.free a.chain (omega (arith, once-sum g x, numbers-in x m.capacity p q))

      slots_at : (x : ℕ) → 1 ≤ x → x ≤ m.capacity → Seat x m.tree → slot s x ≡ slot_at m x
      slots_at x p q (missing z h) = rw h (chained x p q z).here
      slots_at x p q (seated c e l r h k u) = rw h (ap (slot s) (sym k) ∙ (sub-nodes s u a.nodes).0)

      marks-at : (x : ℕ) → 1 ≤ x → x ≤ m.capacity → Seat x m.tree → mark_of s x ≡ mark_at d m x
      marks-at x p q (missing z h) = rw h (chained x p q z).blank
      marks-at x p q (seated c e l r h k u) = rw h (ap (mark_of s) (sym k) ∙ (sub-marks d s u a.marks).0)

  pub shows-laid : Shows d s m → LaidIn d s m
  shows-laid a =
      record { len = a.len; header = a.head; nodes = nodes-of m.tree whole; marks = marks-of m.tree whole; chain = chain-of m.free (λ x. chain-once g x) (λ x p. (in-chain x p, blank x p)) }
    where
      seen : (c : Bool) (e : Entry) (l r : Tree) → Sub (node c e l r) m.tree → (1 ≤ e.slot) × (e.slot ≤ m.capacity)
      seen c e l r u = tree-within g e.slot (omega (arith, sub-occurs e.slot u, top-occurs c e l r))

      nodes-of : (t : Tree) → Sub t m.tree → Nodes s t
      nodes-of nil u = tt
      nodes-of (node c e l r) u =
          let w = seen c e l r u in
          (a.slots e.slot w.0 w.1 ∙ rw (found (tree-once g) u), nodes-of l (sub-left u), nodes-of r (sub-right u))

      marks-of : (t : Tree) → Sub t m.tree → Marks d s t
      marks-of nil u = tt
      marks-of (node c e l r) u =
          let w = seen c e l r u in
          (a.marks e.slot w.0 w.1 ∙ rw (found (tree-once g) u), marks-of l (sub-left u), marks-of r (sub-right u))

      apart : (x : ℕ) → 1 ≤ occurs x m.free → subtree_at x m.tree ≡ none
      apart x p = not-seated x m.tree (omega (arith, once-sum g x, numbers-most x m.capacity))

      in-chain : (x : ℕ) → 1 ≤ occurs x m.free → slot s x ≡ in_chain x m.free
      in-chain x p = let w = chain-within g x p in a.slots x w.0 w.1 ∙ rw (apart x p)

      blank : (x : ℕ) → 1 ≤ occurs x m.free → mark_of s x ≡ no_mark
      blank x p = let w = chain-within g x p in a.marks x w.0 w.1 ∙ rw (apart x p)

      chain-of : (f : List ℕ) → ((x : ℕ) → occurs x f ≤ 1) → ((x : ℕ) → 1 ≤ occurs x f → (slot s x ≡ in_chain x f) × (mark_of s x ≡ no_mark)) → Chain s f
      chain-of [] o h = tt
      chain-of (y ∷ f) o h =
          let b = h y (omega (arith, is-self y)) in
          let ne : (x : ℕ) → 1 ≤ occurs x f → x ≢ y = λ x p q. omega (arith, o x, ap (λ (z : ℕ). is z y) q, is-self y) in (
            b.0 ∙ rw (eq-eqb y y refl),
            b.1,
            chain-of f (λ x. omega (arith, o x)) (λ x p. let c = h x (omega arith) in (c.0 ∙ rw (ne_eqb x y (ne x p)), c.1)),
          )
