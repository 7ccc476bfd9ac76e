-- Why no slot stands twice, with no marks kept: keys that rise strictly name a slot once, a chain that ends names a slot once, and
-- live bits keep tree and chain apart. So tree and chain, as many slots as the capacity, are all slots, each once.
use mathlib.Core.Path.{◌≡◌, refl, sym, ap, ◌∙◌}
use mathlib.Core.Bool.{Bool, true, false, true≢false}
use mathlib.Core.Logic.{◌≢◌, ◌⊎◌, inl, inr, ⊎_elim}
use mathlib.Core.List.{List, [], ◌∷◌, ◌++◌}
use Prim.Native.Nat.{ℕ, zero, suc, ◌+◌, ◌≤◌, ◌<◌}
use native.Mathlib.Nat.{not-suc-le-zero, eq-or-lt_of_le}
use native.Mathlib.Omega.{arith}
use lib.Dec.{eqb}
use lib.ListN.{length, length-append}
use borrow.Author.Tests.{eqb-true, eqb-false}
use Rattle.key_order.specs.Order.{cmp}
use Rattle.key_order.proofs.Laws.{cmp-refl, lt≢eq}
use Rattle.slots.specs.Layout.{Slot, slot, key_of}
use Rattle.llrb.specs.Tree.{Entry, Tree, nil, node, entries, size}
use Rattle.llrb.specs.Sorted.{Above, Sorted}
use Rattle.llrb.specs.Map.{slots}
use Rattle.store.specs.Counts.{is, occurs, numbers_to}
use Rattle.store.specs.Counting.{is-self, is-other, is_same, occurs-append, either, numbers-in, numbers-low, numbers-high}
use Rattle.store.specs.Model.{slots_of, root}
use Rattle.store.specs.Sound.{Nodes, Chain}
use Rattle.slots.proofs.Writing.{node-key}
use Rattle.store.proofs.Trees.{size-slots, slots-node}
use Rattle.judge.specs.Steps.{Within, Inside}
use Rattle.judge.proofs.Unique.{chain_same}

-- ---- the pigeonhole

-- f 1 + f 2 + .. + f n
abbrev total : ℕ → (ℕ → ℕ) → ℕ
total zero f = 0
total (suc n) f = f (suc n) + total n f

total-zero : (n : ℕ) → total n (λ x. 0) ≡ 0
total-zero zero = refl
total-zero (suc n) = omega (arith, total-zero n)

total-add : (n : ℕ) (f g : ℕ → ℕ) → total n (λ x. f x + g x) ≡ total n f + total n g
total-add zero f g = refl
total-add (suc n) f g = omega (arith, total-add n f g)

beyond : (n y : ℕ) → n < y → total n (λ x. is x y) ≡ 0
beyond zero y p = refl
beyond (suc n) y p =
    let ne : suc n ≢ y = λ e. omega arith in
    let lt : n < y = omega arith in
    omega (arith, is-other (suc n) y ne, beyond n y lt)

total-is : (n y : ℕ) → 1 ≤ y → y ≤ n → total n (λ x. is x y) ≡ 1
total-is zero y p q = absurd (omega arith)
total-is (suc n) y p q =
    ⊎_elim
    (λ (e : y ≡ suc n). let lt : n < y = omega arith in omega (arith, ap (λ z. is (suc n) z) e, is-self (suc n), beyond n y lt))
    (λ (l : y < suc n). let ne : suc n ≢ y = λ e. omega arith in let le : y ≤ n = omega arith in omega (arith, is-other (suc n) y ne, total-is n y p le))
    (eq-or-lt_of_le q)

-- n numbers, none above 1, whose sum is n, are all 1
total-most : (n : ℕ) (f : ℕ → ℕ) → ((x : ℕ) → f x ≤ 1) → total n f ≤ n
total-most zero f p = omega arith
total-most (suc n) f p = omega (arith, p (suc n), total-most n f p)

all_one : (n : ℕ) (f : ℕ → ℕ) → ((x : ℕ) → f x ≤ 1) → total n f ≡ n → (x : ℕ) → 1 ≤ x → x ≤ n → f x ≡ 1
all_one zero f p e x a b = absurd (omega arith)
all_one (suc n) f p e x a b =
    let top : f (suc n) ≡ 1 = omega (arith, p (suc n), total-most n f p) in
    let rest : total n f ≡ n = omega (arith, p (suc n), total-most n f p) in
    ⊎_elim (λ (q : x ≡ suc n). rw q top) (λ (q : x < suc n). all_one n f p rest x a (omega arith)) (eq-or-lt_of_le b)

total-occurs : (n : ℕ) (L : List ℕ) → Inside n L → total n (λ x. occurs x L) ≡ length L
total-occurs n [] a = total-zero n
total-occurs n (y ∷ L) a =
    total-add n (λ x. is x y) (λ x. occurs x L) ∙ omega (arith, total-is n y a.0.0 a.0.1, total-occurs n L a.1)

-- a list has only what is inside
outside : (x n : ℕ) (L : List ℕ) → Inside n L → (1 ≤ x → x ≤ n → ⊥) → occurs x L ≡ 0
outside x n [] a o = refl
outside x n (y ∷ L) a o =
    let ne : x ≢ y = λ e. o (omega (arith, a.0.0)) (omega (arith, a.0.1)) in
    omega (arith, is-other x y ne, outside x n L a.1 o)

-- n of the numbers 1 to n, none twice, are all of them
pub pigeonhole : (n : ℕ) (L : List ℕ) → Inside n L → ((x : ℕ) → occurs x L ≤ 1) → length L ≡ n → (x : ℕ) → occurs x L ≡ occurs x (numbers_to n)
pigeonhole n L a p e x = at x (sides x n)
  where
    sides : (x n : ℕ) → (x ≤ n) ⊎ (n < x)
    sides zero n = inl (omega arith)
    sides (suc x) zero = inr (omega arith)
    sides (suc x) (suc n) = ⊎_elim (λ (h : x ≤ n). inl (omega arith)) (λ (h : n < x). inr (omega arith)) (sides x n)

    at : (x : ℕ) → (x ≤ n) ⊎ (n < x) → occurs x L ≡ occurs x (numbers_to n)
    at zero h = outside 0 n L a (λ u v. not-suc-le-zero u) ∙ sym (numbers-low n)
    at (suc x) (inl h) = all_one n (λ z. occurs z L) p (total-occurs n L a ∙ e) (suc x) (omega arith) h ∙ sym (numbers-in (suc x) n (omega arith) h)
    at (suc x) (inr h) = outside (suc x) n L a (λ u v. omega arith) ∙ sym (numbers-high (suc x) n h)

-- ---- the tree

abbrev Keyed : List ℕ → List Entry → Type 0
Keyed s [] = Unit {0}
Keyed s (e ∷ L) = (key_of (slot s e.slot) ≡ e.key) × Keyed s L

keyed-append : (s : List ℕ) (L R : List Entry) → Keyed s L → Keyed s R → Keyed s (L ++ R)
keyed-append s [] R p q = q
keyed-append s (e ∷ L) R p q = (p.0, keyed-append s L R p.1 q)

keyed : (s : List ℕ) (t : Tree) → Nodes s t → Keyed s (entries t)
keyed s nil a = tt
keyed s (node c e l r) a =
    keyed-append s (entries l) (e ∷ entries r) (keyed s l a.1) (ap (λ (z : Slot). key_of z) a.0 ∙ node-key c e.key e.value (root l) (root r), keyed s r a.2)

-- a slot whose key is below all of them does not come
gone : (s : List ℕ) (x : ℕ) (L : List Entry) → Keyed s L → Above (key_of (slot s x)) L → occurs x (slots L) ≡ 0
gone s x [] k p = refl
gone s x (e ∷ L) k p =
    let ne : x ≢ e.slot = λ h. lt≢eq p.0 (ap (cmp (key_of (slot s x))) (sym (ap (λ (z : ℕ). key_of (slot s z)) h ∙ k.0)) ∙ cmp-refl (key_of (slot s x))) in
    omega (arith, is-other x e.slot ne, gone s x L k.1 p.1)

once-list : (s : List ℕ) (x : ℕ) (L : List Entry) → Keyed s L → Sorted L → occurs x (slots L) ≤ 1
once-list s x [] k p = omega arith
once-list s x (e ∷ L) k p = go (eqb x e.slot) refl (once-list s x L k.1 p.1)
  where
    go : (o : Bool) → eqb x e.slot ≡ o → occurs x (slots L) ≤ 1 → is x e.slot + occurs x (slots L) ≤ 1
    go true h i =
        let h' : x ≡ e.slot = eqb-true x e.slot h in
        let ek : key_of (slot s x) ≡ e.key = ap (λ (z : ℕ). key_of (slot s z)) h' ∙ k.0 in
        omega (arith, gone s x L k.1 (rw ek p.0), ap (λ z. is z e.slot) h', is-self e.slot)
    go false h i = omega (arith, is-other x e.slot (eqb-false x e.slot h))

pub tree-once : (s : List ℕ) (t : Tree) (x : ℕ) → Nodes s t → Sorted (entries t) → occurs x (slots_of t) ≤ 1
tree-once s t x a p = once-list s x (entries t) (keyed s t a) p

-- ---- the chain

again : (s : List ℕ) (n x : ℕ) (f g : List ℕ) → Inside n (x ∷ f) → Inside n g → Chain s (x ∷ f) → Chain s g → length g ≤ length f → occurs x g ≡ 0
again s n x f [] v w a b p = refl
again s n x f (y ∷ g) v w a b p =
    let ne : x ≢ y = λ h. omega (arith, ap length (chain_same s n (x ∷ f) (y ∷ g) v w a b h)) in
    omega (arith, is-other x y ne, again s n x f g v w.1 a b.2 (omega arith))

pub chain-once : (s : List ℕ) (n : ℕ) (f : List ℕ) (x : ℕ) → Inside n f → Chain s f → occurs x f ≤ 1
chain-once s n [] x v a = omega arith
chain-once s n (y ∷ f) x v a = go (eqb x y) refl (chain-once s n f x v.1 a.2)
  where
    go : (o : Bool) → eqb x y ≡ o → occurs x f ≤ 1 → is x y + occurs x f ≤ 1
    go true h i =
        let h' : x ≡ y = eqb-true x y h in
        let z : occurs y f ≡ 0 = again s n y f f v v.1 a a.2 (omega arith) in
        omega (arith, ap (λ v. is v y) h', is-self y, ap (λ v. occurs v f) h')
    go false h i = omega (arith, is-other x y (eqb-false x y h))

-- ---- tree and chain

tree-live : (s : List ℕ) (t : Tree) (x : ℕ) → Nodes s t → 1 ≤ occurs x (slots_of t) → (slot s x).live ≡ true
tree-live s nil x a p = absurd (not-suc-le-zero p)
tree-live s (node c e l r) x a p =
    ⊎_elim
    (λ (h : 1 ≤ is x e.slot). ap (λ (z : ℕ). (slot s z).live) (is_same x e.slot h) ∙ ap (λ (z : Slot). z.live) a.0)
    (λ (h : 1 ≤ occurs x (slots_of l) + occurs x (slots_of r)).
    ⊎_elim (λ (g : 1 ≤ occurs x (slots_of l)). tree-live s l x a.1 g) (λ (g : 1 ≤ occurs x (slots_of r)). tree-live s r x a.2 g)
    (either (occurs x (slots_of l)) (occurs x (slots_of r)) h))
    (either (is x e.slot) (occurs x (slots_of l) + occurs x (slots_of r)) (omega (arith, slots-node x c e l r)))

chain-dead : (s : List ℕ) (f : List ℕ) (x : ℕ) → Chain s f → 1 ≤ occurs x f → (slot s x).live ≡ false
chain-dead s [] x a p = absurd (not-suc-le-zero p)
chain-dead s (y ∷ f) x a p =
    ⊎_elim
    (λ (h : 1 ≤ is x y). ap (λ (z : ℕ). (slot s z).live) (is_same x y h) ∙ ap (λ (z : Slot). z.live) a.0)
    (λ (h : 1 ≤ occurs x f). chain-dead s f x a.2 h)
    (either (is x y) (occurs x f) p)

inside-append : (n : ℕ) (L M : List ℕ) → Inside n L → Inside n M → Inside n (L ++ M)
inside-append n [] M a b = b
inside-append n (x ∷ L) M a b = (a.0, inside-append n L M a.1 b)

inside-slots : (n : ℕ) (L R : List Entry) → Inside n (slots L) → Inside n (slots R) → Inside n (slots (L ++ R))
inside-slots n [] R a b = b
inside-slots n (e ∷ L) R a b = (a.0, inside-slots n L R a.1 b)

inside-tree : (n : ℕ) (t : Tree) → Within n t → Inside n (slots_of t)
inside-tree n nil a = tt
inside-tree n (node c e l r) a = inside-slots n (entries l) (e ∷ entries r) (inside-tree n l a.1) (a.0, inside-tree n r a.2)

module _ (s : List ℕ) (n : ℕ) (t : Tree) (f : List ℕ) (w : Within n t) (v : Inside n f) (a : Nodes s t) (b : Chain s f) (p : Sorted (entries t)) where
  apart : (x : ℕ) → occurs x (slots_of t ++ f) ≤ 1
  apart x = go (occurs x (slots_of t)) (occurs x f) refl refl (tree-once s t x a p) (chain-once s n f x v b)
    where
      go : (i j : ℕ) → occurs x (slots_of t) ≡ i → occurs x f ≡ j → i ≤ 1 → j ≤ 1 → occurs x (slots_of t ++ f) ≤ 1
      go zero j g h y z = omega (arith, occurs-append x (slots_of t) f)
      go (suc i) zero g h y z = omega (arith, occurs-append x (slots_of t) f)
      go (suc i) (suc j) g h y z = absurd (true≢false (sym (tree-live s t x a (omega arith)) ∙ chain-dead s f x b (omega arith)))

  -- together they name the slots 1 to n, each once
  pub covered : size t + length f ≡ n → (x : ℕ) → occurs x (slots_of t ++ f) ≡ occurs x (numbers_to n)
  covered e =
      pigeonhole n (slots_of t ++ f) (inside-append n (slots_of t) f (inside-tree n t w) v) apart
      (length-append (slots_of t) f ∙ omega (arith, size-slots t))
