-- WHAT IS CUT LESS TELLS NO LESS: of a key of which a tree tells whether it is there, a tree that it is a pruning of tells it too.
use Prim.Native.Nat.{ℕ, ◌≤◌}
use mathlib.Core.Path.{◌≡◌, refl, sym, ap, subst, ◌∙◌}
use mathlib.Core.Logic.{inl, inr}
use mathlib.Core.List.{List, [], ◌∷◌, ◌++◌, append_assoc, append-nil}
use lib.ListN.{length}
use Rattle.std.specs.Prelude.{Option, Some, None}
use Rattle.key_order.specs.Order.{Key}
use Rattle.hash_tree.specs.HashTree.{HashTree, Empty, Fork, Labeled, Leaf, Pruned}
use Rattle.hash_tree.specs.Written.{write, Lawful, max_depth}
use Rattle.hash_tree.specs.Prune.{Prunes, cut, same, fork, labeled}
use Rattle.lookup.specs.declared.Looked.{Looked}
use Rattle.lookup.specs.declared.Looked.TheVariants as looked
use Rattle.lookup.specs.Answer.{lookup_answer}
use Rattle.lookup.specs.Flatten.{flatten}
use Rattle.lookup.specs.Lookup.{between, before, after, nothing, leaf, Known, Says, WellFormed}
use Rattle.lookup.proofs.Promises.{says-answered, known-answered}

-- the list M is L with what is hidden opened: each Pruned stands for a stretch, maybe none; labels and Leafs stay
abbrev Opens : List HashTree → List HashTree → Type 0
Opens [] M = M ≡ []
Opens (Empty ∷ L) M = ⊥
Opens (Fork l r ∷ L) M = ⊥
Opens (Labeled k x ∷ L) M = (y : HashTree) × (N : List HashTree) × (M ≡ Labeled k y ∷ N) × Opens L N
Opens (Leaf v ∷ L) M = (N : List HashTree) × (M ≡ Leaf v ∷ N) × Opens L N
Opens (Pruned d ∷ L) M = (S : List HashTree) × (N : List HashTree) × (M ≡ S ++ N) × Opens L N

opens-append : (A B C D : List HashTree) → Opens A B → Opens C D → Opens (A ++ C) (B ++ D)
opens-append [] B C D p q = rw p q
opens-append (Empty ∷ A) B C D p q = absurd p
opens-append (Fork l r ∷ A) B C D p q = absurd p
opens-append (Labeled k x ∷ A) B C D p q = (p.0, p.1 ++ D, ap (λ (X : List HashTree). X ++ D) p.2, opens-append A p.1 C D p.3 q)
opens-append (Leaf v ∷ A) B C D p q = (p.0 ++ D, ap (λ (X : List HashTree). X ++ D) p.1, opens-append A p.0 C D p.2 q)
opens-append (Pruned d ∷ A) B C D p q =
    (p.0, p.1 ++ D, ap (λ (X : List HashTree). X ++ D) p.2 ∙ append_assoc p.0 p.1 D, opens-append A p.1 C D p.3 q)

opens-self : (t : HashTree) → Opens (flatten t) (flatten t)
opens-self Empty = refl
opens-self (Fork l r) = opens-append (flatten l) (flatten l) (flatten r) (flatten r) (opens-self l) (opens-self r)
opens-self (Labeled k t) = (t, [], refl, refl)
opens-self (Leaf v) = ([], refl, refl)
opens-self (Pruned d) = (Pruned d ∷ [], [], refl, refl)

prunes-opens : {u t : HashTree} → Prunes u t → Opens (flatten u) (flatten t)
prunes-opens (cut t) = (flatten t, [], sym (append-nil (flatten t)), refl)
prunes-opens (same t) = opens-self t
prunes-opens (fork {l = l} {r = r} {l' = x} {r' = y} p q) = opens-append (flatten x) (flatten l) (flatten y) (flatten r) (prunes-opens p) (prunes-opens q)
prunes-opens (labeled b {t = t} p) = (t, [], refl, refl)

opens-split : (A B M : List HashTree) → Opens (A ++ B) M → (S : List HashTree) × (N : List HashTree) × (M ≡ S ++ N) × Opens B N
opens-split [] B M c = ([], M, refl, c)
opens-split (Empty ∷ A) B M c = absurd c
opens-split (Fork l r ∷ A) B M c = absurd c
opens-split (Labeled k x ∷ A) B M c =
    let r = opens-split A B c.1 c.3 in
    (Labeled k c.0 ∷ r.0, r.1, c.2 ∙ ap {B = List HashTree} (λ (X : List HashTree). Labeled k c.0 ∷ X) r.2, r.3)
opens-split (Leaf v ∷ A) B M c =
    let r = opens-split A B c.0 c.2 in
    (Leaf v ∷ r.0, r.1, c.1 ∙ ap {B = List HashTree} (λ (X : List HashTree). Leaf v ∷ X) r.2, r.3)
opens-split (Pruned d ∷ A) B M c =
    let r = opens-split A B c.1 c.3 in
    (c.0 ++ r.0, r.1, c.2 ∙ ap (λ (X : List HashTree). c.0 ++ X) r.2 ∙ sym (append_assoc c.0 r.0 r.1), r.3)

-- a label stays, with all that follows it opened
opens-label : (A B : List HashTree) (k : Key) (x : HashTree) (M : List HashTree) → Opens (A ++ (Labeled k x ∷ B)) M
    → (S : List HashTree) × (y : HashTree) × (N : List HashTree) × (M ≡ S ++ (Labeled k y ∷ N)) × Opens B N
opens-label A B k x M c =
    let r = opens-split A (Labeled k x ∷ B) M c in
    let q = r.3 in
    (r.0, q.0, q.1, r.2 ∙ ap (λ (X : List HashTree). r.0 ++ X) q.2, q.3)

module _ (k : Key) (L M : List HashTree) (c : Opens L M) where
  on : (T : List HashTree) → L ≡ T → Opens T M
  on T e = subst (λ (X : List HashTree). Opens X M) e c

  opens-known : Known k L → Known k M
  opens-known (inl f) =
      let r = opens-label f.1.before f.1.after k f.0 M (on _ f.1.stands) in
      inl (r.1, record { before = r.0; after = r.2; stands = r.3 })
  opens-known (inr (between A B a b x y e lo hi)) =
      let r = opens-label A (Labeled b y ∷ B) a x M (on _ e) in
      let q = r.4 in
      inr (between r.0 q.1 a b r.1 q.0 (r.3 ∙ ap (λ (X : List HashTree). r.0 ++ (Labeled a r.1 ∷ X)) q.2) lo hi)
  opens-known (inr (before B b y e hi)) = let q = on (Labeled b y ∷ B) e in inr (before q.1 b q.0 q.2 hi)
  opens-known (inr (after A a x e lo)) =
      let r = opens-label A [] a x M (on _ e) in
      inr (after r.0 a r.1 (r.3 ∙ ap (λ (X : List HashTree). r.0 ++ (Labeled a r.1 ∷ X)) r.4) lo)
  opens-known (inr (nothing e)) = inr (nothing (on [] e))
  opens-known (inr (leaf v e)) = let q = on (Leaf v ∷ []) e in inr (leaf v (q.1 ∙ ap {B = List HashTree} (λ (X : List HashTree). Leaf v ∷ X) q.2))

-- ---- in lookup's words

-- an answer that is so of the list: Unknown, or the reader learns whether k is there
known-or : (k : Key) (w : List ℕ) (L : List HashTree) (y : Option Looked) → Says k w L y → (Known k L → y ≡ Some looked.Unknown) → y ≡ Some looked.Unknown
known-or k w L (Some (looked.Found n m)) h f = f (inl (h.0, h.1))
known-or k w L (Some looked.Absent) h f = f (inr h.0)
known-or k w L (Some looked.Unknown) h f = refl
known-or k w L None h f = absurd h

module _ (u t : HashTree) (p : Prunes u t) (lu : Lawful max_depth u) (lt : Lawful max_depth t) (wu : WellFormed u) (wt : WellFormed t) (k : Key) (n : length k ≤ 48) where
  -- where the one that is cut less is silent of a key, so is the one that is cut more
  pub silent-too : (lookup_answer k (write t)).looked ≡ Some looked.Unknown → (lookup_answer k (write u)).looked ≡ Some looked.Unknown
  silent-too e =
      known-or k (write u) (flatten u) (lookup_answer k (write u)).looked (says-answered k u n lu wu)
      (λ c. absurd (known-answered k t n lt wt (opens-known k (flatten u) (flatten t) (prunes-opens p) c) e))
