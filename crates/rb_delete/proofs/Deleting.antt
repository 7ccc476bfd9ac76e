-- The whole deletion. Here, and only here, the tree is asked to be lawful: by the theorem that the Rust's delete succeeds at every lawful tree.
use mathlib.Core.Path.{◌≡◌, subst}
use mathlib.Core.Bool.{true, false}
use mathlib.Core.List.{List}
use mathlib.Core.Option.{Option, none, some}
use Prim.Native.Nat.{ℕ}
use native.Mathlib.Omega.{arith}
use Rattle.key_order.specs.Order.{Key}
use Rattle.slots.specs.Layout.{slot}
use Rattle.slots.specs.Setters.{set_red}
use Rattle.llrb.specs.Tree.{Entry, Tree, nil, node, left, right, size, get, paint}
use Rattle.llrb.specs.Delete.{ready, delete}
use Rattle.llrb.specs.Panic.{assert_none, delete_go_p, delete_found_p, delete_p}
use Rattle.llrb.specs.Shape.{Lawful}
use Rattle.llrb.proofs.Safe.{delete-safe}
use Rattle.rb_nodes.specs.Heap.{Held, Full, Marked, nothing, only, Step, Turn}
use Rattle.rb_nodes.proofs.Heap.{top_in, sub-left, sub-right}
use Rattle.rb_nodes.proofs.Steps.{stay, after, before, painted}
use Rattle.rb_nodes.proofs.Colours.{Colour}
use Rattle.rb_nodes.proofs.Option.{no, same, parts}
use Rattle.rb_delete.specs.Deletes.{CanDelete, DoesDelete, CanCut}
use Rattle.rb_nodes.proofs.Comparing.{get-nil}

-- ---- the colour of the top

module _ {s : List ℕ} {h : ℕ} (t : Tree) (a : Held s h t) (f : Full t) where
  pub ready-left : {l : ℕ} → l ≡ (slot s h).left → Colour s l true → Turn Marked Marked s s h t (ready t)
  unfolding ready
  ready-left e c = let q = c (left t) (sub-left t a f e) in rw q (stay a)

  module _ {l r : ℕ} (el : l ≡ (slot s h).left) (cl : Colour s l false) (er : r ≡ (slot s h).right) where
    pub ready-right : Colour s r true → Turn Marked Marked s s h t (ready t)
    unfolding ready
    ready-right c = let q = cl (left t) (sub-left t a f el) in let z = c (right t) (sub-right t a f er) in rw (q, z) (stay a)

    pub ready-both : {s1 : List ℕ} → Colour s r false → s1 ≡ set_red s h true → Turn Marked Marked s s1 h t (ready t)
    unfolding ready
    ready-both c w = let q = cl (left t) (sub-left t a f el) in let z = c (right t) (sub-right t a f er) in rw (q, z) (painted true t a f w)

pub paint-black-none : {s : List ℕ} {h : ℕ} → h ≡ 0 → (t : Tree) → Held s h t → Turn Marked Marked s s h t (paint false t)
paint-black-none e nil a = stay a
paint-black-none e (node c x l r) a = absurd (omega (arith, (top_in a).low))

-- ---- the whole

record Ran (k : Key) (t : Tree) : Type 0 where
  u : Tree
  below : delete_go_p (size t) k (ready t) ≡ some u
  whole : paint false u ≡ delete k t

asserted : (o : Option Entry) (t : Tree) {u : Tree} → assert_none o t ≡ some u → t ≡ u
asserted none t w = same w
asserted (some e) t w = absurd (no w)

-- the one place where the theorem on lawful trees is used
ran : (k : Key) (t : Tree) (e : Entry) → Lawful t → get k t ≡ some e → Ran k t
ran k t e i w =
    let z : delete_found_p (some e) k t ≡ some (delete k t) = subst (λ (o : Option Entry). delete_found_p o k t ≡ some (delete k t)) w (unfold delete_p in delete-safe k i) in
    let m = parts (delete_go_p (size t) k (ready t)) (λ u. assert_none (get k (paint false u)) (paint false u)) z in
    record { u = m.0; below = m.1; whole = asserted (get k (paint false m.0)) (paint false m.0) m.2 }

pub found-full : (k : Key) (t : Tree) (e : Entry) → get k t ≡ some e → Full t
found-full k nil e w = let z : ◌≡◌ {A = ℕ} 0 1 = cc (get-nil k) in absurd (omega arith)
found-full k (node c x l r) e w = tt

module _ (k : Key) {s s1 : List ℕ} {h : ℕ} (R : (t : Tree) → Held s h t → Full t → Turn Marked Marked s s1 h t (ready t)) where
  pub cut-can : CanCut k s h → CanDelete k s1 h
  cut-can c =
      let p = ran k c.0 c.3 c.2 c.4 in
      (ready c.0, (R c.0 c.1 (found-full k c.0 c.3 c.4)).held, size c.0, p.u, p.below)

  module _ (fr : ℕ) {s2 : List ℕ} {p : ℕ} (G : DoesDelete k s1 s2 h p fr) where
    step : (t : Tree) (e : Entry) → Held s h t → (i : Lawful t) → (w : get k t ≡ some e) → Step Marked Marked nothing (only fr) s s2 p t (ran k t e i w).u
    step t e a i w = let x = R t a (found-full k t e w) in after x (G (ready t) (ran k t e i w).u (size t) x.held (ran k t e i w).below)

    pub cut-tree : CanCut k s h → (u : Tree) × Held s2 p u
    cut-tree c = ((ran k c.0 c.3 c.2 c.4).u, (step c.0 c.3 c.1 c.2 c.4).held)

    module _ {s3 : List ℕ} (B : (t : Tree) → Held s2 p t → Turn Marked Marked s2 s3 p t (paint false t)) where
      pub cut-done : (t : Tree) (e : Entry) → Held s h t → Lawful t → get k t ≡ some e → Step Marked Marked nothing (only fr) s s3 p t (delete k t)
      cut-done t e a i w =
          let x = step t e a i w in
          subst (Step Marked Marked nothing (only fr) s s3 p t) (ran k t e i w).whole (before x (B (ran k t e i w).u x.held))
