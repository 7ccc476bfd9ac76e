-- The least entry: found, taken out, and brought up. All that is asked of the tree is that the Rust's function succeeds at it.
use mathlib.Core.Path.{◌≡◌, refl, sym, ap, subst, ◌∙◌}
use mathlib.Core.Bool.{Bool}
use mathlib.Core.List.{List, []}
use mathlib.Core.Option.{some}
use Prim.Native.Nat.{ℕ, ◌≤◌, ◌<◌}
use native.Mathlib.Omega.{arith}
use lib.ListN.{length}
use Rattle.slots.specs.Layout.{HasSlot, Slot, slot, node_slot}
use Rattle.slots.specs.Setters.{set_left, set_right, move_entry, with_entry_of}
use Rattle.slots.proofs.Writing.{keeps-refl, wrote-entry}
use Rattle.llrb.specs.Tree.{Entry, Tree, nil, node, left, right, balance}
use Rattle.llrb.specs.Delete.{least, moved}
use Rattle.llrb.specs.Panic.{ready_left_p, balance_p, delete_min_p}
use Rattle.llrb.proofs.Safe.{safe-balance}
use Rattle.store.specs.Counts.{is}
use Rattle.store.specs.Counting.{is-self}
use Rattle.store.specs.Model.{root}
use Rattle.store.specs.Sound.{Nodes}
use Rattle.store.specs.Decode.{entries_below}
use Rattle.rb_nodes.specs.Heap.{count, Held, Full, Marked, HasFull, Under, nothing, only, Step, Turn, Does, CanAt, DoesAt, hang_right}
use Rattle.rb_nodes.proofs.Counts.{is_eq}
use Rattle.rb_nodes.proofs.Heap.{below-held, slot-top, top_in, held-nil, full-in, sub-left, sub-right, full-some, empty, lighter-left}
use Rattle.rb_nodes.proofs.Steps.{loosen, lower, top-wrote, falls-left, none_in}
use Rattle.rb_delete.specs.Deletes.{CanMin, DoesMin, renew}
use Rattle.rb_delete.proofs.Inverse.{Lefts, Leaf, leaf, min-full, min-leaf, min-lefts, least-left, least-same}
use Rattle.rb_balance.proofs.Finishing.{ok-left, can-left, finish-left, ok-right, can-right, finish-right}

-- ---- min: the way down to the least

pub record Below (s : List ℕ) (a : ℕ) (t : Tree) : Type 0 where
  pub rest : Tree
  pub held : Held s a rest
  pub full : Full rest
  pub same : (d : Entry) → least d t ≡ least d rest

-- from every tree below slot h the way has come to slot a
pub record Down (s : List ℕ) (h a : ℕ) : Type 0 where
  pub some : HasFull s h
  pub each : (t : Tree) → Held s h t → Full t → Below s a t

module _ {s : List ℕ} {h : ℕ} where
  pub down-start : HasFull s h → Down s h h
  down-start p = record { some = p; each = λ t a f. record { rest = t; held = a; full = f; same = λ d. refl } }

  at-hand : {a : ℕ} (p : Down s h a) → Below s a p.some.0
  at-hand p = p.each p.some.0 p.some.1 p.some.2

  pub down-in : {a : ℕ} → Down s h a → HasSlot (length s) a
  down-in p = let b = at-hand p in full-in b.rest b.held b.full

  module _ {a q : ℕ} (p : Down s h a) (e : q ≡ (slot s a).left) where
    pub down-left : (q ≡ 0 → ⊥) → Down s h q
    down-left ne =
        record {
          some = p.some;
          each = λ t w f.
              let b = p.each t w f in
              let l = sub-left b.rest b.held b.full e in
              let fl = full-some ne (left b.rest) l in
              record { rest = left b.rest; held = l; full = fl; same = λ d. b.same d ∙ sym (least-left d b.rest fl) };
        }

    pub down-less : entries_below s q < entries_below s a
    down-less =
        let b = at-hand p in
        omega (arith, below-held s a b.rest b.held, below-held s q (left b.rest) (sub-left b.rest b.held b.full e), lighter-left b.rest b.full)

    pub down-end : q ≡ 0 → (t : Tree) (d : Entry) → Held s h t → Full t → a ≡ (least d t).slot
    down-end z t d w f =
        let b = p.each t w f in
        sym (ap (λ (x : Entry). x.slot) (b.same d) ∙ last b.rest b.full (empty z (left b.rest) (sub-left b.rest b.held b.full e)) ∙ b.held.top)
      where
        last : (t : Tree) → Full t → left t ≡ nil → (least d t).slot ≡ root t
        last nil f n = absurd f
        last (node c x l r) f n = ap (λ (y : Tree). (least x y).slot) n

-- ---- the last of a way down

leaf-step : {s : List ℕ} {h : ℕ} {t : Tree} → Held s h t → Leaf t → Step Marked Marked nothing (only h) s s 0 t nil
leaf-step {s} a leaf =
    record {
      held = held-nil s;
      keeps = keeps-refl _ s;
      slots = λ x. omega (arith, ap (is x) a.top);
      dig = λ d. tt;
    }

leaf-least : (d : Entry) {t : Tree} → Leaf t → (least d t).slot ≡ root t
leaf-least d leaf = refl

pub gone : {s : List ℕ} {h : ℕ} {t u : Tree} → Held s h t → Leaf t × (u ≡ nil) → Step Marked Marked nothing (only h) s s 0 t u
gone {s} {h} {t} {u} a p = subst (Step Marked Marked nothing (only h) s s 0 t) (sym p.1) (leaf-step a p.0)

pub min-gone : {s : List ℕ} {h l : ℕ} (t u : Tree) (n : ℕ) (d : Entry) → Held s h t → l ≡ (slot s h).left → l ≡ 0 → delete_min_p n t ≡ some u → Step Marked Marked nothing (only (least d t).slot) s s 0 t u
min-gone {s} {h} t u n d a e z w =
    let p = min-leaf n t u (empty z (left t) (sub-left t a (min-full n t u w) e)) w in
    subst (λ (f : ℕ). Step Marked Marked nothing (only f) s s 0 t u) (sym (leaf-least d p.0 ∙ a.top)) (gone a p)

-- ---- delete_min

-- what a need may use of the way taken
pub min-way : {s : List ℕ} {h l : ℕ} (t u : Tree) (n : ℕ) → Held s h t → l ≡ (slot s h).left → (l ≡ 0 → ⊥) → delete_min_p n t ≡ some u → (f : ℕ) × Lefts (λ z. delete_min_p f z) t u
min-way t u n a e ne w = min-lefts n t u (full-some ne (left t) (sub-left t a (min-full n t u w) e)) w

pub min-in : {s s1 : List ℕ} {h g : ℕ} {t u : Tree} → Held s h t → (i : (f : ℕ) × Lefts (λ z. delete_min_p f z) t u) → Does Marked ready_left_p s s1 h g → HasSlot (length s1) g
min-in {t = t} a i R = full-in i.1.v (R t i.1.v a i.1.ready).held i.1.full

module _ {s s1 : List ℕ} {h g m : ℕ} {t u : Tree} (a : Held s h t) (i : (f : ℕ) × Lefts (λ z. delete_min_p f z) t u) (R : Does Marked ready_left_p s s1 h g) (em : m ≡ (slot s1 g).left) where
  min-down : Turn Marked Marked s s1 g t i.1.v
  min-down = R t i.1.v a i.1.ready

  min-below : Held s1 m (left i.1.v)
  min-below = sub-left i.1.v min-down.held i.1.full em

  pub min-call : {b : ℕ} → entries_below s h ≡ b → (entries_below s1 m < b) × CanMin s1 m
  min-call q = (falls-left a min-down i.1.full q em, (left i.1.v, min-below, i.0, i.1.y, i.1.below))

  module _ {s2 : List ℕ} {p : ℕ} (E : DoesMin s1 s2 m p) (d : Entry) where
    min-back : Step Marked Marked nothing (only (least d t).slot) s1 s2 p (left i.1.v) i.1.y
    min-back =
        subst (λ (x : Entry). Step Marked Marked nothing (only x.slot) s1 s2 p (left i.1.v) i.1.y) (least-same d t i.1.v i.1.ready i.1.child)
        (E (left i.1.v) i.1.y i.0 d min-below i.1.below)

    pub min-link : HasSlot (length s2) g × (p < 2048)
    min-link = ok-left (lower min-down) i.1.full (none_in min-down.held) min-back

    module _ {s3 : List ℕ} (e3 : s3 ≡ set_left s2 g p) where
      pub min-can : CanAt balance_p s3 g
      min-can = can-left (lower min-down) i.1.full (none_in min-down.held) min-back e3 i.1.up

      pub min-done : {s4 : List ℕ} {r : ℕ} → DoesAt Under balance_p s3 s4 g r → Step Marked Marked nothing (only (least d t).slot) s s4 r t u
      min-done B = finish-left (lower min-down) i.1.full (none_in min-down.held) min-back e3 i.1.up B

-- ---- the next entry comes up

record LeastIn (s : List ℕ) (d : Entry) (t : Tree) : Type 0 where
  red : Bool
  links : ℕ × ℕ
  ok : HasSlot (length s) (least d t).slot
  has : slot s (least d t).slot ≡ node_slot red (least d t).key (least d t).value links.0 links.1
  inside : 1 ≤ count (least d t).slot t

least-in : (s : List ℕ) (d : Entry) (t : Tree) → Nodes s t → ((x : ℕ) → 1 ≤ count x t → HasSlot (length s) x) → Full t → LeastIn s d t
least-in s d nil n i f = absurd f
least-in s d (node c e nil r) n i f =
    let o = is-self e.slot in
    record { red = c; links = (0, root r); ok = i e.slot (omega arith); has = n.0; inside = omega arith }
least-in s d (node c e (node b x ll lr) r) n i f =
    let q = least-in s e (node b x ll lr) n.1 (λ y p. i y (omega arith)) tt in
    record { red = q.red; links = q.links; ok = q.ok; has = q.has; inside = omega (arith, q.inside) }

module _ {s : List ℕ} {h m : ℕ} {c : Bool} {e : Entry} {l r : Tree} (a : Held s h (node c e l r)) (f : Full r) (em : m ≡ (least e r).slot) where
  next : LeastIn s e r
  next = least-in s e r a.nodes.2 (λ x p. a.inside x (omega arith)) f

  apart_next : h ≡ m → ⊥
  apart_next q =
      let z : 1 ≤ count h r = subst (λ (x : ℕ). 1 ≤ count x r) (sym (q ∙ em)) next.inside in
      omega (arith, a.once h, is_eq (sym a.top))

  next-in : HasSlot (length s) m
  next-in = subst (HasSlot (length s)) (sym em) next.ok

  renewed : {s1 : List ℕ} → s1 ≡ move_entry s h m → Turn Under Under s s1 h (node c e l r) (node c (moved e (least e r)) l r)
  renewed {s1} q =
      let w = wrote-entry (top_in a) q next-in in
      let v : slot s m ≡ node_slot next.red (least e r).key (least e r).value next.links.0 next.links.1 = ap (slot s) em ∙ next.has in
      top-wrote (moved e (least e r)) a refl
      (record { here = w.here ∙ (λ i. with_entry_of (v i) (slot-top a i)); mark = w.mark; kept = w.kept })

full-renew : (t : Tree) → Full t → Full (renew t)
full-renew nil f = absurd f
full-renew (node c e l rt) f = tt

-- for the code, at any tree
module _ {s : List ℕ} {h r : ℕ} (er : r ≡ (slot s h).right) where
  pub next-tree : (t y : Tree) (n : ℕ) → Held s h t → Full t → delete_min_p n (right t) ≡ some y → HasFull s r
  next-tree t y n a f w = (right t, sub-right t a f er, min-full n (right t) y w)

  module _ {m : ℕ} (M : (t : Tree) (d : Entry) → Held s r t → Full t → m ≡ (least d t).slot) where
    pub next-facts : (t y : Tree) (n : ℕ) → Held s h t → Full t → delete_min_p n (right t) ≡ some y → HasSlot (length s) h × (HasSlot (length s) m × (h ≡ m → ⊥))
    next-facts nil y n a f w = absurd f
    next-facts (node c e l rt) y n a f w =
        let fr = min-full n rt y w in
        let em = M rt e (sub-right (node c e l rt) a tt er) fr in
        (top_in a, (next-in a fr em, apart_next a fr em))

    module _ {s1 : List ℕ} (W : s1 ≡ move_entry s h m) where
      renew-step : (t y : Tree) (n : ℕ) → Held s h t → Full t → delete_min_p n (right t) ≡ some y → Turn Under Under s s1 h t (renew t)
      renew-step nil y n a f w = absurd f
      renew-step (node c e l rt) y n a f w = let fr = min-full n rt y w in renewed a fr (M rt e (sub-right (node c e l rt) a tt er) fr) W

      -- the tree on the right is as it was
      next-right : (t y : Tree) (n : ℕ) → Held s h t → Full t → delete_min_p n (right t) ≡ some y → Held s1 r (right t)
      next-right nil y n a f w = absurd f
      next-right (node c e l rt) y n a f w =
          let b = (renew-step (node c e l rt) y n a f w).held in
          sub-right (renew (node c e l rt)) b tt (er ∙ ap (λ (z : Slot). z.right) (slot-top a) ∙ sym (ap (λ (z : Slot). z.right) (slot-top b)))

      pub next-can : (t y : Tree) (n : ℕ) → Held s h t → Full t → delete_min_p n (right t) ≡ some y → CanMin s1 r
      next-can t y n a f w = (right t, next-right t y n a f w, n, y, w)

      module _ {s2 : List ℕ} {p : ℕ} (E : DoesMin s1 s2 r p) where
        next-back : (t y : Tree) (n : ℕ) → Held s h t → Full t → delete_min_p n (right t) ≡ some y → Step Marked Marked nothing (only m) s1 s2 p (right (renew t)) y
        next-back nil y n a f w = absurd f
        next-back (node c e l rt) y n a f w =
            let fr = min-full n rt y w in
            let b = sub-right (node c e l rt) a tt er in
            subst (λ (z : ℕ). Step Marked Marked nothing (only z) s1 s2 p rt y) (sym (M rt e b fr)) (E rt y n e (next-right (node c e l rt) y n a f w) w)

        module _ (t y : Tree) (n : ℕ) (a : Held s h t) (f : Full t) (w : delete_min_p n (right t) ≡ some y) where
          pub next-link : HasSlot (length s2) h × (p < 2048)
          next-link = ok-right (renew-step t y n a f w) (full-renew t f) (none_in (renew-step t y n a f w).held) (next-back t y n a f w)

          module _ {s3 : List ℕ} (e3 : s3 ≡ set_right s2 h p) where
            pub next-bal : CanAt balance_p s3 h
            next-bal =
                can-right (renew-step t y n a f w) (full-renew t f) (none_in (renew-step t y n a f w).held) (next-back t y n a f w) e3 (safe-balance (hang_right y (renew t)))

            pub next-done : {s4 : List ℕ} {q : ℕ} → DoesAt Under balance_p s3 s4 h q → Step Marked Marked nothing (only m) s s4 q t (balance (hang_right y (renew t)))
            next-done B =
                loosen (finish-right (renew-step t y n a f w) (full-renew t f) (none_in (renew-step t y n a f w).held) (next-back t y n a f w) e3 (safe-balance (hang_right y (renew t))) B)

-- an entry, where any will do
abbrev pub some-entry : Entry
some-entry = record { slot = 0; key = []; value = [] }
