-- What `flip_colors` asks of its calls, and what it leaves.
use mathlib.Core.Path.{◌≡◌, refl, sym, ap, subst, ◌∙◌}
use mathlib.Core.Bool.{Bool, not}
use mathlib.Core.Logic.{◌≢◌, inl, inr}
use mathlib.Core.List.{List}
use mathlib.Core.Option.{some}
use Prim.Native.Nat.{ℕ, ◌+◌, ◌≤◌}
use native.Mathlib.Omega.{arith}
use lib.ListN.{length}
use Rattle.slots.specs.Layout.{current, HasSlot, Slot, slot, mark_of, node_slot}
use Rattle.slots.specs.Setters.{with_red, set_red, Keeps}
use Rattle.slots.proofs.Writing.{keeps-trans, keeps-more, keeps-has, wrote-red}
use Rattle.llrb.specs.Tree.{Entry, Tree, nil, node, size}
use Rattle.llrb.specs.Panic.{flip_colors_p}
use Rattle.llrb.specs.Digests.{subtree_digest}
use Rattle.store.specs.Counts.{is}
use Rattle.store.specs.Model.{root}
use Rattle.store.specs.Sound.{subtree_mark}
use Rattle.rb_nodes.specs.Heap.{count, Held, Marked, Turn}
use Rattle.rb_nodes.proofs.Counts.{is_eq}
use Rattle.rb_nodes.proofs.Heap.{frame-held, marked_by, wrote-marks, node-held, slot-top, top_in, kid-left, kid-right, held-left, held-right}
use Rattle.rb_nodes.proofs.Hashing.{mark-colour}
use Rattle.rb_nodes.proofs.Steps.{recolour}
use Rattle.rb_nodes.proofs.Option.{no, same}

pub at-flip_colors : (P : Tree → Tree → Type 0) → ((c : Bool) (e : Entry) (d : Bool) (x : Entry) (ll lr : Tree) (b : Bool) (y : Entry) (rl rr : Tree)
    → P (node c e (node d x ll lr) (node b y rl rr)) (node (not c) e (node (not d) x ll lr) (node (not b) y rl rr))) → (t u : Tree) → flip_colors_p t ≡ some u → P t u
at-flip_colors P f nil u w = absurd (no w)
at-flip_colors P f (node c e nil r) u w = absurd (no w)
at-flip_colors P f (node c e (node d x ll lr) nil) u w = absurd (no w)
at-flip_colors P f (node c e (node d x ll lr) (node b y rl rr)) u w = subst (P (node c e (node d x ll lr) (node b y rl rr))) (same w) (f c e d x ll lr b y rl rr)

-- colours are in no mark
colours : (c c' d d' b b' : Bool) (e x y : Entry) (ll lr rl rr : Tree)
    → subtree_mark current (node c e (node d x ll lr) (node b y rl rr)) ≡ subtree_mark current (node c' e (node d' x ll lr) (node b' y rl rr))
unfolding subtree_digest size
colours c c' d d' b b' e x y ll lr rl rr = refl

recoloured : (s : List ℕ) (c c' d d' b b' : Bool) (e x y : Entry) (ll lr rl rr : Tree)
    → Marked s (node c e (node d x ll lr) (node b y rl rr)) → Marked s (node c' e (node d' x ll lr) (node b' y rl rr))
recoloured s c c' d d' b b' e x y ll lr rl rr (inl v) = inl (v.0, recolour s d d' x ll lr v.1, recolour s b b' y rl rr v.2)
recoloured s c c' d d' b b' e x y ll lr rl rr (inr v) =
    inr (
      v.0 ∙ colours c c' d d' b b' e x y ll lr rl rr,
      (v.1.0 ∙ mark-colour d d' x ll lr, v.1.1, v.1.2),
      (v.2.0 ∙ mark-colour b b' y rl rr, v.2.1, v.2.2),
    )

pub record Three (s : List ℕ) (h l r : ℕ) : Type 0 where
  pub h-in : HasSlot (length s) h
  pub l-in : HasSlot (length s) l
  pub r-in : HasSlot (length s) r

module _ {s : List ℕ} {h l r : ℕ} (el : l ≡ (slot s h).left) (er : r ≡ (slot s h).right) where
  pub flip-facts : (t u : Tree) → Held s h t → flip_colors_p t ≡ some u → Three s h l r
  flip-facts t u a w =
      at-flip_colors (λ t u. Held s h t → Three s h l r) (λ c e d x ll lr b y rl rr a. record { h-in = top_in a; l-in = top_in (held-left a el); r-in = top_in (held-right a er) }) t u w a

  module _ {s1 s2 s3 : List ℕ} (e1 : s1 ≡ set_red s h (not (slot s h).red)) (e2 : s2 ≡ set_red s1 l (not (slot s1 l).red)) (e3 : s3 ≡ set_red s2 r (not (slot s2 r).red)) where
    flipped : (c : Bool) (e : Entry) (d : Bool) (x : Entry) (ll lr : Tree) (b : Bool) (y : Entry) (rl rr : Tree) → Held s h (node c e (node d x ll lr) (node b y rl rr))
        → Turn Marked Marked s s3 h (node c e (node d x ll lr) (node b y rl rr)) (node (not c) e (node (not d) x ll lr) (node (not b) y rl rr))
    flipped c e d x ll lr b y rl rr a =
        let al = held-left a el in
        let ar = held-right a er in
        let hi = top_in a in
        let li = top_in al in
        let ri = top_in ar in
        let w1 = wrote-red hi e1 in
        let l1 = keeps-has w1.kept li in
        let r1 = keeps-has w1.kept ri in
        let w2 = wrote-red l1 e2 in
        let r2 = keeps-has w2.kept r1 in
        let w3 = wrote-red r2 e3 in
        let h1 = keeps-has w1.kept hi in
        let h≢l : h ≢ l = λ q. omega (arith, a.once h, is_eq (sym a.top), is_eq (q ∙ sym al.top)) in
        let h≢r : h ≢ r = λ q. omega (arith, a.once h, is_eq (sym a.top), is_eq (q ∙ sym ar.top)) in
        let l≢r : l ≢ r = λ q. omega (arith, a.once l, is_eq (sym al.top), is_eq (q ∙ sym ar.top)) in
        let vl : slot s1 l ≡ node_slot d x.key x.value (root ll) (root lr) = w1.kept.slots l li (λ q. h≢l (sym q)) ∙ slot-top al in
        let vr : slot s2 r ≡ node_slot b y.key y.value (root rl) (root rr) = w2.kept.slots r r1 (λ q. l≢r (sym q)) ∙ w1.kept.slots r ri (λ q. h≢r (sym q)) ∙ slot-top ar in
        let has_h : slot s3 h ≡ node_slot (not c) e.key e.value x.slot y.slot =
        w3.kept.slots h (keeps-has w2.kept h1) h≢r ∙ w2.kept.slots h h1 h≢l ∙ w1.here ∙ ap (λ (v : Slot). with_red (not v.red) v) (slot-top a) in
        let has-l : slot s3 l ≡ node_slot (not d) x.key x.value (root ll) (root lr) =
        w3.kept.slots l (keeps-has w2.kept l1) l≢r ∙ w2.here ∙ ap (λ (v : Slot). with_red (not v.red) v) vl in
        let has_r : slot s3 r ≡ node_slot (not b) y.key y.value (root rl) (root rr) = w3.here ∙ ap (λ (v : Slot). with_red (not v.red) v) vr in
        let g : Keeps (λ j. 1 ≤ is j h + (is j l + is j r)) s s3 =
        keeps-trans (keeps-trans
        (keeps-more (λ j q. omega (arith, is_eq q)) w1.kept)
        (keeps-more (λ j q. omega (arith, is_eq q)) w2.kept))
        (keeps-more (λ j q. omega (arith, is_eq q)) w3.kept) in
        let off : (t : Tree) → ((j : ℕ) → count j t ≤ count j ll + (count j lr + (count j rl + count j rr))) → (j : ℕ) → 1 ≤ count j t → 1 ≤ is j h + (is j l + is j r) → ⊥ =
        λ t i j p q. omega (arith, i j, a.once j, ap (is j) a.top, ap (is j) al.top, ap (is j) ar.top) in
        let hl : Held s3 l (node (not d) x ll lr) =
        node-held x al.top (keeps-has g li) has-l (frame-held ll g (kid-left al) (off ll (λ j. omega arith))) (frame-held lr g (kid-right al) (off lr (λ j. omega arith))) al.once in
        let hr : Held s3 r (node (not b) y rl rr) =
        node-held y ar.top (keeps-has g ri) has_r (frame-held rl g (kid-left ar) (off rl (λ j. omega arith))) (frame-held rr g (kid-right ar) (off rr (λ j. omega arith))) ar.once in
        let digs : (j : ℕ) → HasSlot (length s) j → mark_of s3 j ≡ mark_of s j =
        λ j i. let i1 = keeps-has w1.kept i in wrote-marks w3 j (keeps-has w2.kept i1) ∙ wrote-marks w2 j i1 ∙ wrote-marks w1 j i in
        record {
          held = node-held e a.top (keeps-has g hi) has_h hl hr a.once;
          keeps = keeps-more (λ j p. omega (arith, ap (is j) a.top, ap (is j) al.top, ap (is j) ar.top)) g;
          slots = λ j. omega arith;
          dig = λ v.
              recoloured s3 c (not c) d (not d) b (not b) e x y ll lr rl rr
              (marked_by s s3 (node c e (node d x ll lr) (node b y rl rr)) (λ j p. digs j (a.inside j p)) v);
        }

    pub flip-done : (t u : Tree) → Held s h t → flip_colors_p t ≡ some u → Turn Marked Marked s s3 h t u
    flip-done t u a w = at-flip_colors (λ t u. Held s h t → Turn Marked Marked s s3 h t u) flipped t u w a
