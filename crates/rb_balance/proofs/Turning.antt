-- What `rotate_left`, `rotate_right` and `flip_colors` ask of their calls, and what they leave. Each is given by the one form of tree at which the
-- Rust's function does not panic.
use mathlib.Core.Path.{◌≡◌, sym, ap, subst, ◌∙◌}
use mathlib.Core.Bool.{Bool, true, false}
use mathlib.Core.Logic.{◌≢◌}
use mathlib.Core.List.{List}
use mathlib.Core.Option.{some}
use Prim.Native.Nat.{ℕ, ◌+◌, ◌≤◌, ◌<◌}
use native.Mathlib.Omega.{arith}
use lib.ListN.{length}
use Rattle.slots.specs.Layout.{HasSlot, Slot, slot, mark_of, node_slot}
use Rattle.slots.specs.Setters.{with_left, with_right, with_red, set_left, set_right, set_red, Keeps}
use Rattle.slots.proofs.Writing.{keeps-trans, keeps-more, keeps-has, wrote-left, wrote_right, wrote-red}
use Rattle.llrb.specs.Tree.{Entry, Tree, nil, node}
use Rattle.llrb.specs.Panic.{rotate_left_p, rotate_right_p}
use Rattle.store.specs.Counts.{is}
use Rattle.store.specs.Model.{root}
use Rattle.rb_nodes.specs.Heap.{count, Held, Marked, Sides, Under, mark_stale, Turn}
use Rattle.rb_nodes.proofs.Counts.{is_eq}
use Rattle.rb_nodes.proofs.Heap.{frame-held, marked_by, wrote-marks, node-held, slot-top, top_in, kid-left, kid-right, held-left, held-right, top_lt}
use Rattle.rb_nodes.proofs.Steps.{after, inside-left, inside-right, under, marks}
use Rattle.rb_nodes.proofs.Option.{no, same}

-- what the calls ask
pub record Facts (s : List ℕ) (h x y : ℕ) : Type 0 where
  pub h-in : HasSlot (length s) h
  pub x-in : HasSlot (length s) x
  pub y-lt : y < 2048

-- ---- rotate_left

pub at-rotate_left : (P : Tree → Tree → Type 0) → ((c : Bool) (e : Entry) (l : Tree) (x : Entry) (rl rr : Tree) → P (node c e l (node true x rl rr)) (node c x (node true e l rl) rr))
    → (t u : Tree) → rotate_left_p t ≡ some u → P t u
at-rotate_left P f nil u w = absurd (no w)
at-rotate_left P f (node c e l nil) u w = absurd (no w)
at-rotate_left P f (node c e l (node false x rl rr)) u w = absurd (no w)
at-rotate_left P f (node c e l (node true x rl rr)) u w = subst (P (node c e l (node true x rl rr))) (same w) (f c e l x rl rr)

module _ {s : List ℕ} {h x y : ℕ} {c : Bool} {e z : Entry} {l rl rr : Tree} (a : Held s h (node c e l (node true z rl rr)))
    (ex : x ≡ (slot s h).right) (ey : y ≡ (slot s x).left) where
  facts_l : Facts s h x y
  facts_l = let b = held-right a ex in record { h-in = top_in a; x-in = top_in b; y-lt = top_lt rl (held-left b ey) }

  module _ {k : Bool} {s1 s2 s3 s4 : List ℕ} (ek : k ≡ (slot s h).red) (e1 : s1 ≡ set_right s h y) (e2 : s2 ≡ set_left s1 x h) (e3 : s3 ≡ set_red s2 x k) (e4 : s4 ≡ set_red s3 h true) where
    linked_l : Turn Under (Sides Under Marked) s s4 x (node c e l (node true z rl rr)) (node c z (node true e l rl) rr)
    linked_l =
        let f = facts_l in
        let b = held-right a ex in
        let d = held-left b ey in
        let ec : k ≡ c = ek ∙ ap (λ (v : Slot). v.red) (slot-top a) in
        let w1 = wrote_right f.h-in e1 f.y-lt in
        let w2 = wrote-left (keeps-has w1.kept f.x-in) e2 f.h-in.high in
        let x2 = keeps-has w2.kept (keeps-has w1.kept f.x-in) in
        let w3 = wrote-red x2 e3 in
        let h1 = keeps-has w1.kept f.h-in in
        let h2 = keeps-has w2.kept h1 in
        let w4 = wrote-red (keeps-has w3.kept h2) e4 in
        let h≢x : h ≢ x = λ q. omega (arith, a.once h, is_eq (sym a.top), is_eq (q ∙ sym b.top)) in
        let x≢h : x ≢ h = λ q. h≢x (sym q) in
        let has_h : slot s4 h ≡ node_slot true e.key e.value (root l) (root rl) =
        w4.here ∙ ap (with_red true) (w3.kept.slots h h2 h≢x ∙ w2.kept.slots h h1 h≢x ∙ w1.here ∙ ap (with_right y) (slot-top a))
        ∙ ap (node_slot true e.key e.value (root l)) (sym d.top) in
        let has-x : slot s4 x ≡ node_slot c z.key z.value e.slot (root rr) =
        w4.kept.slots x (keeps-has w3.kept x2) x≢h ∙ w3.here ∙ ap (with_red k) (w2.here ∙ ap (with_left h) (w1.kept.slots x f.x-in x≢h ∙ slot-top b))
        ∙ (λ i. node_slot (ec i) z.key z.value (sym a.top i) (root rr)) in
        let g : Keeps (λ j. 1 ≤ is j h + is j x) s s4 =
        keeps-trans (keeps-trans (keeps-trans
        (keeps-more (λ j q. omega (arith, is_eq q)) w1.kept)
        (keeps-more (λ j q. omega (arith, is_eq q)) w2.kept))
        (keeps-more (λ j q. omega (arith, is_eq q)) w3.kept))
        (keeps-more (λ j q. omega (arith, is_eq q)) w4.kept) in
        let digs : (j : ℕ) → HasSlot (length s) j → mark_of s4 j ≡ mark_of s j =
        λ j i. let i1 = keeps-has w1.kept i in let i2 = keeps-has w2.kept i1 in wrote-marks w4 j (keeps-has w3.kept i2) ∙ wrote-marks w3 j i2 ∙ wrote-marks w2 j i1 ∙ wrote-marks w1 j i in
        let off : (t : Tree) → ((j : ℕ) → count j t ≤ count j l + (count j rl + count j rr)) → (j : ℕ) → 1 ≤ count j t → 1 ≤ is j h + is j x → ⊥ =
        λ t i j p q. omega (arith, i j, a.once j, ap (is j) a.top, ap (is j) b.top) in
        let low : Held s4 h (node true e l rl) =
        node-held e a.top (keeps-has g f.h-in) has_h
        (frame-held l g (kid-left a) (off l (λ j. omega arith)))
        (frame-held rl g (kid-left (kid-right a)) (off rl (λ j. omega arith)))
        (λ j. omega (arith, a.once j)) in
        record {
          held = node-held z b.top (keeps-has g f.x-in) has-x low (frame-held rr g (kid-right (kid-right a)) (off rr (λ j. omega arith))) (λ j. omega (arith, a.once j));
          keeps = keeps-more (λ j p. omega (arith, ap (is j) a.top, ap (is j) b.top)) g;
          slots = λ j. omega arith;
          dig = λ v. let i = under s (node true z rl rr) v.1 in (
            (marked_by s s4 l (λ j q. digs j (a.inside j (omega arith))) v.0, marked_by s s4 rl (λ j q. digs j (a.inside j (omega arith))) i.0),
            marked_by s s4 rr (λ j q. digs j (a.inside j (omega arith))) i.1,
          );
        }

    down_l : h ≡ (slot s4 x).left
    down_l = sym (ap (λ (v : Slot). v.left) (slot-top linked_l.held) ∙ a.top)

    lower_l : Held s4 h (node true e l rl)
    lower_l = held-left linked_l.held down_l

    upper_l : {s5 : List ℕ} → s5 ≡ mark_stale s4 h → Turn Under Under s s5 x (node c e l (node true z rl rr)) (node c z (node true e l rl) rr)
    upper_l e5 = after linked_l (inside-left marked_by linked_l.held (marks (node true e l rl) lower_l tt e5) down_l)

    whole_l : {s5 s6 : List ℕ} → s5 ≡ mark_stale s4 h → s6 ≡ mark_stale s5 x → Turn Under Marked s s6 x (node c e l (node true z rl rr)) (node c z (node true e l rl) rr)
    whole_l e5 e6 = after (upper_l e5) (marks (node c z (node true e l rl) rr) (upper_l e5).held tt e6)

-- for the code
module _ {s : List ℕ} {h x y : ℕ} (ex : x ≡ (slot s h).right) (ey : y ≡ (slot s x).left) where
  pub left-facts : (t u : Tree) → Held s h t → rotate_left_p t ≡ some u → Facts s h x y
  left-facts t u a w = at-rotate_left (λ t u. Held s h t → Facts s h x y) (λ c e l z rl rr a. facts_l a ex ey) t u w a

  module _ {k : Bool} {s1 s2 s3 s4 : List ℕ} (ek : k ≡ (slot s h).red) (e1 : s1 ≡ set_right s h y) (e2 : s2 ≡ set_left s1 x h) (e3 : s3 ≡ set_red s2 x k) (e4 : s4 ≡ set_red s3 h true) where
    pub left-done : {s5 s6 : List ℕ} → s5 ≡ mark_stale s4 h → s6 ≡ mark_stale s5 x → (t u : Tree) → Held s h t → rotate_left_p t ≡ some u → Turn Under Marked s s6 x t u
    left-done {s5} {s6} e5 e6 t u a w =
        at-rotate_left (λ t u. Held s h t → Turn Under Marked s s6 x t u) (λ c e l z rl rr a. whole_l a ex ey ek e1 e2 e3 e4 e5 e6) t u w a

-- ---- rotate_right

pub at-rotate_right : (P : Tree → Tree → Type 0) → ((c : Bool) (e x : Entry) (ll lr r : Tree) → P (node c e (node true x ll lr) r) (node c x ll (node true e lr r)))
    → (t u : Tree) → rotate_right_p t ≡ some u → P t u
at-rotate_right P f nil u w = absurd (no w)
at-rotate_right P f (node c e nil r) u w = absurd (no w)
at-rotate_right P f (node c e (node false x ll lr) r) u w = absurd (no w)
at-rotate_right P f (node c e (node true x ll lr) r) u w = subst (P (node c e (node true x ll lr) r)) (same w) (f c e x ll lr r)

module _ {s : List ℕ} {h x y : ℕ} {c : Bool} {e z : Entry} {ll lr r : Tree} (a : Held s h (node c e (node true z ll lr) r))
    (ex : x ≡ (slot s h).left) (ey : y ≡ (slot s x).right) where
  facts_r : Facts s h x y
  facts_r = let b = held-left a ex in record { h-in = top_in a; x-in = top_in b; y-lt = top_lt lr (held-right b ey) }

  module _ {k : Bool} {s1 s2 s3 s4 : List ℕ} (ek : k ≡ (slot s h).red) (e1 : s1 ≡ set_left s h y) (e2 : s2 ≡ set_right s1 x h) (e3 : s3 ≡ set_red s2 x k) (e4 : s4 ≡ set_red s3 h true) where
    linked_r : Turn Under (Sides Marked Under) s s4 x (node c e (node true z ll lr) r) (node c z ll (node true e lr r))
    linked_r =
        let f = facts_r in
        let b = held-left a ex in
        let d = held-right b ey in
        let ec : k ≡ c = ek ∙ ap (λ (v : Slot). v.red) (slot-top a) in
        let w1 = wrote-left f.h-in e1 f.y-lt in
        let w2 = wrote_right (keeps-has w1.kept f.x-in) e2 f.h-in.high in
        let x2 = keeps-has w2.kept (keeps-has w1.kept f.x-in) in
        let w3 = wrote-red x2 e3 in
        let h1 = keeps-has w1.kept f.h-in in
        let h2 = keeps-has w2.kept h1 in
        let w4 = wrote-red (keeps-has w3.kept h2) e4 in
        let h≢x : h ≢ x = λ q. omega (arith, a.once h, is_eq (sym a.top), is_eq (q ∙ sym b.top)) in
        let x≢h : x ≢ h = λ q. h≢x (sym q) in
        let has_h : slot s4 h ≡ node_slot true e.key e.value (root lr) (root r) =
        w4.here ∙ ap (with_red true) (w3.kept.slots h h2 h≢x ∙ w2.kept.slots h h1 h≢x ∙ w1.here ∙ ap (with_left y) (slot-top a))
        ∙ ap (λ (q : ℕ). node_slot true e.key e.value q (root r)) (sym d.top) in
        let has-x : slot s4 x ≡ node_slot c z.key z.value (root ll) e.slot =
        w4.kept.slots x (keeps-has w3.kept x2) x≢h ∙ w3.here ∙ ap (with_red k) (w2.here ∙ ap (with_right h) (w1.kept.slots x f.x-in x≢h ∙ slot-top b))
        ∙ (λ i. node_slot (ec i) z.key z.value (root ll) (sym a.top i)) in
        let g : Keeps (λ j. 1 ≤ is j h + is j x) s s4 =
        keeps-trans (keeps-trans (keeps-trans
        (keeps-more (λ j q. omega (arith, is_eq q)) w1.kept)
        (keeps-more (λ j q. omega (arith, is_eq q)) w2.kept))
        (keeps-more (λ j q. omega (arith, is_eq q)) w3.kept))
        (keeps-more (λ j q. omega (arith, is_eq q)) w4.kept) in
        let digs : (j : ℕ) → HasSlot (length s) j → mark_of s4 j ≡ mark_of s j =
        λ j i. let i1 = keeps-has w1.kept i in let i2 = keeps-has w2.kept i1 in wrote-marks w4 j (keeps-has w3.kept i2) ∙ wrote-marks w3 j i2 ∙ wrote-marks w2 j i1 ∙ wrote-marks w1 j i in
        let off : (t : Tree) → ((j : ℕ) → count j t ≤ count j ll + (count j lr + count j r)) → (j : ℕ) → 1 ≤ count j t → 1 ≤ is j h + is j x → ⊥ =
        λ t i j p q. omega (arith, i j, a.once j, ap (is j) a.top, ap (is j) b.top) in
        let low : Held s4 h (node true e lr r) =
        node-held e a.top (keeps-has g f.h-in) has_h
        (frame-held lr g (kid-right (kid-left a)) (off lr (λ j. omega arith)))
        (frame-held r g (kid-right a) (off r (λ j. omega arith)))
        (λ j. omega (arith, a.once j)) in
        record {
          held = node-held z b.top (keeps-has g f.x-in) has-x (frame-held ll g (kid-left (kid-left a)) (off ll (λ j. omega arith))) low (λ j. omega (arith, a.once j));
          keeps = keeps-more (λ j p. omega (arith, ap (is j) a.top, ap (is j) b.top)) g;
          slots = λ j. omega arith;
          dig = λ v. let i = under s (node true z ll lr) v.0 in (
            marked_by s s4 ll (λ j q. digs j (a.inside j (omega arith))) i.0,
            (marked_by s s4 lr (λ j q. digs j (a.inside j (omega arith))) i.1, marked_by s s4 r (λ j q. digs j (a.inside j (omega arith))) v.1),
          );
        }

    down_r : h ≡ (slot s4 x).right
    down_r = sym (ap (λ (v : Slot). v.right) (slot-top linked_r.held) ∙ a.top)

    lower_r : Held s4 h (node true e lr r)
    lower_r = held-right linked_r.held down_r

    upper_r : {s5 : List ℕ} → s5 ≡ mark_stale s4 h → Turn Under Under s s5 x (node c e (node true z ll lr) r) (node c z ll (node true e lr r))
    upper_r e5 = after linked_r (inside-right marked_by linked_r.held (marks (node true e lr r) lower_r tt e5) down_r)

    whole_r : {s5 s6 : List ℕ} → s5 ≡ mark_stale s4 h → s6 ≡ mark_stale s5 x → Turn Under Marked s s6 x (node c e (node true z ll lr) r) (node c z ll (node true e lr r))
    whole_r e5 e6 = after (upper_r e5) (marks (node c z ll (node true e lr r)) (upper_r e5).held tt e6)

module _ {s : List ℕ} {h x y : ℕ} (ex : x ≡ (slot s h).left) (ey : y ≡ (slot s x).right) where
  pub right-facts : (t u : Tree) → Held s h t → rotate_right_p t ≡ some u → Facts s h x y
  right-facts t u a w = at-rotate_right (λ t u. Held s h t → Facts s h x y) (λ c e z ll lr r a. facts_r a ex ey) t u w a

  module _ {k : Bool} {s1 s2 s3 s4 : List ℕ} (ek : k ≡ (slot s h).red) (e1 : s1 ≡ set_left s h y) (e2 : s2 ≡ set_right s1 x h) (e3 : s3 ≡ set_red s2 x k) (e4 : s4 ≡ set_red s3 h true) where
    pub right-done : {s5 s6 : List ℕ} → s5 ≡ mark_stale s4 h → s6 ≡ mark_stale s5 x → (t u : Tree) → Held s h t → rotate_right_p t ≡ some u → Turn Under Marked s s6 x t u
    right-done {s5} {s6} e5 e6 t u a w =
        at-rotate_right (λ t u. Held s h t → Turn Under Marked s s6 x t u) (λ c e z ll lr r a. whole_r a ex ey ek e1 e2 e3 e4 e5 e6) t u w a
