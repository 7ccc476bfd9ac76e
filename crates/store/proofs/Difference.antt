-- The difference of two stores: its bytes are read back in one way, are at most 49 for each entry, none where the maps are equal; and after
-- two histories they are those of the keys whose last values differ.
use mathlib.Core.Path.{◌≡◌, refl, sym, ap, ap₂, ◌∙◌}
use mathlib.Core.Bool.{Bool, true, false, cond}
use mathlib.Core.List.{List, [], ◌∷◌, ◌++◌}
use Prim.Native.Nat.{ℕ, suc, ◌+◌, ◌*◌, ◌≤◌}
use native.Mathlib.Omega.{arith}
use lib.Dec.{ltb}
use lib.ListN.{length, take, drop, length-append}
use lib.Seq.{take_at, drop_at}
use borrow.Author.Tests.{le-ltb}
use Rattle.key_order.specs.Order.{Key}
use Rattle.slots.specs.declared.Header.{Header}
use Rattle.answers.specs.Answers.{put_front}
use Rattle.llrb.specs.Tree.{Entry, entries, size}
use Rattle.llrb.specs.Map.{pairs, find}
use Rattle.llrb.specs.Difference.{Change, Gone, New, Other, Line, changed, difference}
use Rattle.llrb.proofs.Difference.{sorted-rising, difference-each, difference-length, difference-is, no_line, equal-maps}
use Rattle.store.specs.Numbers.{NotSound, NoRoom, refused, done}
use Rattle.store.specs.Model.{Model}
use Rattle.store.specs.Sound.{Short, Lawful, Represents, Sound}
use Rattle.store.specs.Decode.{decode}
use Rattle.store.specs.Decide.{on_sound}
use Rattle.store.specs.Answers.{Written, written}
use Rattle.store.specs.History.{Edit, store_after, accepted, last_value}
use Rattle.store.specs.Difference.{kind_of, line_bytes, lines_bytes, map_in, difference_answer, ShortKeys, LastDiffer}
use Rattle.store.specs.Demand.{Demand3}
use Rattle.store.proofs.Decoding.{on-sound, on-unsound, sound-decodes, live-and-free}
use Rattle.store.proofs.Demand.{demand-3}

-- ---- the bytes

fronts : (a b c d : List ℕ) → length a ≡ length c → a ++ b ≡ c ++ d → (a ≡ c) × (b ≡ d)
fronts a b c d n e = (
  sym (take_at a b (length a) refl) ∙ ap (take (length a)) e ∙ take_at c d (length a) (sym n),
  sym (drop_at a b (length a) refl) ∙ ap (drop (length a)) e ∙ drop_at c d (length a) (sym n),
)

kind-range : (c : Change) → (1 ≤ kind_of c) × (kind_of c ≤ 3)
kind-range Gone = (omega arith, omega arith)
kind-range New = (omega arith, omega arith)
kind-range Other = (omega arith, omega arith)

kind-one : (c d : Change) → kind_of c ≡ kind_of d → c ≡ d
kind-one Gone Gone e = refl
kind-one Gone New e = absurd (omega arith)
kind-one Gone Other e = absurd (omega arith)
kind-one New Gone e = absurd (omega arith)
kind-one New New e = refl
kind-one New Other e = absurd (omega arith)
kind-one Other Gone e = absurd (omega arith)
kind-one Other New e = absurd (omega arith)
kind-one Other Other e = refl

-- the lines are read back in one way
pub lines-read : (L M : List Line) → ShortKeys L → ShortKeys M → lines_bytes L ≡ lines_bytes M → L ≡ M
unfolding lines_bytes
lines-read [] [] a b e = refl
lines-read [] (y ∷ M) a b e = absurd (omega (arith, ap length e))
lines-read (x ∷ L) [] a b e = absurd (omega (arith, ap length e))
lines-read (x ∷ L) (y ∷ M) a b e =
    let h : kind_of x.value * 64 + length x.key ≡ kind_of y.value * 64 + length y.key = cc in
    let r : x.key ++ lines_bytes L ≡ y.key ++ lines_bytes M = cc in
    let n : length x.key ≡ length y.key = omega (arith, h, a.0, b.0) in
    let k : kind_of x.value ≡ kind_of y.value = omega (arith, h, a.0, b.0) in
    let f = fronts x.key (lines_bytes L) y.key (lines_bytes M) n r in
    let v = kind-one x.value y.value k in
    ap₂ {C = List Line} ◌∷◌ (λ i. record { key = f.0 i; value = v i }) (lines-read L M a.1 b.1 f.1)

-- a line has at most 49 bytes
pub lines-length : (L : List Line) → ShortKeys L → length (lines_bytes L) ≤ 49 * length L
unfolding lines_bytes
lines-length [] a = omega arith
lines-length (x ∷ L) a = omega (arith, lines-length L a.1, a.0, length-append (line_bytes x) (lines_bytes L))

lines_none : (L : List Line) → length (lines_bytes L) ≡ 0 → L ≡ []
unfolding lines_bytes
lines_none [] e = refl
lines_none (x ∷ L) e = absurd (omega (arith, e))

-- ---- of sound stores

short-keys : (L : List Entry) → Short L → ShortKeys (pairs L)
short-keys [] a = tt
short-keys (e ∷ L) a = (a.0, short-keys L a.2)

pairs-length : (L : List Entry) → length (pairs L) ≡ length L
pairs-length [] = refl
pairs-length (e ∷ L) = ap suc (pairs-length L)

module _ {m n : Model} (g : Lawful m) (f : Lawful n) where
  pub difference-short : ShortKeys (difference (map_in m) (map_in n))
  difference-short =
      difference-each (λ (k : Key). length k ≤ 48) (map_in m) (map_in n) (short-keys (entries m.tree) g.short) (short-keys (entries n.tree) f.short)

  -- at most 49 bytes for each entry of both
  pub difference-most : length (lines_bytes (difference (map_in m) (map_in n))) ≤ 49 * (size m.tree + size n.tree)
  unfolding size
  difference-most =
      omega (arith, lines-length (difference (map_in m) (map_in n)) difference-short, difference-length (map_in m) (map_in n), pairs-length (entries m.tree), pairs-length (entries n.tree))

  pub longest-difference : length (lines_bytes (difference (map_in m) (map_in n))) ≤ 49 * (m.capacity + n.capacity)
  longest-difference = omega (arith, difference-most, live-and-free g, live-and-free f)

module _ {old new : List ℕ} {m n : Model} (a : Represents old m) (b : Represents new n) (out : List ℕ) where
  -- the lines at the front of the output, if there is room
  pub difference-of : difference_answer old new out ≡ put_front out (lines_bytes (difference (map_in m) (map_in n)))
  unfolding difference_answer
  difference-of = rw (on-sound a (λ m. on_sound new (λ n. done (lines_bytes (difference (map_in m) (map_in n)))) (refused NotSound)) (refused NotSound), on-sound b (λ n. done (lines_bytes (difference (map_in m) (map_in n)))) (refused NotSound))

  pub difference-room : length (lines_bytes (difference (map_in m) (map_in n))) ≤ length out
      → difference_answer old new out
      ≡ record { number = 0; size = length (lines_bytes (difference (map_in m) (map_in n))); output = lines_bytes (difference (map_in m) (map_in n)) ++ drop (length (lines_bytes (difference (map_in m) (map_in n)))) out }
  difference-room r = difference-of ∙ rw (le-ltb (length out) (length (lines_bytes (difference (map_in m) (map_in n)))) r)

  -- an output with 49 bytes for each slot of both has room
  pub difference-fits : 49 * (m.capacity + n.capacity) ≤ length out → (difference_answer old new out).number ≡ 0
  difference-fits r = ap (λ (w : Written). w.number) (difference-room (omega (arith, r, longest-difference a.lawful b.lawful)))

  -- NO LINE exactly when the two maps are equal, whatever the trees and so the root digests
  pub silent-equal : (difference_answer old new out).number ≡ 0 → (difference_answer old new out).size ≡ 0 → map_in m ≡ map_in n
  silent-equal h e = no_line (map_in m) (map_in n) (sorted-rising (entries m.tree) a.lawful.ordered) (sorted-rising (entries n.tree) b.lawful.ordered) (lines_none L (at (ltb (length out) (length (lines_bytes L))) h' e'))
    where
      L : List Line
      L = difference (map_in m) (map_in n)

      h' : (put_front out (lines_bytes L)).number ≡ 0
      h' = sym (ap (λ (w : Written). w.number) difference-of) ∙ h

      e' : (put_front out (lines_bytes L)).size ≡ 0
      e' = sym (ap (λ (w : Written). w.size) difference-of) ∙ e

      at : (t : Bool) → (written out (cond t (refused NoRoom) (done (lines_bytes L)))).number ≡ 0 → (written out (cond t (refused NoRoom) (done (lines_bytes L)))).size ≡ 0
          → length (lines_bytes L) ≡ 0
      at true x y = absurd (omega (arith, x))
      at false x y = y

  pub equal-silent : map_in m ≡ map_in n → difference_answer old new out ≡ record { number = 0; size = 0; output = out }
  unfolding lines_bytes
  equal-silent e =
      let z : difference (map_in m) (map_in n) ≡ [] =
      rw (← e) (equal-maps (map_in m) (sorted-rising (entries m.tree) a.lawful.ordered)) in
      difference-of ∙ rw (z, le-ltb (length out) 0 (omega arith))

-- ---- of stores that are not sound

pub old-unsound : {old : List ℕ} (new out : List ℕ) → (Sound old → ⊥) → difference_answer old new out ≡ record { number = 1; size = 0; output = out }
unfolding difference_answer
old-unsound {old} new out n =
    rw (on-unsound {s = old} n (λ m. on_sound new (λ n. done (lines_bytes (difference (map_in m) (map_in n)))) (refused NotSound)) (refused NotSound))

pub new-unsound : {old new : List ℕ} (out : List ℕ) → Sound old → (Sound new → ⊥) → difference_answer old new out ≡ record { number = 1; size = 0; output = out }
unfolding difference_answer
new-unsound {old} {new} out a n =
    rw (
      on-sound a.1 (λ m. on_sound new (λ n. done (lines_bytes (difference (map_in m) (map_in n)))) (refused NotSound)) (refused NotSound),
      on-unsound {s = new} n (λ n. done (lines_bytes (difference (map_in a.0) (map_in n)))) (refused NotSound),
    )

-- ---- after two histories

module _ (c d : ℕ) (c₁ : 1 ≤ c) (c₂ : c ≤ 1024) (d₁ : 1 ≤ d) (d₂ : d ≤ 1024) (h g : List Edit) where
  last-find : {capacity : ℕ} {s : List ℕ} {acc : List Edit} → Demand3 capacity s acc → (k : Key) → find k (map_in (decode s)) ≡ last_value k acc
  last-find q k = ap (find k) q.map ∙ q.last k

  slots-of : {capacity : ℕ} {s : List ℕ} {acc : List Edit} → Demand3 capacity s acc → (decode s).capacity ≡ capacity
  slots-of q =
      let a = sound-decodes q.sound in
      omega (arith, q.free, live-and-free a.lawful, ap (λ (x : Header). x.live) a.laid.header)

  -- the lines are those of the keys whose last values differ
  pub last-differ : (out : List ℕ) → 49 * (c + d) ≤ length out
      → LastDiffer (accepted c h) (accepted d g) out (difference_answer (store_after c h) (store_after d g) out)
  last-differ out r =
      let p = demand-3 c c₁ c₂ h in
      let q = demand-3 d d₁ d₂ g in
      let a = sound-decodes p.sound in
      let b = sound-decodes q.sound in
      let o = decode (store_after c h) in
      let w = decode (store_after d g) in
      let i = difference-is (map_in o) (map_in w) (sorted-rising (entries o.tree) a.lawful.ordered) (sorted-rising (entries w.tree) b.lawful.ordered) in
      let says : (k : Key) → changed (find k (map_in o)) (find k (map_in w)) ≡ changed (last_value k (accepted c h)) (last_value k (accepted d g)) =
      λ k. ap₂ changed (last-find p k) (last-find q k) in
      record {
        lines = difference (map_in o) (map_in w);
        rising = i.rising;
        listed = λ k x e. i.listed k x (says k ∙ e);
        only = λ k x e. sym (says k) ∙ i.only k x e;
        answer = difference-room a b out (omega (arith, r, longest-difference a.lawful b.lawful, slots-of p, slots-of q));
      }
