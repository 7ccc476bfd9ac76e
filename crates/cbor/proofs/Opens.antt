-- A record put in CBOR is taken off again, and what is taken off is a record that was put.
use Prim.Native.Nat.{ℕ, zero, suc, ◌+◌, ◌-◌, ◌<◌, ◌≤◌}
use mathlib.Core.Path.{◌≡◌, refl, sym, ap, ap₂, ◌∙◌}
use mathlib.Core.Bool.{Bool, true, false}
use mathlib.Core.List.{List, [], ◌∷◌, ◌++◌, append_assoc}
use native.Mathlib.Omega.{arith}
use native.Mathlib.Nat.{not-suc-le-zero}
use lib.ListN.{length, take, drop, length-append, take-append-drop}
use lib.Seq.{length-take-le, take_at, drop_at}
use lib.Dec.{ltb, leb, eqb}
use borrow.Author.Tests.{leb-true, ltb-true, ltb-false, eqb-true, le-leb, lt-ltb, le-ltb, eq-eqb}
use Rattle.std.specs.Prelude.{cond}
use Rattle.hash_tree.specs.Record.{least, most}
use Rattle.hash_tree.specs.Form.{Front, Taken, Shut, Fits}
use Rattle.hash_tree.proofs.Forms.{Seen, Opening}
use Rattle.cbor.specs.Cbor.{array_of, string_head, own, put_cbor, sized, long, string, own_front, cbor_front, cbor_form}

pub picked : (v : Bool) (x : Front) → v ≡ true → cond v x Shut ≡ x
picked v x e = rw e

-- ---- put, and taken off

sized-back : (k : ℕ) (b rest : List ℕ) (n : ℕ) → Fits k b → n ≡ length b → sized k n (b ++ rest) ≡ Taken k b rest
unfolding sized
sized-back k b rest n h e =
    picked (leb (least k) n) _ (le-leb (least k) n (omega (arith, h.low)))
    ∙ picked (leb n (most k)) _ (le-leb n (most k) (omega (arith, h.high)))
    ∙ picked (leb n (length (b ++ rest))) _ (le-leb n (length (b ++ rest)) (omega (arith, length-append b rest)))
    ∙ ap₂ (Taken k) (take_at b rest n (sym e)) (drop_at b rest n (sym e))

string-by : (k : ℕ) (b rest : List ℕ) → Fits k b → (v : Bool) → ltb (length b) 24 ≡ v
    → string k (cond v ((0x40 + length b) ∷ []) (0x58 ∷ length b ∷ []) ++ (b ++ rest)) ≡ Taken k b rest
string-by k b rest h true e =
    let l : length b < 24 = ltb-true (length b) 24 e in
    picked (ltb k 5) _ (lt-ltb k 5 h.kind) ∙ picked (leb 0x40 (0x40 + length b)) _ (le-leb 0x40 (0x40 + length b) (omega arith))
    ∙ ap (λ (v : Bool). cond v (sized k (0x40 + length b - 0x40) (b ++ rest)) (long k (0x40 + length b) (b ++ rest))) (lt-ltb (0x40 + length b) 0x58 (omega arith))
    ∙ sized-back k b rest (0x40 + length b - 0x40) h (omega arith)
string-by k b rest h false e =
    let l : 24 ≤ length b = ltb-false (length b) 24 e in
    picked (ltb k 5) _ (lt-ltb k 5 h.kind) ∙ picked _ _ (le-leb _ (length b) (omega arith))
    ∙ sized-back k b rest (length b) h refl

string-back : (k : ℕ) (b rest : List ℕ) → Fits k b → string k ((string_head (length b) ++ b) ++ rest) ≡ Taken k b rest
string-back k b rest h =
    ap (string k) (append_assoc (string_head (length b)) b rest) ∙ string-by k b rest h (ltb (length b) 24) refl

own_back : (k : ℕ) (b rest : List ℕ) → Fits k b → own_front k (own k b ++ rest) ≡ Taken k b rest
unfolding most
own_back zero [] rest h = refl
own_back zero (x ∷ b) rest h = absurd (not-suc-le-zero h.high)
own_back (suc zero) [] rest h = refl
own_back (suc zero) (x ∷ b) rest h = absurd (not-suc-le-zero h.high)
own_back (suc (suc k)) b rest h = string-back (suc (suc k)) b rest h

back : (k : ℕ) (b rest : List ℕ) → Fits k b → cbor_front (put_cbor k b ++ rest) ≡ Taken k b rest
unfolding cbor_front put_cbor
back k b rest h = picked (eqb (array_of k) (array_of k)) _ (eq-eqb (array_of k) (array_of k) refl) ∙ own_back k b rest h

-- ---- taken off, and put

module _ (xs : List ℕ) where
  test : (v : Bool) (x : Front) → (v ≡ true → Seen cbor_form xs x) → Seen cbor_form xs (cond v x Shut)
  test true x h = h refl
  test false x h = tt

  sized-seen : (k n : ℕ) (r : List ℕ) → 2 ≤ k → k < 5 → xs ≡ array_of k ∷ k ∷ (string_head n ++ r) → Seen cbor_form xs (sized k n r)
  unfolding sized put_cbor
  sized-seen zero n r two kind e = absurd (omega arith)
  sized-seen (suc zero) n r two kind e = absurd (omega arith)
  sized-seen (suc (suc k)) n r two kind e =
      test (leb (least (suc (suc k))) n) _ λ a. test (leb n (most (suc (suc k)))) _ λ b. test (leb n (length r)) _ λ c.
      (let l : length (take n r) ≡ n = length-take-le n r (leb-true n (length r) c) in (
        e
            ∙ ap (λ (w : List ℕ). array_of (suc (suc k)) ∷ suc (suc k) ∷ (string_head n ++ w)) (sym (take-append-drop n r))
            ∙ ap (λ (w : List ℕ). array_of (suc (suc k)) ∷ suc (suc k) ∷ w) (sym (append_assoc (string_head n) (take n r) (drop n r)))
            ∙ ap (λ (m : ℕ). array_of (suc (suc k)) ∷ suc (suc k) ∷ ((string_head m ++ take n r) ++ drop n r)) (sym l),
        record { kind = kind; low = rw l (leb-true _ _ a); high = rw l (leb-true _ _ b) },
      ))

  long-seen : (k h : ℕ) (r : List ℕ) → 2 ≤ k → k < 5 → xs ≡ array_of k ∷ k ∷ h ∷ r → Seen cbor_form xs (long k h r)
  long-seen k h [] two kind e = tt
  long-seen k h (n ∷ r) two kind e =
      test (eqb h 0x58) _ λ a. test (leb 24 n) _ λ b.
      (let f : ltb n 24 ≡ false = le-ltb n 24 (leb-true 24 n b) in
      sized-seen k n r two kind (e ∙ ap (λ (x : ℕ). array_of k ∷ k ∷ x ∷ n ∷ r) (eqb-true h 0x58 a) ∙ ap (λ (v : Bool). array_of k ∷ k ∷ (cond v ((0x40 + n) ∷ []) (0x58 ∷ n ∷ []) ++ r)) (sym f)))

  short-seen : (k h : ℕ) (r : List ℕ) → 2 ≤ k → k < 5 → 0x40 ≤ h → xs ≡ array_of k ∷ k ∷ h ∷ r → (v : Bool) → ltb h 0x58 ≡ v
      → Seen cbor_form xs (cond v (sized k (h - 0x40) r) (long k h r))
  short-seen k h r two kind a e true f =
      let g : ltb (h - 0x40) 24 ≡ true = lt-ltb (h - 0x40) 24 (omega (arith, ltb-true h 0x58 f)) in
      let i : h ≡ 0x40 + (h - 0x40) = omega arith in
      sized-seen k (h - 0x40) r two kind (e ∙ ap (λ (x : ℕ). array_of k ∷ k ∷ x ∷ r) i ∙ ap (λ (v : Bool). array_of k ∷ k ∷ (cond v ((0x40 + (h - 0x40)) ∷ []) (0x58 ∷ (h - 0x40) ∷ []) ++ r)) (sym g))
  short-seen k h r two kind a e false f = long-seen k h r two kind e

  string-seen : (k : ℕ) (r : List ℕ) → 2 ≤ k → xs ≡ array_of k ∷ k ∷ r → Seen cbor_form xs (string k r)
  string-seen k [] two e = tt
  string-seen k (h ∷ r) two e =
      test (ltb k 5) _ λ a. test (leb 0x40 h) _ λ b. short-seen k h r two (ltb-true k 5 a) (leb-true 0x40 h b) e (ltb h 0x58) refl

  own-seen : (y : ℕ) (r : List ℕ) → xs ≡ array_of y ∷ y ∷ r → Seen cbor_form xs (own_front y r)
  unfolding put_cbor least most
  own-seen zero r e = (e, record { kind = omega arith; low = omega arith; high = omega arith })
  own-seen (suc zero) r e = (e, record { kind = omega arith; low = omega arith; high = omega arith })
  own-seen (suc (suc k)) r e = string-seen (suc (suc k)) r (omega arith) e

seen : (xs : List ℕ) → Seen cbor_form xs (cbor_front xs)
unfolding cbor_front
seen [] = tt
seen (x ∷ []) = tt
seen (x ∷ y ∷ r) = test (x ∷ y ∷ r) (eqb x (array_of y)) _ λ e. own-seen (x ∷ y ∷ r) y r (ap (λ (z : ℕ). z ∷ y ∷ r) (eqb-true x (array_of y) e))

pub opening : Opening cbor_form
opening = record { back = back; seen = λ xs bs. seen xs }
