-- The record that the code reads at a place is the one of the form, over plain lists.
use Prim.Native.Nat.{ℕ, zero, suc, ◌+◌, ◌-◌, ◌<◌, ◌≤◌}
use mathlib.Core.Path.{◌≡◌, refl, sym, ap, ◌∙◌}
use mathlib.Core.Bool.{Bool, true, false}
use mathlib.Core.List.{List, [], ◌∷◌}
use native.Mathlib.Omega.{arith}
use lib.ListN.{length, take, drop, get_or, length-drop, drop_of_length-le}
use lib.Seq.{length-take-le, drop-drop, drop-cons}
use lib.Dec.{ltb, leb, eqb}
use borrow.Author.Tests.{leb-true, le-leb, lt-leb, lt-ltb, le-ltb, eq-eqb, ne_eqb}
use Rattle.std.specs.Prelude.{cond}
use Rattle.std.specs.Prelude.{Some, None}
use Rattle.hash_tree.specs.declared.Kind.{Kind}
use Rattle.hash_tree.specs.Record.{kind_number, kind_of_number, a_record, record_of, least, most}
use Rattle.hash_tree.specs.Form.{Front, Taken, Shut, Fits, written}
use Rattle.hash_tree.proofs.RecordLaws.{numbered, with_kind, no_kind}
use Rattle.hash_tree.proofs.Rebuilding.{seen}
use Rattle.hash_tree.proofs.Standing.{body}
use Rattle.cbor.specs.Cbor.{array_of, sized, long, string, own_front, cbor_front}
use Rattle.cbor.specs.Walks.{Lies}
use Rattle.cbor.proofs.Opens.{picked}

shut : (v : Bool) (x : Front) → (v ≡ true → x ≡ Shut) → cond v x Shut ≡ Shut
shut true x h = h refl
shut false x h = refl

not-picked : (v : Bool) (x y : Front) → v ≡ false → cond v x y ≡ y
not-picked v x y e = rw e

-- a string of some length
pub sized-shut : (k n : ℕ) (r : List ℕ) → (least k ≤ n → n ≤ most k → n ≤ length r → ⊥) → sized k n r ≡ Shut
unfolding sized
sized-shut k n r f = shut _ _ λ a. shut _ _ λ b. shut _ _ λ c. absurd (f (leb-true _ _ a) (leb-true _ _ b) (leb-true _ _ c))

pub sized-lies : (s : List ℕ) (start k n : ℕ) → k < 5 → least k ≤ n → n ≤ most k → start + n ≤ length s → Lies s k start n (sized k n (drop start s))
unfolding sized
sized-lies s start k n kind low high within =
    let d : n ≤ length (drop start s) = omega (arith, length-drop start s) in
    let l : length (take n (drop start s)) ≡ n = length-take-le n (drop start s) d in
    record {
      is =
          picked _ _ (le-leb _ _ low) ∙ picked _ _ (le-leb _ _ high) ∙ picked _ _ (le-leb _ _ d)
          ∙ ap (λ (r : List ℕ). Taken k (take n (drop start s)) r) (drop-drop n start s);
      within = within;
      lawful = record { kind = kind; low = rw l low; high = rw l high };
    }

own-none : (k : ℕ) (r : List ℕ) → 4 < k → own_front k r ≡ Shut
own-none zero r h = absurd (omega arith)
own-none (suc zero) r h = absurd (omega arith)
own-none (suc (suc k)) [] h = refl
own-none (suc (suc k)) (x ∷ r) h = not-picked _ _ _ (le-ltb (suc (suc k)) 5 (omega arith))

own-string : (k : ℕ) (r : List ℕ) → 2 ≤ k → own_front k r ≡ string k r
own-string zero r h = absurd (omega arith)
own-string (suc zero) r h = absurd (omega arith)
own-string (suc (suc k)) r h = refl

own-empty : (k : ℕ) (r : List ℕ) → k < 2 → (own_front k r ≡ Taken k [] r) × Fits k []
unfolding least most
own-empty zero r h = (refl, record { kind = omega arith; low = omega arith; high = omega arith })
own-empty (suc zero) r h = (refl, record { kind = omega arith; low = omega arith; high = omega arith })
own-empty (suc (suc k)) r h = absurd (omega arith)

long-other : (k h : ℕ) (r : List ℕ) → (h ≡ 0x58 → ⊥) → long k h r ≡ Shut
long-other k h [] f = refl
long-other k h (n ∷ r) f = not-picked _ _ _ (ne_eqb h 0x58 f)

-- the kind that a number stands for
pub number-is : (n m : ℕ) (kind : Kind) → n ≡ m → kind_of_number n ≡ Some kind → kind_number kind ≡ m
number-is n m kind f e = let w = with_kind n kind e in ap kind_number (sym w.1) ∙ numbered n w.0 ∙ f

pub number_none : (n : ℕ) → kind_of_number n ≡ None → 4 < n
number_none n e = let f = no_kind n e in omega arith

module _ (s : List ℕ) where
  at_one : (at : ℕ) → at < length s → drop at s ≡ get_or s at 0 ∷ drop (at + 1) s
  at_one at h = let e : suc at ≡ at + 1 = omega arith in drop-cons s at 0 h ∙ rw e

  at-two : (at : ℕ) → at + 2 ≤ length s → drop at s ≡ get_or s at 0 ∷ get_or s (at + 1) 0 ∷ drop (at + 2) s
  at-two at h = let e : at + 1 + 1 ≡ at + 2 = omega arith in at_one at (omega arith) ∙ rw (at_one (at + 1) (omega arith), e)

  few : (at : ℕ) (xs : List ℕ) → length xs ≡ length s - at → length s - at < 2 → cbor_front xs ≡ Shut
  unfolding cbor_front
  few at [] l h = refl
  few at (x ∷ []) l h = refl
  few at (x ∷ y ∷ r) l h = absurd (omega (arith, l))

  pub too_few : (at : ℕ) → length s - at < 2 → cbor_front (drop at s) ≡ Shut
  too_few at h = few at (drop at s) (length-drop at s) h

  -- the byte that opens an array, and the kind
  module _ (at a k : ℕ) (two : 2 ≤ length s - at) (ea : a ≡ get_or s at 0) (ek : k ≡ get_or s (at + 1) 0) where
    opened : cbor_front (drop at s) ≡ cond (eqb a (array_of k)) (own_front k (drop (at + 2) s)) Shut
    unfolding cbor_front
    opened = rw (at-two at (omega arith), ← ea, ← ek)

    pub other-kind : 4 < k → cbor_front (drop at s) ≡ Shut
    other-kind h = opened ∙ shut (eqb a (array_of k)) (own_front k (drop (at + 2) s)) (λ e. own-none k (drop (at + 2) s) h)

    pub other-array : (a ≡ array_of k → ⊥) → cbor_front (drop at s) ≡ Shut
    other-array f = opened ∙ not-picked _ _ _ (ne_eqb a (array_of k) f)

    own : a ≡ array_of k → cbor_front (drop at s) ≡ own_front k (drop (at + 2) s)
    own e = opened ∙ picked _ _ (eq-eqb a (array_of k) e)

    pub no-string : a ≡ array_of k → k < 2 → Lies s k (at + 2) 0 (cbor_front (drop at s))
    no-string e h =
        let w = own-empty k (drop (at + 2) s) h in
        let z : at + 2 ≡ at + 2 + 0 = omega arith in
        record { is = own e ∙ w.0 ∙ ap (λ (n : ℕ). Taken k [] (drop n s)) z; within = omega arith; lawful = w.1 }

    -- the head of a string
    module _ (e : a ≡ array_of k) (some : 2 ≤ k) where
      its-string : cbor_front (drop at s) ≡ string k (drop (at + 2) s)
      its-string = own e ∙ own-string k (drop (at + 2) s) some

      pub no-head : length s - at < 3 → cbor_front (drop at s) ≡ Shut
      no-head h = its-string ∙ rw (drop_of_length-le s {i = at + 2} (omega arith))

      module _ (h : ℕ) (three : 3 ≤ length s - at) (eh : h ≡ get_or s (at + 2) 0) (kind : k < 5) where
        headed : cbor_front (drop at s) ≡ cond (leb 0x40 h) (cond (ltb h 0x58) (sized k (h - 0x40) (drop (at + 2 + 1) s)) (long k h (drop (at + 2 + 1) s))) Shut
        headed = its-string ∙ rw (at_one (at + 2) (omega arith), ← eh) (picked _ _ (lt-ltb k 5 kind))

        pub low-head : h < 0x40 → cbor_front (drop at s) ≡ Shut
        low-head f = headed ∙ not-picked _ _ _ (lt-leb 0x40 h f)

        pub short-head : 0x40 ≤ h → h < 0x58 → cbor_front (drop at s) ≡ sized k (h - 0x40) (drop (at + 2 + 1) s)
        short-head f g = headed ∙ picked _ _ (le-leb 0x40 h f) ∙ rw (lt-ltb h 0x58 g)

        longer : 0x58 ≤ h → cbor_front (drop at s) ≡ long k h (drop (at + 2 + 1) s)
        longer f = headed ∙ picked _ _ (le-leb 0x40 h (omega arith)) ∙ rw (le-ltb h 0x58 f)

        pub other-head : 0x58 ≤ h → (h ≡ 0x58 → ⊥) → cbor_front (drop at s) ≡ Shut
        other-head f g = longer f ∙ long-other k h (drop (at + 2 + 1) s) g

        module _ (is : h ≡ 0x58) where
          pub no_length : length s - at < 4 → cbor_front (drop at s) ≡ Shut
          no_length f = longer (omega arith) ∙ rw (drop_of_length-le s {i = at + 2 + 1} (omega arith))

          module _ (n : ℕ) (four : 4 ≤ length s - at) (en : n ≡ get_or s (at + 2 + 1) 0) where
            measured : cbor_front (drop at s) ≡ cond (leb 24 n) (sized k n (drop (at + 2 + 2) s)) Shut
            measured =
                let z : at + 2 + 1 + 1 ≡ at + 2 + 2 = omega arith in
                longer (omega arith) ∙ rw (at_one (at + 2 + 1) (omega arith), ← en, z) (picked _ _ (eq-eqb h 0x58 is))

            pub short-length : n < 24 → cbor_front (drop at s) ≡ Shut
            short-length f = measured ∙ not-picked _ _ _ (lt-leb 24 n f)

            pub long-head : 24 ≤ n → cbor_front (drop at s) ≡ sized k n (drop (at + 2 + 2) s)
            long-head f = measured ∙ picked _ _ (le-leb 24 n f)

  -- document 01's form
  pub no_record : (at : ℕ) → record_of (drop at s) ≡ None → written.front (drop at s) ≡ Shut
  no_record at e = rw e

  pub record-within : (at : ℕ) (kind : Kind) (n : ℕ) → record_of (drop at s) ≡ a_record kind n → at + 2 + n ≤ length s
  record-within at kind n e = (seen s at kind n e).fits

  pub record-lies : (at : ℕ) (kind : Kind) (n : ℕ) → record_of (drop at s) ≡ a_record kind n → Lies s (kind_number kind) (at + 2) n (written.front (drop at s))
  record-lies at kind n e =
      let h = seen s at kind n e in
      let l = body s at n h.fits in
      record {
        is = rw (e, drop-drop 2 at s, drop-drop n (at + 2) s);
        within = h.fits;
        lawful = record { kind = h.kind; low = rw l h.low; high = rw l h.high };
      }
