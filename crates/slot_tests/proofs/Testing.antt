-- The tests of the code: zeros by their sum, padding, the layout of an entry's slot and of a free one.
use mathlib.Core.Path.{◌≡◌, refl, sym, ap, subst, ◌∙◌}
use mathlib.Core.Bool.{Bool, true, false}
use mathlib.Core.List.{List, ◌++◌}
use Prim.Native.Nat.{ℕ, ◌+◌, ◌-◌, ◌≤◌}
use native.Mathlib.Omega.{arith}
use lib.ListN.{length, take, drop, length-take, length-drop, take-append-drop}
use lib.Seq.{take-add, drop_at, drop-drop, length-take-le}
use Rattle.slots.specs.declared.Head.{Head}
use Rattle.slots.specs.Layout.{HasSlot, key_at, value_at, digest_at, place, room, Slot, slot, count_of, digest_of, key_of, value_of, IsEntry, IsFree, head_of}
use Rattle.runs.specs.Runs.{part, zeros, padded, Decides}
use Rattle.runs.proofs.Runs.{part_length}
use Rattle.slots.proofs.Lenses.{slot-fits}
use Rattle.runs.proofs.Testing.{clash, decides-via}

-- ---- padding

module _ (xs : List ℕ) (m n : ℕ) (l : length xs ≡ m) (p : n ≤ m) where
  size-front : length (take n xs) ≡ n
  size-front = length-take-le n xs (omega arith)

  pub pad-of : drop n xs ≡ zeros (m - n) → xs ≡ padded m (take n xs)
  unfolding padded
  pad-of e = sym (take-append-drop n xs) ∙ ap (λ (z : List ℕ). take n xs ++ z) (e ∙ ap (λ (k : ℕ). zeros (m - k)) (sym size-front))

  pub of-pad : xs ≡ padded m (take n xs) → drop n xs ≡ zeros (m - n)
  unfolding padded
  of-pad e = ap (drop n) e ∙ drop_at (take n xs) (zeros (m - length (take n xs))) n size-front ∙ ap (λ (k : ℕ). zeros (m - k)) size-front

-- the end of a run
tail-part : (s : List ℕ) (a m n : ℕ) → a + m ≤ length s → n ≤ m → part (a + n) (m - n) s ≡ drop n (part a m s)
tail-part s a m n p q =
    let e : n + (m - n) ≡ m = omega arith in
    sym (ap (λ (k : ℕ). drop n (take k (drop a s))) (sym e)
    ∙ ap (drop n) (take-add n (m - n) (drop a s))
    ∙ drop_at (take n (drop a s)) (take (m - n) (drop n (drop a s))) n (length-take-le n (drop a s) (omega (arith, length-drop a s)))
    ∙ ap (take (m - n)) (drop-drop n a s))

module _ (s : List ℕ) (a n : ℕ) (b : Bool) where
  pub padded-by : (m : ℕ) → a + m ≤ length s → n ≤ m → Decides b (part (a + n) (m - n) s ≡ zeros (m - n)) → Decides b (part a m s ≡ padded m (take n (part a m s)))
  padded-by m p q d =
      decides-via b
      (λ z. pad-of (part a m s) m n (part_length a m s p) q (sym (tail-part s a m n p q) ∙ z))
      (λ z. tail-part s a m n p q ∙ of-pad (part a m s) m n (part_length a m s p) q z)
      d

  -- the room that a slot has there
  pub room-padded : (m : ℕ) {r : List ℕ} → part a m s ≡ r → Decides b (part a m s ≡ padded m (take n (part a m s))) → Decides b (r ≡ padded m (take n r))
  room-padded m e = subst (λ (x : List ℕ). Decides b (x ≡ padded m (take n x))) e

-- a test that failed
pub refuses : {P : Type 0} (b : Bool) → b ≡ false → (P → ⊥) → Decides b P
refuses true e n = absurd (clash refl e)
refuses false e n = n

-- ---- an entry's slot

module _ (s : List ℕ) (i : ℕ) (h : Head) (p : HasSlot (length s) i) (e : h ≡ head_of (slot s i) (count_of s i)) where
  pub is_live : IsEntry s i → h.live ≡ true
  is_live q = ap (λ (z : Head). z.live) e ∙ ap (λ (v : Slot). v.live) q

  pub is-short : IsEntry s i → h.key_length ≤ 48
  is-short q =
      let a : h.key_length ≡ length (key_of (slot s i)) = ap (λ (z : Head). z.key_length) e ∙ ap (λ (v : Slot). v.key_length) q in
      omega (arith, length-take (slot s i).key_length (slot s i).key_room, (slot-fits s i p).key_room)

  pub is-small : IsEntry s i → h.value_length ≤ 64
  is-small q =
      let a : h.value_length ≡ length (value_of (slot s i)) = ap (λ (z : Head). z.value_length) e ∙ ap (λ (v : Slot). v.value_length) q in
      omega (arith, length-take (slot s i).value_length (slot s i).value_room, (slot-fits s i p).value_room)

  pub is_key : IsEntry s i → (slot s i).key_room ≡ padded 48 (take h.key_length (slot s i).key_room)
  is_key q = ap (λ (v : Slot). v.key_room) q ∙ ap (λ (z : Head). padded 48 (take z.key_length (slot s i).key_room)) (sym e)

  pub is-value : IsEntry s i → (slot s i).value_room ≡ padded 64 (take h.value_length (slot s i).value_room)
  is-value q = ap (λ (v : Slot). v.value_room) q ∙ ap (λ (z : Head). padded 64 (take z.value_length (slot s i).value_room)) (sym e)

  pub entry-by : h.live ≡ true → h.key_length ≤ 48 → h.value_length ≤ 64 → (slot s i).key_room ≡ padded 48 (take h.key_length (slot s i).key_room)
      → (slot s i).value_room ≡ padded 64 (take h.value_length (slot s i).value_room) → IsEntry s i
  entry-by l k v ek ev =
      let f = slot-fits s i p in
      let kl : h.key_length ≡ (slot s i).key_length = ap (λ (y : Head). y.key_length) e in
      let vl : h.value_length ≡ (slot s i).value_length = ap (λ (y : Head). y.value_length) e in
      let ll : (slot s i).live ≡ true = sym (ap (λ (y : Head). y.live) e) ∙ l in
      let kn : (slot s i).key_length ≡ length (key_of (slot s i)) = omega (arith, length-take (slot s i).key_length (slot s i).key_room, f.key_room) in
      let vn : (slot s i).value_length ≡ length (value_of (slot s i)) = omega (arith, length-take (slot s i).value_length (slot s i).value_room, f.value_room) in
      let kk : (slot s i).key_room ≡ padded 48 (key_of (slot s i)) = ek ∙ ap (λ (n : ℕ). padded 48 (take n (slot s i).key_room)) kl in
      let vv : (slot s i).value_room ≡ padded 64 (value_of (slot s i)) = ev ∙ ap (λ (n : ℕ). padded 64 (take n (slot s i).value_room)) vl in
      λ j.
      record {
        live = ll j;
        red = (slot s i).red;
        left = (slot s i).left;
        right = (slot s i).right;
        key_length = kn j;
        value_length = vn j;
        key_room = kk j;
        value_room = vv j;
      }

-- ---- a free slot

module _ (s : List ℕ) (i : ℕ) where
  pub key-at-is : (a : ℕ) → a ≡ key_at (length s) i → part a 48 s ≡ (slot s i).key_room
  unfolding slot room place
  key-at-is a e = ap (λ (k : ℕ). part k 48 s) e

  pub value-at-is : (a : ℕ) → a ≡ value_at (length s) i → part a 64 s ≡ (slot s i).value_room
  unfolding slot room place
  value-at-is a e = ap (λ (k : ℕ). part k 64 s) e

  pub digest-at-is : (a : ℕ) → a ≡ digest_at (length s) i → part a 32 s ≡ digest_of s i
  unfolding digest_of room place
  digest-at-is a e = ap (λ (k : ℕ). part k 32 s) e

  module _ (h : Head) (e : h ≡ head_of (slot s i) (count_of s i)) where
    pub free-by : h.live ≡ false → h.red ≡ false → h.right ≡ 0 → h.key_length ≡ 0 → h.value_length ≡ 0 → h.count ≡ 0 → (slot s i).key_room ≡ zeros 48 → (slot s i).value_room ≡ zeros 64 → digest_of s i ≡ zeros 32 → IsFree s i
    free-by a b c k v z ek ev ed =
        let ll = sym (ap (λ (y : Head). y.live) e) ∙ a in
        let rr = sym (ap (λ (y : Head). y.red) e) ∙ b in
        let tt = sym (ap (λ (y : Head). y.right) e) ∙ c in
        let kk = sym (ap (λ (y : Head). y.key_length) e) ∙ k in
        let vv = sym (ap (λ (y : Head). y.value_length) e) ∙ v in
        let zz = sym (ap (λ (y : Head). y.count) e) ∙ z in
        (λ j. record { live = ll j; red = rr j; left = (slot s i).left; right = tt j; key_length = kk j; value_length = vv j; key_room = ek j; value_room = ev j }, λ j. record { count = zz j; digest = ed j })
