-- The rooms of a store: no byte lies in two, every byte lies in one; what is written into one is read back there, and the others stay.
-- Where the rooms lie is used here alone.
use mathlib.Core.Path.{◌≡◌, refl, sym, ap, ◌∙◌}
use mathlib.Core.Bool.{Bool, true, false}
use mathlib.Core.Logic.{◌≢◌}
use mathlib.Core.List.{List, [], ◌∷◌, ◌++◌, append_assoc}
use Prim.Native.Nat.{ℕ, zero, suc, ◌+◌, ◌-◌, ◌*◌, ◌/◌, ◌%◌, ◌≤◌, ◌<◌}
use native.Mathlib.Nat.{div-add-mod', mod-lt}
use native.Mathlib.Omega.{arith}
use borrow.Author.Tests.{ltb-true, ltb-false}
use lib.Dec.{ltb, lit<}
use lib.ListN.{length, get_or, set, take, drop}
use lib.Seq.{sets, length-sets, sets-eq, set-get_or, drop-cons, get_or-take, get_or-drop, ext_get_or, drop_at, take_at, length-take-le}
use Rattle.runs.specs.Bits.{Bytes}
use Rattle.slots.specs.Limits.{store_length}
use Rattle.slots.specs.Layout.{HasSlot, head_at, key_at, value_at, digest_at, Room, TheHeader, HeadOf, KeyOf, ValueOf, DigestOf, place, size, room}
use Rattle.runs.specs.Runs.{part}
use Rattle.slots.specs.Setters.{put_room}
use Rattle.runs.proofs.Runs.{part_length, get_d-out}

-- ---- places

-- a store of n bytes has the room
abbrev pub Within : ℕ → Room → Type 0
Within n TheHeader = 8 ≤ n
Within n (HeadOf i) = HasSlot n i
Within n (KeyOf i) = HasSlot n i
Within n (ValueOf i) = HasSlot n i
Within n (DigestOf i) = HasSlot n i

-- two rooms are the same when both numbers are
abbrev kind : Room → ℕ
kind TheHeader = 0
kind (HeadOf i) = 1
kind (KeyOf i) = 2
kind (ValueOf i) = 3
kind (DigestOf i) = 4

abbrev number : Room → ℕ
number TheHeader = 0
number (HeadOf i) = i
number (KeyOf i) = i
number (ValueOf i) = i
number (DigestOf i) = i

abbrev pub Other : Room → Room → Type 0
Other r t = kind r ≡ kind t → number r ≡ number t → ⊥

pub fits : (n : ℕ) (r : Room) → Within n r → place n r + size r ≤ n
unfolding place head_at key_at value_at digest_at
fits n TheHeader p = p
fits n (HeadOf i) p = omega arith
fits n (KeyOf i) p = omega arith
fits n (ValueOf i) p = omega arith
fits n (DigestOf i) p = omega arith

-- no byte lies in two rooms
pub apart : (n : ℕ) (r t : Room) → Within n r → Within n t → Other r t → (k : ℕ) → place n r ≤ k → k < place n r + size r → place n t ≤ k → k < place n t + size t → ⊥
unfolding place head_at key_at value_at digest_at
apart n TheHeader TheHeader p q o k a b c d = absurd (o refl refl)
apart n TheHeader (HeadOf j) p q o k a b c d = omega arith
apart n TheHeader (KeyOf j) p q o k a b c d = omega arith
apart n TheHeader (ValueOf j) p q o k a b c d = omega arith
apart n TheHeader (DigestOf j) p q o k a b c d = omega arith
apart n (HeadOf i) TheHeader p q o k a b c d = omega arith
apart n (HeadOf i) (HeadOf j) p q o k a b c d = let ne : i ≢ j = o refl in omega arith
apart n (HeadOf i) (KeyOf j) p q o k a b c d = omega arith
apart n (HeadOf i) (ValueOf j) p q o k a b c d = omega arith
apart n (HeadOf i) (DigestOf j) p q o k a b c d = omega arith
apart n (KeyOf i) TheHeader p q o k a b c d = omega arith
apart n (KeyOf i) (HeadOf j) p q o k a b c d = omega arith
apart n (KeyOf i) (KeyOf j) p q o k a b c d = let ne : i ≢ j = o refl in omega arith
apart n (KeyOf i) (ValueOf j) p q o k a b c d = omega arith
apart n (KeyOf i) (DigestOf j) p q o k a b c d = omega arith
apart n (ValueOf i) TheHeader p q o k a b c d = omega arith
apart n (ValueOf i) (HeadOf j) p q o k a b c d = omega arith
apart n (ValueOf i) (KeyOf j) p q o k a b c d = omega arith
apart n (ValueOf i) (ValueOf j) p q o k a b c d = let ne : i ≢ j = o refl in omega arith
apart n (ValueOf i) (DigestOf j) p q o k a b c d = omega arith
apart n (DigestOf i) TheHeader p q o k a b c d = omega arith
apart n (DigestOf i) (HeadOf j) p q o k a b c d = omega arith
apart n (DigestOf i) (KeyOf j) p q o k a b c d = omega arith
apart n (DigestOf i) (ValueOf j) p q o k a b c d = omega arith
apart n (DigestOf i) (DigestOf j) p q o k a b c d = let ne : i ≢ j = o refl in omega arith

-- every byte lies in a room
record Lies (n k : ℕ) : Type 0 where
  in-room : Room
  within : Within n in-room
  from : place n in-room ≤ k
  upto : k < place n in-room + size in-room

lies : (cap k : ℕ) → cap < 2048 → k < store_length cap → Lies (store_length cap) k
unfolding place head_at key_at value_at digest_at
lies cap k p q = front (ltb k 8) refl
  where
    i : ℕ
    i = (k - 8) / 150 + 1

    here : 8 ≤ k → HasSlot (store_length cap) i
    here l = let e = div-add-mod' (k - 8) 150 in record { low = omega arith; high = omega arith; fits = omega arith }

    slots : 8 ≤ k → Lies (store_length cap) k
    slots l = head (ltb ((k - 8) % 150) 6) refl
      where
        e : (k - 8) / 150 * 150 + (k - 8) % 150 ≡ k - 8
        e = div-add-mod' (k - 8) 150

        m : (k - 8) % 150 < 150
        m = mod-lt (k - 8) (lit< tt)

        digest : (b : Bool) → ltb ((k - 8) % 150) 118 ≡ b → 54 ≤ (k - 8) % 150 → Lies (store_length cap) k
        digest true x y = let z = ltb-true ((k - 8) % 150) 118 x in record { in-room = ValueOf i; within = here l; from = omega (arith, e); upto = omega (arith, e) }
        digest false x y = let z = ltb-false ((k - 8) % 150) 118 x in record { in-room = DigestOf i; within = here l; from = omega (arith, e); upto = omega (arith, e, m) }

        value : (b : Bool) → ltb ((k - 8) % 150) 54 ≡ b → 6 ≤ (k - 8) % 150 → Lies (store_length cap) k
        value true x y = let z = ltb-true ((k - 8) % 150) 54 x in record { in-room = KeyOf i; within = here l; from = omega (arith, e); upto = omega (arith, e) }
        value false x y = digest (ltb ((k - 8) % 150) 118) refl (ltb-false ((k - 8) % 150) 54 x)

        head : (b : Bool) → ltb ((k - 8) % 150) 6 ≡ b → Lies (store_length cap) k
        head true x = let z = ltb-true ((k - 8) % 150) 6 x in record { in-room = HeadOf i; within = here l; from = omega (arith, e); upto = omega (arith, e) }
        head false x = value (ltb ((k - 8) % 150) 54) refl (ltb-false ((k - 8) % 150) 6 x)

    front : (b : Bool) → ltb k 8 ≡ b → Lies (store_length cap) k
    front true x = record { in-room = TheHeader; within = omega arith; from = omega arith; upto = ltb-true k 8 x }
    front false x = slots (ltb-false k 8 x)

-- ---- runs of bytes

get_d_part : (a n : ℕ) (s : List ℕ) (d : ℕ) → d < n → get_or (part a n s) d 0 ≡ get_or s (a + d) 0
get_d_part a n s d p = get_or-take n (drop a s) d 0 p ∙ get_or-drop a s d 0

part_at : (s : List ℕ) (a : ℕ) (xs : List ℕ) (n : ℕ) → length xs ≡ n → a + n ≤ length s → part a n (sets s a xs) ≡ xs
part_at s a xs n e p =
    ap (part a n) (sets-eq xs s a (omega arith) ∙ append_assoc (take a s) xs (drop (a + length xs) s))
    ∙ ap (take n) (drop_at (take a s) (xs ++ drop (a + length xs) s) a (length-take-le a s (omega arith)))
    ∙ take_at xs (drop (a + length xs) s) n e

-- two runs of the same bytes
part-eq : (s t : List ℕ) (a b n : ℕ) → a + n ≤ length s → b + n ≤ length t → ((d : ℕ) → d < n → get_or s (a + d) 0 ≡ get_or t (b + d) 0) → part a n s ≡ part b n t
part-eq s t a b n p q f =
    ext_get_or 0 (part a n s) (part b n t) (part_length a n s p ∙ sym (part_length b n t q))
    (λ d l.
    let h : d < n = omega (arith, part_length a n s p) in
    get_d_part a n s d h ∙ f d h ∙ sym (get_d_part b n t d h))

-- writing what is there
sets-part : (n a : ℕ) (s : List ℕ) → a + n ≤ length s → sets s a (part a n s) ≡ s
sets-part zero a s p = refl
sets-part (suc n) a s p =
    let l : a < length s = omega arith in
    ap (λ (z : List ℕ). sets s a (take (suc n) z)) (drop-cons s a 0 l)
    ∙ ap (λ (z : List ℕ). sets z (suc a) (part (suc a) n s)) (set-get_or s a 0)
    ∙ sets-part n (suc a) s (omega arith)

bytes-set : (s : List ℕ) (i x : ℕ) → Bytes s → x < 256 → Bytes (set s i x)
bytes-set [] i x b p k = b k
bytes-set (y ∷ s) zero x b p zero = p
bytes-set (y ∷ s) zero x b p (suc k) = b (suc k)
bytes-set (y ∷ s) (suc i) x b p zero = b 0
bytes-set (y ∷ s) (suc i) x b p (suc k) = bytes-set s i x (λ j. b (suc j)) p k

bytes-sets : (s : List ℕ) (a : ℕ) (xs : List ℕ) → Bytes s → Bytes xs → Bytes (sets s a xs)
bytes-sets s a [] b c = b
bytes-sets s a (x ∷ xs) b c = bytes-sets (set s a x) (suc a) xs (bytes-set s a x b (c 0)) (λ k. c (suc k))

bytes_take : (n : ℕ) (s : List ℕ) → Bytes s → Bytes (take n s)
bytes_take zero s b k = lit< tt
bytes_take (suc n) [] b k = lit< tt
bytes_take (suc n) (x ∷ s) b zero = b 0
bytes_take (suc n) (x ∷ s) b (suc k) = bytes_take n s (λ j. b (suc j)) k

-- ---- rooms

pub room-length : (s : List ℕ) (r : Room) → Within (length s) r → length (room s r) ≡ size r
unfolding room
room-length s r p = part_length (place (length s) r) (size r) s (fits (length s) r p)

pub bytes-room : (s : List ℕ) (r : Room) → Bytes s → Bytes (room s r)
unfolding room
bytes-room s r b = bytes_take (size r) (drop (place (length s) r) s) (λ k. rw (get_or-drop (place (length s) r) s k 0) (b (place (length s) r + k)))

-- a byte of a store, in its room
get_d-room : (s : List ℕ) (r : Room) (k : ℕ) → place (length s) r ≤ k → k < place (length s) r + size r → get_or s k 0 ≡ get_or (room s r) (k - place (length s) r) 0
unfolding room
get_d-room s r k p q =
    let e : place (length s) r + (k - place (length s) r) ≡ k = omega arith in
    sym (get_d_part (place (length s) r) (size r) s (k - place (length s) r) (omega arith) ∙ ap (λ (z : ℕ). get_or s z 0) e)

module _ (s : List ℕ) (r : Room) (xs : List ℕ) where
  pub length-put_room : length (put_room s r xs) ≡ length s
  unfolding put_room
  length-put_room = length-sets s (place (length s) r) xs

  pub bytes-put_room : Bytes s → Bytes xs → Bytes (put_room s r xs)
  unfolding put_room
  bytes-put_room b c = bytes-sets s (place (length s) r) xs b c

  module _ (p : Within (length s) r) (e : length xs ≡ size r) where
    pub room-same : room (put_room s r xs) r ≡ xs
    unfolding room
    room-same = rw length-put_room (unfold put_room in part_at s (place (length s) r) xs (size r) e (fits (length s) r p))

    pub room-other : (t : Room) → Within (length s) t → Other r t → room (put_room s r xs) t ≡ room s t
    unfolding room
    room-other t q o =
        rw length-put_room
        (part-eq (put_room s r xs) s (place (length s) t) (place (length s) t) (size t) (rw length-put_room (fits (length s) t q)) (fits (length s) t q)
        (λ d l. unfold put_room in get_d-out s (place (length s) r) xs (place (length s) t + d) (λ x y. apart (length s) r t p q o (place (length s) t + d) x (omega arith) (omega arith) (omega arith))))

-- writing what is there changes nothing
pub room-id : (s : List ℕ) (r : Room) → Within (length s) r → put_room s r (room s r) ≡ s
unfolding room put_room
room-id s r p = sets-part (size r) (place (length s) r) s (fits (length s) r p)

-- stores with the same rooms are the same
pub same-rooms : (cap : ℕ) (s t : List ℕ) → cap < 2048 → length s ≡ store_length cap → length t ≡ store_length cap
    → ((r : Room) → Within (store_length cap) r → room s r ≡ room t r) → s ≡ t
same-rooms cap s t p e f h = ext_get_or 0 s t (e ∙ sym f) (λ k l. at k (lies cap k p (omega arith)))
  where
    at : (k : ℕ) → Lies (store_length cap) k → get_or s k 0 ≡ get_or t k 0
    at k y =
        let r : Room = y.in-room in
        get_d-room s r k (rw e y.from) (rw e y.upto)
        ∙ ap (λ (z : List ℕ). get_or z (k - place (length s) r) 0) (h r y.within)
        ∙ ap (λ (n : ℕ). get_or (room t r) (k - place n r) 0) (e ∙ sym f)
        ∙ sym (get_d-room t r k (rw f y.from) (rw f y.upto))
