-- Whole stores: a store is determined by its header, slots and marks, and is the bytes put together from them.
use mathlib.Core.Path.{◌≡◌, refl, sym, ap, subst, ◌∙◌}
use mathlib.Core.Logic.{◌⊎◌, ⊎_elim}
use mathlib.Core.List.{List}
use Prim.Native.Nat.{ℕ, zero, suc, ◌≤◌, ◌<◌}
use native.Mathlib.Nat.{eq-or-lt_of_le}
use native.Mathlib.Omega.{arith}
use lib.ListN.{length}
use Rattle.runs.specs.Bits.{Bytes}
use Rattle.slots.specs.declared.Header.{Header}
use Rattle.slots.specs.Limits.{store_length}
use Rattle.slots.specs.Layout.{HasSlot, Room, TheHeader, HeadOf, KeyOf, ValueOf, DigestOf, room, header, HeaderFits, Slot, slot, SlotFits, Mark, digest_of, mark_of}
use Rattle.runs.specs.Runs.{zeros}
use Rattle.slots.specs.Setters.{set_header, set_slot_as, set_digest, with_slots, bytes_of}
use Rattle.slots.proofs.Rooms.{Within, bytes-room, same-rooms}
use Rattle.slots.proofs.Lenses.{header_bytes, head_bytes, header-room, head-room, header-fits, slot-fits, count_fits, digest-length, length-set_header, bytes-set_header, header-set_header, slot-set_header, mark-set_header, length-set_digest, bytes-set_digest, mark-set_digest, mark-set_digest-other, slot-set_digest, length-set_slot_as, bytes-set_slot_as, slot-set_slot_as, slot-set_slot_as-other, mark-set_slot_as, mark-set_slot_as-other}
use Rattle.runs.proofs.Padding.{length-zeros, bytes-zeros}
use Rattle.slots.proofs.Writing.{bytes-key, bytes-value, bytes-digest}

-- something for each slot of a store of this capacity
abbrev pub Each : ℕ → (ℕ → Type 0) → Type 0
Each cap P = (i : ℕ) → 1 ≤ i → i ≤ cap → P i

-- a store of this capacity has these slots
pub has-slot : (cap n i : ℕ) → cap < 2048 → store_length cap ≤ n → 1 ≤ i → i ≤ cap → HasSlot n i
has-slot cap n i p q a b = record { low = a; high = omega arith; fits = omega arith }

-- ---- a store is determined by what is read of it

key-room : (s : List ℕ) (i : ℕ) → (slot s i).key_room ≡ room s (KeyOf i)
unfolding slot
key-room s i = refl

value_room_lem : (s : List ℕ) (i : ℕ) → (slot s i).value_room ≡ room s (ValueOf i)
unfolding slot
value_room_lem s i = refl

digest-room : (s : List ℕ) (i : ℕ) → digest_of s i ≡ room s (DigestOf i)
unfolding digest_of
digest-room s i = refl

module _ (cap : ℕ) (s t : List ℕ) (few : cap < 2048) (bs : Bytes s) (bt : Bytes t) (ls : length s ≡ store_length cap) (lt : length t ≡ store_length cap)
    (h : header s ≡ header t) (v : Each cap (λ i. slot s i ≡ slot t i)) (d : Each cap (λ i. mark_of s i ≡ mark_of t i)) where
  each : (r : Room) → Within (store_length cap) r → room s r ≡ room t r
  each TheHeader w =
      header-room s (bytes-room s TheHeader bs) (omega arith) ∙ ap header_bytes h ∙ sym (header-room t (bytes-room t TheHeader bt) (omega arith))
  each (HeadOf i) w =
      head-room s i (bytes-room s (HeadOf i) bs) (rw ls w) ∙ (λ j. head_bytes (v i w.low (omega arith) j) (d i w.low (omega arith) j).count) ∙ sym (head-room t i (bytes-room t (HeadOf i) bt) (rw lt w))
  each (KeyOf i) w = sym (key-room s i) ∙ ap (λ (z : Slot). z.key_room) (v i w.low (omega arith)) ∙ key-room t i
  each (ValueOf i) w = sym (value_room_lem s i) ∙ ap (λ (z : Slot). z.value_room) (v i w.low (omega arith)) ∙ value_room_lem t i
  each (DigestOf i) w = sym (digest-room s i) ∙ ap (λ (m : Mark). m.digest) (d i w.low (omega arith)) ∙ digest-room t i

  pub same_store : s ≡ t
  same_store = same-rooms cap s t few ls lt each

-- ---- a store put together

-- what a slot and its mark have to be to be put in place
pub record MarkFits (m : Mark) : Type 0 where
  pub count : m.count < 2048
  pub digest : length m.digest ≡ 32

module _ (f : ℕ → Slot) (d : ℕ → Mark) where
  -- the store before slot n + 1 is put in place, and with its slot and count but not its digest
  abbrev before : ℕ → List ℕ → List ℕ
  before n s = with_slots n f d s

  abbrev between : ℕ → List ℕ → List ℕ
  between n s = set_slot_as (before n s) (suc n) (f (suc n)) (d (suc n)).count

  length-with_slots : (n : ℕ) (s : List ℕ) → length (with_slots n f d s) ≡ length s
  unfolding with_slots
  length-with_slots zero s = refl
  length-with_slots (suc n) s =
      length-set_digest (between n s) (suc n) (d (suc n)).digest ∙ length-set_slot_as (before n s) (suc n) (f (suc n)) (d (suc n)).count ∙ length-with_slots n s

  bytes-with_slots : (n : ℕ) (s : List ℕ) → Bytes s → Each n (λ i. Bytes (f i).key_room) → Each n (λ i. Bytes (f i).value_room) → Each n (λ i. Bytes (d i).digest) → Bytes (with_slots n f d s)
  unfolding with_slots
  bytes-with_slots zero s b x y z = b
  bytes-with_slots (suc n) s b x y z =
      bytes-set_digest (between n s) (suc n) (d (suc n)).digest
      (bytes-set_slot_as (before n s) (suc n) (f (suc n)) (d (suc n)).count (bytes-with_slots n s b (λ i p q. x i p (omega arith)) (λ i p q. y i p (omega arith)) (λ i p q. z i p (omega arith))) (x (suc n) (omega arith) (omega arith)) (y (suc n) (omega arith) (omega arith)))
      (z (suc n) (omega arith) (omega arith))

  module _ (cap : ℕ) (s : List ℕ) (few : cap < 2048) (long : store_length cap ≤ length s) (ok : Each cap (λ i. SlotFits (f i))) (wide : Each cap (λ i. MarkFits (d i))) where
    has0 : (n i : ℕ) → 1 ≤ i → i ≤ cap → HasSlot (length (before n s)) i
    has0 n i a b = has-slot cap (length (before n s)) i few (rw (length-with_slots n s) long) a b

    has1 : (n i : ℕ) → 1 ≤ i → i ≤ cap → HasSlot (length (between n s)) i
    has1 n i a b = subst (λ (m : ℕ). HasSlot m i) (sym (length-set_slot_as (before n s) (suc n) (f (suc n)) (d (suc n)).count)) (has0 n i a b)

    slot-with_slots : (n : ℕ) → n ≤ cap → Each n (λ i. slot (before n s) i ≡ f i)
    unfolding with_slots
    slot-with_slots zero p i a b = absurd (omega arith)
    slot-with_slots (suc n) p i a b = slot-set_digest (between n s) (suc n) (d (suc n)).digest (has1 n (suc n) (omega arith) p) (wide (suc n) (omega arith) p).digest i (has1 n i a (omega arith)) ∙ go (slot-with_slots n (omega arith)) (eq-or-lt_of_le b)
      where
        here : HasSlot (length (before n s)) (suc n)
        here = has0 n (suc n) (omega arith) p

        go : Each n (λ j. slot (before n s) j ≡ f j) → (i ≡ suc n) ⊎ (i < suc n) → slot (between n s) i ≡ f i
        go r = ⊎_elim
            (λ (e : i ≡ suc n). ap (slot (between n s)) e ∙ slot-set_slot_as (before n s) (suc n) (f (suc n)) (d (suc n)).count here (ok (suc n) (omega arith) p) (wide (suc n) (omega arith) p).count ∙ ap f (sym e))
            (λ (l : i < suc n). slot-set_slot_as-other (before n s) (suc n) (f (suc n)) (d (suc n)).count here (ok (suc n) (omega arith) p) (wide (suc n) (omega arith) p).count i (has0 n i a (omega arith)) (λ e. omega arith) ∙ r i a (omega arith))

    mark-with_slots : (n : ℕ) → n ≤ cap → Each n (λ i. mark_of (before n s) i ≡ d i)
    unfolding with_slots
    mark-with_slots zero p i a b = absurd (omega arith)
    mark-with_slots (suc n) p i a b = go (mark-with_slots n (omega arith)) (eq-or-lt_of_le b)
      where
        here : HasSlot (length (before n s)) (suc n)
        here = has0 n (suc n) (omega arith) p

        put : mark_of (set_digest (between n s) (suc n) (d (suc n)).digest) (suc n) ≡ d (suc n)
        put =
            mark-set_digest (between n s) (suc n) (d (suc n)).digest (has1 n (suc n) (omega arith) p) (wide (suc n) (omega arith) p).digest
            ∙ (λ j. record { count = (mark-set_slot_as (before n s) (suc n) (f (suc n)) (d (suc n)).count here (ok (suc n) (omega arith) p) (wide (suc n) (omega arith) p).count j).count; digest = (d (suc n)).digest })

        go : Each n (λ j. mark_of (before n s) j ≡ d j) → (i ≡ suc n) ⊎ (i < suc n) → mark_of (set_digest (between n s) (suc n) (d (suc n)).digest) i ≡ d i
        go r = ⊎_elim
            (λ (e : i ≡ suc n). ap (mark_of (set_digest (between n s) (suc n) (d (suc n)).digest)) e ∙ put ∙ ap d (sym e))
            (λ (l : i < suc n). mark-set_digest-other (between n s) (suc n) (d (suc n)).digest (has1 n (suc n) (omega arith) p) (wide (suc n) (omega arith) p).digest i (has1 n i a (omega arith)) (λ e. omega arith)
            ∙ mark-set_slot_as-other (before n s) (suc n) (f (suc n)) (d (suc n)).count here (ok (suc n) (omega arith) p) (wide (suc n) (omega arith) p).count i (has0 n i a (omega arith)) (λ e. omega arith) ∙ r i a (omega arith))

module _ (h : Header) (cap : ℕ) (f : ℕ → Slot) (d : ℕ → Mark) where
  abbrev blank : List ℕ
  blank = with_slots cap f d (zeros (store_length cap))

  length-blank : length blank ≡ store_length cap
  length-blank = length-with_slots f d cap (zeros (store_length cap)) ∙ length-zeros (store_length cap)

  pub length-bytes_of : length (bytes_of h cap f d) ≡ store_length cap
  unfolding bytes_of
  length-bytes_of = length-set_header blank h ∙ length-blank

  pub bytes-bytes_of : Each cap (λ i. Bytes (f i).key_room) → Each cap (λ i. Bytes (f i).value_room) → Each cap (λ i. Bytes (d i).digest) → Bytes (bytes_of h cap f d)
  unfolding bytes_of
  bytes-bytes_of x y z = bytes-set_header blank h (bytes-with_slots f d cap (zeros (store_length cap)) (bytes-zeros (store_length cap)) x y z)

  pub header-bytes_of : HeaderFits h → header (bytes_of h cap f d) ≡ h
  unfolding bytes_of
  header-bytes_of p = header-set_header blank h (omega (arith, length-blank)) p

  module _ (few : cap < 2048) (ok : Each cap (λ i. SlotFits (f i))) (wide : Each cap (λ i. MarkFits (d i))) where
    roomy : store_length cap ≤ length (zeros (store_length cap))
    roomy = omega (arith, length-zeros (store_length cap))

    pub slot-bytes_of : Each cap (λ i. slot (bytes_of h cap f d) i ≡ f i)
    unfolding bytes_of
    slot-bytes_of i a b =
        slot-set_header blank h (omega (arith, length-blank)) i (has-slot cap (length blank) i few (omega (arith, length-blank)) a b)
        ∙ slot-with_slots f d cap (zeros (store_length cap)) few roomy ok wide cap (omega arith) i a b

    pub mark-bytes_of : Each cap (λ i. mark_of (bytes_of h cap f d) i ≡ d i)
    unfolding bytes_of
    mark-bytes_of i a b =
        mark-set_header blank h (omega (arith, length-blank)) i (has-slot cap (length blank) i few (omega (arith, length-blank)) a b)
        ∙ mark-with_slots f d cap (zeros (store_length cap)) few roomy ok wide cap (omega arith) i a b

-- only the slots up to the capacity count
module _ {f f' : ℕ → Slot} {d d' : ℕ → Mark} where
  with_slots-same : (n : ℕ) (s : List ℕ) → Each n (λ i. f i ≡ f' i) → Each n (λ i. d i ≡ d' i) → with_slots n f d s ≡ with_slots n f' d' s
  unfolding with_slots
  with_slots-same zero s x y = refl
  with_slots-same (suc n) s x y =
      let r = with_slots-same n s (λ i p q. x i p (omega arith)) (λ i p q. y i p (omega arith)) in
      let a = x (suc n) (omega arith) (omega arith) in
      let b = y (suc n) (omega arith) (omega arith) in
      λ j. set_digest (set_slot_as (r j) (suc n) (a j) (b j).count) (suc n) (b j).digest

  pub bytes_of-same : {h h' : Header} (cap : ℕ) → h ≡ h' → Each cap (λ i. f i ≡ f' i) → Each cap (λ i. d i ≡ d' i) → bytes_of h cap f d ≡ bytes_of h' cap f' d'
  unfolding bytes_of
  bytes_of-same cap e x y = let r = with_slots-same cap (zeros (store_length cap)) x y in λ j. set_header (r j) (e j)

-- ---- a store is put together from what is read of it

module _ (cap : ℕ) (s : List ℕ) (few : cap < 2048) (b : Bytes s) (l : length s ≡ store_length cap) where
  fit : Each cap (λ i. SlotFits (slot s i))
  fit i p q = slot-fits s i (has-slot cap (length s) i few (omega arith) p q)

  wide : Each cap (λ i. MarkFits (mark_of s i))
  wide i p q = record { count = count_fits s i; digest = digest-length s i (has-slot cap (length s) i few (omega arith) p q) }

  pub bytes_of-read : bytes_of (header s) cap (slot s) (mark_of s) ≡ s
  bytes_of-read =
      same_store cap (bytes_of (header s) cap (slot s) (mark_of s)) s few
      (bytes-bytes_of (header s) cap (slot s) (mark_of s) (λ i p q. bytes-key s i b) (λ i p q. bytes-value s i b) (λ i p q. bytes-digest s i b))
      b
      (length-bytes_of (header s) cap (slot s) (mark_of s))
      l
      (header-bytes_of (header s) cap (slot s) (mark_of s) (header-fits s))
      (slot-bytes_of (header s) cap (slot s) (mark_of s) few fit wide)
      (mark-bytes_of (header s) cap (slot s) (mark_of s) few fit wide)

  -- the bytes of a header, slots and marks are the only store that they are read of
  pub is-bytes_of : (h : Header) (f : ℕ → Slot) (d : ℕ → Mark) → header s ≡ h → Each cap (λ i. slot s i ≡ f i) → Each cap (λ i. mark_of s i ≡ d i) → s ≡ bytes_of h cap f d
  is-bytes_of h f d eh ef ed = sym bytes_of-read ∙ bytes_of-same cap eh ef ed
