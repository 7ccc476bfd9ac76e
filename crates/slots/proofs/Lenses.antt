-- The lens laws: a header, a slot, a count or a digest that is put in place is read back, and all the rest stays.
use mathlib.Core.Path.{◌≡◌, refl, sym, ap, subst, ◌∙◌}
use mathlib.Core.List.{List, [], ◌∷◌}
use Prim.Native.Nat.{ℕ, ◌/◌, ◌%◌, ◌^◌, ◌≤◌, ◌<◌}
use native.Mathlib.Nat.{mod-lt}
use native.Mathlib.Omega.{arith}
use lib.Dec.{lit<}
use lib.ListN.{length, get_or}
use Rattle.runs.specs.Bits.{joined, fields, recut, Fit, octets, Bytes}
use Rattle.slots.specs.declared.Header.{Header}
use Rattle.slots.specs.Layout.{HasSlot, Room, TheHeader, HeadOf, KeyOf, ValueOf, DigestOf, room, header_widths, header_values, header_from, header, HeaderFits, Slot, head_widths, head_values, slot_from, slot, SlotFits, count_of, digest_of, mark_of}
use Rattle.slots.specs.Setters.{put_room, set_header, set_slot_as, set_digest}
use Rattle.runs.proofs.Recut.{recut-fit, recut-back, fit_length, bytes_fit, fit-bytes, flag-bit, bit-flag, bit-lt}
use Rattle.slots.proofs.Rooms.{Within, Other, room-length, length-put_room, bytes-put_room, room-same, room-other, room-id}

-- ---- what is read fits

pub header-fits : (s : List ℕ) → HeaderFits (header s)
unfolding header recut fields
header-fits s =
    let f = recut-fit (octets 8) header_widths (room s TheHeader) in
    record { edition = f.0; capacity = f.1.0; live = f.1.1.0; root = f.1.1.1.0; free = f.1.1.1.1.0; zero = f.1.1.1.1.1.0 }

pub slot-fits : (s : List ℕ) (i : ℕ) → HasSlot (length s) i → SlotFits (slot s i)
unfolding slot recut fields
slot-fits s i p =
    let f = (recut-fit (octets 6) head_widths (room s (HeadOf i))).1.1 in
    record {
      left = f.0;
      right = f.1.0;
      key_length = f.1.1.0;
      value_length = f.1.1.1.0;
      key_room = room-length s (KeyOf i) p;
      value_room = room-length s (ValueOf i) p;
    }

pub count_fits : (s : List ℕ) (i : ℕ) → count_of s i < 2048
unfolding count_of recut fields
count_fits s i = (recut-fit (octets 6) head_widths (room s (HeadOf i))).1.1.1.1.1.1.0

pub digest-length : (s : List ℕ) (i : ℕ) → HasSlot (length s) i → length (digest_of s i) ≡ 32
unfolding digest_of
digest-length s i p = room-length s (DigestOf i) p

-- ---- records and lists of values

header-fit : {h : Header} → HeaderFits h → Fit header_widths (header_values h)
header-fit f = (f.edition, (f.capacity, (f.live, (f.root, (f.free, (f.zero, tt))))))

head-fit : {v : Slot} {n : ℕ} → SlotFits v → n < 2048 → Fit head_widths (head_values v n)
head-fit {v} f c = (bit-lt v.live, (bit-lt v.red, (f.left, (f.right, (f.key_length, (f.value_length, (c, tt)))))))

slot-values : (v : Slot) (n : ℕ) → slot_from (head_values v n) v.key_room v.value_room ≡ v
slot-values v n =
    λ j.
    record {
      live = flag-bit v.live j;
      red = flag-bit v.red j;
      left = v.left;
      right = v.right;
      key_length = v.key_length;
      value_length = v.value_length;
      key_room = v.key_room;
      value_room = v.value_room;
    }

abbrev pub header_bytes : Header → List ℕ
header_bytes h = recut header_widths (octets 8) (header_values h)

abbrev pub head_bytes : Slot → (count : ℕ) → List ℕ
head_bytes v n = recut head_widths (octets 6) (head_values v n)

pub header-bytes-length : (h : Header) → length (header_bytes h) ≡ 8
header-bytes-length h = fit_length (octets 8) (header_bytes h) (recut-fit header_widths (octets 8) (header_values h))

pub head-bytes-length : (v : Slot) (n : ℕ) → length (head_bytes v n) ≡ 6
head-bytes-length v n = fit_length (octets 6) (head_bytes v n) (recut-fit head_widths (octets 6) (head_values v n))

pub header-bytes-bytes : (h : Header) → Bytes (header_bytes h)
header-bytes-bytes h = bytes_fit 8 (header_bytes h) (recut-fit header_widths (octets 8) (header_values h))

pub head-bytes-bytes : (v : Slot) (n : ℕ) → Bytes (head_bytes v n)
head-bytes-bytes v n = bytes_fit 6 (head_bytes v n) (recut-fit head_widths (octets 6) (head_values v n))

-- a slot, its count and a header from their rooms, and back
module _ (s : List ℕ) (i : ℕ) (v : Slot) (n : ℕ) (f : SlotFits v) (few : n < 2048) (a : room s (HeadOf i) ≡ head_bytes v n) where
  values_of : recut (octets 6) head_widths (room s (HeadOf i)) ≡ head_values v n
  values_of = ap (recut (octets 6) head_widths) a ∙ recut-back head_widths (octets 6) (head_values v n) refl (head-fit f few)

  pub slot_of : room s (KeyOf i) ≡ v.key_room → room s (ValueOf i) ≡ v.value_room → slot s i ≡ v
  unfolding slot
  slot_of b c = (λ j. slot_from (values_of j) (b j) (c j)) ∙ slot-values v n

  pub count-of : count_of s i ≡ n
  unfolding count_of
  count-of = ap (λ (z : List ℕ). get_or z 6 0) values_of

pub slot_same : (s t : List ℕ) (i : ℕ) → room s (HeadOf i) ≡ room t (HeadOf i) → room s (KeyOf i) ≡ room t (KeyOf i) → room s (ValueOf i) ≡ room t (ValueOf i) → slot s i ≡ slot t i
unfolding slot
slot_same s t i a b c = λ j. slot_from (recut (octets 6) head_widths (a j)) (b j) (c j)

pub mark-same : (s t : List ℕ) (i : ℕ) → room s (HeadOf i) ≡ room t (HeadOf i) → room s (DigestOf i) ≡ room t (DigestOf i) → mark_of s i ≡ mark_of t i
unfolding count_of digest_of
mark-same s t i a b = λ j. record { count = get_or (recut (octets 6) head_widths (a j)) 6 0; digest = b j }

pub header_of : (s : List ℕ) (h : Header) → HeaderFits h → room s TheHeader ≡ header_bytes h → header s ≡ h
unfolding header
header_of s h f a =
    ap (λ (z : List ℕ). header_from (recut (octets 8) header_widths z)) a ∙ ap header_from (recut-back header_widths (octets 8) (header_values h) refl (header-fit f))

pub header-same : (s t : List ℕ) → room s TheHeader ≡ room t TheHeader → header s ≡ header t
unfolding header
header-same s t a = ap (λ (z : List ℕ). header_from (recut (octets 8) header_widths z)) a

pub header-room : (s : List ℕ) → Bytes (room s TheHeader) → 8 ≤ length s → room s TheHeader ≡ header_bytes (header s)
unfolding header
header-room s b p =
    let f : Fit (octets 8) (room s TheHeader) = fit-bytes 8 (room s TheHeader) (room-length s TheHeader p) b in
    sym (unfold recut fields in recut-back (octets 8) header_widths (room s TheHeader) refl f)

head-values : (h : ℕ) (k w : List ℕ) → head_values (slot_from (fields head_widths h) k w) (get_or (fields head_widths h) 6 0) ≡ fields head_widths h
unfolding fields
head-values h k w =
    λ j.
    bit-flag (h / 2 ^ 47 % 2) (mod-lt (h / 2 ^ 47) (lit< tt)) j ∷ bit-flag (h / 2 ^ 46 % 2) (mod-lt (h / 2 ^ 46) (lit< tt)) j ∷ h / 2 ^ 35 % 2 ^ 11 ∷ h / 2 ^ 24 % 2 ^ 11
    ∷ h / 2 ^ 18 % 2 ^ 6 ∷ h / 2 ^ 11 % 2 ^ 7 ∷ h / 2 ^ 0 % 2 ^ 11 ∷ []

slot-head : (s : List ℕ) (i : ℕ) → head_values (slot s i) (count_of s i) ≡ recut (octets 6) head_widths (room s (HeadOf i))
unfolding slot count_of recut
slot-head s i = head-values (joined (octets 6) (room s (HeadOf i))) (room s (KeyOf i)) (room s (ValueOf i))

pub head-room : (s : List ℕ) (i : ℕ) → Bytes (room s (HeadOf i)) → HasSlot (length s) i → room s (HeadOf i) ≡ head_bytes (slot s i) (count_of s i)
head-room s i b p =
    let xs : List ℕ = room s (HeadOf i) in
    let f : Fit (octets 6) xs = fit-bytes 6 xs (room-length s (HeadOf i) p) b in
    sym (ap (recut head_widths (octets 6)) (slot-head s i) ∙ recut-back (octets 6) head_widths xs refl f)

-- ---- a header put in place

module _ (s : List ℕ) (h : Header) where
  pub length-set_header : length (set_header s h) ≡ length s
  unfolding set_header
  length-set_header = length-put_room s TheHeader (header_bytes h)

  pub bytes-set_header : Bytes s → Bytes (set_header s h)
  unfolding set_header
  bytes-set_header b = bytes-put_room s TheHeader (header_bytes h) b (header-bytes-bytes h)

  module _ (p : 8 ≤ length s) where
    pub header-set_header : HeaderFits h → header (set_header s h) ≡ h
    header-set_header f = header_of (set_header s h) h f (unfold set_header in room-same s TheHeader (header_bytes h) p (header-bytes-length h))

    off-header : (t : Room) → Within (length s) t → Other TheHeader t → room (set_header s h) t ≡ room s t
    unfolding set_header
    off-header t q o = room-other s TheHeader (header_bytes h) p (header-bytes-length h) t q o

    pub slot-set_header : (j : ℕ) → HasSlot (length s) j → slot (set_header s h) j ≡ slot s j
    slot-set_header j q =
        slot_same (set_header s h) s j (off-header (HeadOf j) q (λ a b. omega arith)) (off-header (KeyOf j) q (λ a b. omega arith)) (off-header (ValueOf j) q (λ a b. omega arith))

    pub mark-set_header : (j : ℕ) → HasSlot (length s) j → mark_of (set_header s h) j ≡ mark_of s j
    mark-set_header j q = mark-same (set_header s h) s j (off-header (HeadOf j) q (λ a b. omega arith)) (off-header (DigestOf j) q (λ a b. omega arith))

-- ---- a digest put in place

module _ (s : List ℕ) (i : ℕ) (d : List ℕ) where
  pub length-set_digest : length (set_digest s i d) ≡ length s
  unfolding set_digest
  length-set_digest = length-put_room s (DigestOf i) d

  pub bytes-set_digest : Bytes s → Bytes d → Bytes (set_digest s i d)
  unfolding set_digest
  bytes-set_digest b c = bytes-put_room s (DigestOf i) d b c

  module _ (p : HasSlot (length s) i) (e : length d ≡ 32) where
    here-digest : digest_of (set_digest s i d) i ≡ d
    unfolding digest_of set_digest
    here-digest = room-same s (DigestOf i) d p e

    off-digest : (t : Room) → Within (length s) t → Other (DigestOf i) t → room (set_digest s i d) t ≡ room s t
    unfolding set_digest
    off-digest t q o = room-other s (DigestOf i) d p e t q o

    stays-count : count_of (set_digest s i d) i ≡ count_of s i
    unfolding count_of
    stays-count = ap (λ (z : List ℕ). get_or (recut (octets 6) head_widths z) 6 0) (off-digest (HeadOf i) p (λ a b. omega arith))

    pub mark-set_digest : mark_of (set_digest s i d) i ≡ record { count = count_of s i; digest = d }
    mark-set_digest = λ j. record { count = stays-count j; digest = here-digest j }

    pub mark-set_digest-other : (j : ℕ) → HasSlot (length s) j → (j ≡ i → ⊥) → mark_of (set_digest s i d) j ≡ mark_of s j
    mark-set_digest-other j q ne = mark-same (set_digest s i d) s j (off-digest (HeadOf j) q (λ a b. omega arith)) (off-digest (DigestOf j) q (λ a b. ne (sym b)))

    pub slot-set_digest : (j : ℕ) → HasSlot (length s) j → slot (set_digest s i d) j ≡ slot s j
    slot-set_digest j q =
        slot_same (set_digest s i d) s j (off-digest (HeadOf j) q (λ a b. omega arith)) (off-digest (KeyOf j) q (λ a b. omega arith)) (off-digest (ValueOf j) q (λ a b. omega arith))

    pub header-set_digest : header (set_digest s i d) ≡ header s
    header-set_digest = header-same (set_digest s i d) s (off-digest TheHeader (omega arith) (λ a b. omega arith))

-- ---- a slot put in place, with a count

module _ (s : List ℕ) (i : ℕ) (v : Slot) (n : ℕ) where
  abbrev s1 : List ℕ
  s1 = put_room s (HeadOf i) (head_bytes v n)

  abbrev s2 : List ℕ
  s2 = put_room s1 (KeyOf i) v.key_room

  l1 : length s1 ≡ length s
  l1 = length-put_room s (HeadOf i) (head_bytes v n)

  l2 : length s2 ≡ length s
  l2 = length-put_room s1 (KeyOf i) v.key_room ∙ l1

  pub length-set_slot_as : length (set_slot_as s i v n) ≡ length s
  unfolding set_slot_as
  length-set_slot_as = length-put_room s2 (ValueOf i) v.value_room ∙ l2

  pub bytes-set_slot_as : Bytes s → Bytes v.key_room → Bytes v.value_room → Bytes (set_slot_as s i v n)
  unfolding set_slot_as
  bytes-set_slot_as b k w =
      bytes-put_room s2 (ValueOf i) v.value_room (bytes-put_room s1 (KeyOf i) v.key_room (bytes-put_room s (HeadOf i) (head_bytes v n) b (head-bytes-bytes v n)) k) w

  module _ (p : HasSlot (length s) i) (f : SlotFits v) (few : n < 2048) where
    to1 : (t : Room) → Within (length s) t → Within (length s1) t
    to1 t q = subst (λ (m : ℕ). Within m t) (sym l1) q

    to2 : (t : Room) → Within (length s) t → Within (length s2) t
    to2 t q = subst (λ (m : ℕ). Within m t) (sym l2) q

    at1 : (t : Room) → Within (length s) t → Other (HeadOf i) t → room s1 t ≡ room s t
    at1 t q o = room-other s (HeadOf i) (head_bytes v n) p (head-bytes-length v n) t q o

    at2 : (t : Room) → Within (length s) t → Other (KeyOf i) t → room s2 t ≡ room s1 t
    at2 t q o = room-other s1 (KeyOf i) v.key_room (to1 (KeyOf i) p) f.key_room t (to1 t q) o

    at3 : (t : Room) → Within (length s) t → Other (ValueOf i) t → room (set_slot_as s i v n) t ≡ room s2 t
    unfolding set_slot_as
    at3 t q o = room-other s2 (ValueOf i) v.value_room (to2 (ValueOf i) p) f.value_room t (to2 t q) o

    off-slot : (t : Room) → Within (length s) t → Other (HeadOf i) t → Other (KeyOf i) t → Other (ValueOf i) t → room (set_slot_as s i v n) t ≡ room s t
    off-slot t q a b c = at3 t q c ∙ at2 t q b ∙ at1 t q a

    head-here : room (set_slot_as s i v n) (HeadOf i) ≡ head_bytes v n
    head-here = at3 (HeadOf i) p (λ a b. omega arith) ∙ at2 (HeadOf i) p (λ a b. omega arith) ∙ room-same s (HeadOf i) (head_bytes v n) p (head-bytes-length v n)

    pub slot-set_slot_as : slot (set_slot_as s i v n) i ≡ v
    slot-set_slot_as =
        slot_of (set_slot_as s i v n) i v n f few head-here
        (at3 (KeyOf i) p (λ a b. omega arith) ∙ room-same s1 (KeyOf i) v.key_room (to1 (KeyOf i) p) f.key_room)
        (unfold set_slot_as in room-same s2 (ValueOf i) v.value_room (to2 (ValueOf i) p) f.value_room)

    pub slot-set_slot_as-other : (j : ℕ) → HasSlot (length s) j → (j ≡ i → ⊥) → slot (set_slot_as s i v n) j ≡ slot s j
    slot-set_slot_as-other j q ne =
        slot_same (set_slot_as s i v n) s j
        (off-slot (HeadOf j) q (λ a b. ne (sym b)) (λ a b. omega arith) (λ a b. omega arith))
        (off-slot (KeyOf j) q (λ a b. omega arith) (λ a b. ne (sym b)) (λ a b. omega arith))
        (off-slot (ValueOf j) q (λ a b. omega arith) (λ a b. omega arith) (λ a b. ne (sym b)))

    digest-stays : (j : ℕ) → HasSlot (length s) j → room (set_slot_as s i v n) (DigestOf j) ≡ room s (DigestOf j)
    digest-stays j q = off-slot (DigestOf j) q (λ a b. omega arith) (λ a b. omega arith) (λ a b. omega arith)

    pub mark-set_slot_as : mark_of (set_slot_as s i v n) i ≡ record { count = n; digest = digest_of s i }
    unfolding digest_of
    mark-set_slot_as = λ j. record { count = count-of (set_slot_as s i v n) i v n f few head-here j; digest = digest-stays i p j }

    pub mark-set_slot_as-other : (j : ℕ) → HasSlot (length s) j → (j ≡ i → ⊥) → mark_of (set_slot_as s i v n) j ≡ mark_of s j
    mark-set_slot_as-other j q ne = mark-same (set_slot_as s i v n) s j (off-slot (HeadOf j) q (λ a b. ne (sym b)) (λ a b. omega arith) (λ a b. omega arith)) (digest-stays j q)

    pub header-set_slot_as : header (set_slot_as s i v n) ≡ header s
    header-set_slot_as = header-same (set_slot_as s i v n) s (off-slot TheHeader (omega arith) (λ a b. omega arith) (λ a b. omega arith) (λ a b. omega arith))

-- a slot whose rooms stay is written by its head alone
pub set-head-is : (s : List ℕ) (i : ℕ) (v : Slot) (n : ℕ) → HasSlot (length s) i → v.key_room ≡ (slot s i).key_room → v.value_room ≡ (slot s i).value_room → set_slot_as s i v n ≡ put_room s (HeadOf i) (head_bytes v n)
unfolding set_slot_as slot
set-head-is s i v n p ek ew =
    let s1 : List ℕ = put_room s (HeadOf i) (head_bytes v n) in
    let q : HasSlot (length s1) i = subst (λ (m : ℕ). HasSlot m i) (sym (length-put_room s (HeadOf i) (head_bytes v n))) p in
    let k : v.key_room ≡ room s1 (KeyOf i) = ek ∙ sym (room-other s (HeadOf i) (head_bytes v n) p (head-bytes-length v n) (KeyOf i) p (λ a b. omega arith)) in
    let w : v.value_room ≡ room s1 (ValueOf i) = ew ∙ sym (room-other s (HeadOf i) (head_bytes v n) p (head-bytes-length v n) (ValueOf i) p (λ a b. omega arith)) in
    ap (λ (z : List ℕ). put_room z (ValueOf i) v.value_room) (ap (put_room s1 (KeyOf i)) k ∙ room-id s1 (KeyOf i) q) ∙ ap (put_room s1 (ValueOf i)) w ∙ room-id s1 (ValueOf i) q
