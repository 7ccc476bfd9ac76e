-- What the code's numbers and stores are in terms of the layout.
use mathlib.Core.Path.{◌≡◌, refl, sym, ap, subst, ◌∙◌}
use mathlib.Core.Bool.{Bool, true, false}
use mathlib.Core.List.{List}
use Prim.Native.Nat.{ℕ, ◌+◌, ◌*◌, ◌/◌, ◌%◌, ◌≤◌, ◌<◌}
use native.Mathlib.Nat.{div-one}
use native.Mathlib.Omega.{arith}
use lib.Dec.{eqb, lit<}
use lib.ListN.{length, take}
use lib.Seq.{sets}
use Rattle.std.specs.Int.{from_bool}
use Rattle.runs.specs.Bits.{joined, fields, recut, octets, bit}
use Rattle.slots.specs.declared.Header.{Header}
use Rattle.slots.specs.declared.Head.{Head}
use Rattle.slots.specs.Layout.{HasSlot, head_at, HeadOf, place, room, header_widths, header_values, header, HeaderFits, head_widths, head_values, slot, count_of, key_of, value_of, head_of, HeadFits}
use Rattle.runs.specs.Runs.{part, number_at}
use Rattle.slots.specs.Setters.{put_room, set_header, set_slot, set_slot_as, set_count, with_root, set_root, with_head, set_red, set_left, set_right}
use Rattle.slots.proofs.Lenses.{head_bytes, header-fits, slot-fits, count_fits, set-head-is}

-- ---- heads and header

pub head-is : (s : List ℕ) (i a h : ℕ) → a ≡ head_at (length s) i → h ≡ number_at 6 s a
    → ◌≡◌ {A = Head}
    (record {
      live = eqb (h / 0x800000000000 % 2) 1;
      red = eqb (h / 0x400000000000 % 2) 1;
      left = h / 0x800000000 % 2048;
      right = h / 0x1000000 % 2048;
      key_length = h / 0x40000 % 64;
      value_length = h / 2048 % 128;
      count = h % 2048;
    })
    (head_of (slot s i) (count_of s i))
unfolding slot count_of room place recut fields number_at
head-is s i a h ea eh =
    let w : ℕ = joined (octets 6) (part (head_at (length s) i) 6 s) in
    let e : h ≡ w = eh ∙ ap (λ (z : ℕ). joined (octets 6) (part z 6 s)) ea in
    let z : h % 2048 ≡ w / 1 % 2048 = ap (λ (y : ℕ). y % 2048) (e ∙ sym (div-one w)) in
    λ j.
    record {
      live = eqb (e j / 0x800000000000 % 2) 1;
      red = eqb (e j / 0x400000000000 % 2) 1;
      left = e j / 0x800000000 % 2048;
      right = e j / 0x1000000 % 2048;
      key_length = e j / 0x40000 % 64;
      value_length = e j / 2048 % 128;
      count = z j;
    }

pub header_is : (s : List ℕ) (h : ℕ) → h ≡ number_at 8 s 0
    → ◌≡◌ {A = Header}
    (record { edition = h / 0x1000000000000000 % 16; capacity = h / 0x2000000000000 % 2048; live = h / 0x4000000000 % 2048; root = h / 0x8000000 % 2048; free = h / 0x10000 % 2048; zero = h % 0x10000 })
    (header s)
unfolding header room place recut fields number_at
header_is s h e =
    let w : ℕ = joined (octets 8) (part 0 8 s) in
    let z : h % 0x10000 ≡ w / 1 % 0x10000 = ap (λ (y : ℕ). y % 0x10000) (e ∙ sym (div-one w)) in
    λ j.
    record { edition = e j / 0x1000000000000000 % 16; capacity = e j / 0x2000000000000 % 2048; live = e j / 0x4000000000 % 2048; root = e j / 0x8000000 % 2048; free = e j / 0x10000 % 2048; zero = z j }

pub head-fits : (s : List ℕ) {i : ℕ} {h : Head} → HasSlot (length s) i → h ≡ head_of (slot s i) (count_of s i) → HeadFits h
head-fits s {i} p e =
    let f = slot-fits s i p in
    subst HeadFits (sym e) (record { left = f.left; right = f.right; key_length = f.key_length; value_length = f.value_length; count = count_fits s i })

-- a bool as the code makes a number of it
pub bit-is : (b : Bool) {n : ℕ} → n ≡ from_bool b → n ≡ bit b
bit-is true e = e
bit-is false e = e

-- what `set_head` and `set_header` write
pub head-set : (s t : List ℕ) (i a b0 b1 : ℕ) (h : Head) → HasSlot (length s) i → a ≡ head_at (length s) i → b0 ≡ bit h.live → b1 ≡ bit h.red
    → t ≡ sets s a (fields (octets 6) (b0 * 0x800000000000 + b1 * 0x400000000000 + h.left * 0x800000000 + h.right * 0x1000000 + h.key_length * 0x40000 + h.value_length * 2048 + h.count))
    → t ≡ set_slot_as s i (with_head h (slot s i)) h.count
head-set s t i a b0 b1 h p ea e0 e1 et =
    et ∙ ap (λ (z : ℕ). sets s z (fields (octets 6) (b0 * 0x800000000000 + b1 * 0x400000000000 + h.left * 0x800000000 + h.right * 0x1000000 + h.key_length * 0x40000 + h.value_length * 2048 + h.count))) ea
    ∙ ap (λ (z : ℕ). sets s (head_at (length s) i) (fields (octets 6) z)) number
    ∙ written
    ∙ sym (set-head-is s i (with_head h (slot s i)) h.count p refl refl)
  where
    number : b0 * 0x800000000000 + b1 * 0x400000000000 + h.left * 0x800000000 + h.right * 0x1000000 + h.key_length * 0x40000 + h.value_length * 2048 + h.count ≡ joined head_widths (head_values (with_head h (slot s i)) h.count)
    number = unfold joined in omega arith

    written : sets s (head_at (length s) i) (fields (octets 6) (joined head_widths (head_values (with_head h (slot s i)) h.count))) ≡ put_room s (HeadOf i) (head_bytes (with_head h (slot s i)) h.count)
    written = unfold put_room place recut in refl

pub header-set : (s t : List ℕ) (h : Header)
    → t ≡ sets s 0 (fields (octets 8) (h.edition * 0x1000000000000000 + h.capacity * 0x2000000000000 + h.live * 0x4000000000 + h.root * 0x8000000 + h.free * 0x10000 + h.zero))
    → t ≡ set_header s h
unfolding set_header put_room place recut joined
header-set s t h e =
    let n : h.edition * 0x1000000000000000 + h.capacity * 0x2000000000000 + h.live * 0x4000000000 + h.root * 0x8000000 + h.free * 0x10000 + h.zero ≡ joined header_widths (header_values h) = omega arith in
    e ∙ ap (λ (z : ℕ). sets s 0 (fields (octets 8) z)) n

-- ---- one field of the header, one field of a head

header-fits-of : (s : List ℕ) {h : Header} → h ≡ header s → HeaderFits h
header-fits-of s e = subst HeaderFits (sym e) (header-fits s)

pub root-fits : (s : List ℕ) {h : Header} {x : ℕ} → h ≡ header s → x < 2048 → HeaderFits (with_root x h)
root-fits s e l = let g = header-fits-of s e in record { edition = g.edition; capacity = g.capacity; live = g.live; root = l; free = g.free; zero = g.zero }

pub root-set : (s t : List ℕ) (x : ℕ) {h : Header} → h ≡ header s → t ≡ set_header s (with_root x h) → t ≡ set_root s x
unfolding set_root
root-set s t x e q = q ∙ ap (λ (z : Header). set_header s (with_root x z)) e

abbrev red_head : Bool → Head → Head
red_head x h = record { live = h.live; red = x; left = h.left; right = h.right; key_length = h.key_length; value_length = h.value_length; count = h.count }

pub head-red-fits : (s : List ℕ) {i : ℕ} {h : Head} {x : Bool} → HasSlot (length s) i → h ≡ head_of (slot s i) (count_of s i) → HeadFits (red_head x h)
head-red-fits s p e = let g = head-fits s p e in record { left = g.left; right = g.right; key_length = g.key_length; value_length = g.value_length; count = g.count }

pub head-red-set : (s t : List ℕ) (i : ℕ) (x : Bool) {h : Head} → h ≡ head_of (slot s i) (count_of s i) → t ≡ set_slot_as s i (with_head (red_head x h) (slot s i)) h.count → t ≡ set_red s i x
unfolding set_red set_slot
head-red-set s t i x e q = q ∙ ap (λ (z : Head). set_slot_as s i (with_head (red_head x z) (slot s i)) z.count) e

abbrev left_head : ℕ → Head → Head
left_head x h = record { live = h.live; red = h.red; left = x; right = h.right; key_length = h.key_length; value_length = h.value_length; count = h.count }

pub head-left-fits : (s : List ℕ) {i : ℕ} {h : Head} {x : ℕ} → HasSlot (length s) i → h ≡ head_of (slot s i) (count_of s i) → x < 2048 → HeadFits (left_head x h)
head-left-fits s p e l = let g = head-fits s p e in record { left = l; right = g.right; key_length = g.key_length; value_length = g.value_length; count = g.count }

pub head-left-set : (s t : List ℕ) (i : ℕ) (x : ℕ) {h : Head} → h ≡ head_of (slot s i) (count_of s i) → t ≡ set_slot_as s i (with_head (left_head x h) (slot s i)) h.count → t ≡ set_left s i x
unfolding set_left set_slot
head-left-set s t i x e q = q ∙ ap (λ (z : Head). set_slot_as s i (with_head (left_head x z) (slot s i)) z.count) e

abbrev right_head : ℕ → Head → Head
right_head x h = record { live = h.live; red = h.red; left = h.left; right = x; key_length = h.key_length; value_length = h.value_length; count = h.count }

pub head-right-fits : (s : List ℕ) {i : ℕ} {h : Head} {x : ℕ} → HasSlot (length s) i → h ≡ head_of (slot s i) (count_of s i) → x < 2048 → HeadFits (right_head x h)
head-right-fits s p e l = let g = head-fits s p e in record { left = g.left; right = l; key_length = g.key_length; value_length = g.value_length; count = g.count }

pub head-right-set : (s t : List ℕ) (i : ℕ) (x : ℕ) {h : Head} → h ≡ head_of (slot s i) (count_of s i) → t ≡ set_slot_as s i (with_head (right_head x h) (slot s i)) h.count → t ≡ set_right s i x
unfolding set_right set_slot
head-right-set s t i x e q = q ∙ ap (λ (z : Head). set_slot_as s i (with_head (right_head x z) (slot s i)) z.count) e

abbrev count_head : ℕ → Head → Head
count_head x h = record { live = h.live; red = h.red; left = h.left; right = h.right; key_length = h.key_length; value_length = h.value_length; count = x }

pub head-count-fits : (s : List ℕ) {i : ℕ} {h : Head} {x : ℕ} → HasSlot (length s) i → h ≡ head_of (slot s i) (count_of s i) → x < 2048 → HeadFits (count_head x h)
head-count-fits s p e l = let g = head-fits s p e in record { left = g.left; right = g.right; key_length = g.key_length; value_length = g.value_length; count = l }

pub head-count-set : (s t : List ℕ) (i : ℕ) (x : ℕ) {h : Head} → h ≡ head_of (slot s i) (count_of s i) → t ≡ set_slot_as s i (with_head (count_head x h) (slot s i)) x → t ≡ set_count s i x
unfolding set_count
head-count-set s t i x e q = q ∙ ap (λ (z : Head). set_slot_as s i (with_head (count_head x z) (slot s i)) x) e

-- a new entry's head: the count stays
abbrev pub new_head : (key value : ℕ) → Head → Head
new_head k v h = record { live = true; red = true; left = 0; right = 0; key_length = k; value_length = v; count = h.count }

pub head-new-fits : (s : List ℕ) {i k v : ℕ} {h : Head} → HasSlot (length s) i → h ≡ head_of (slot s i) (count_of s i) → k ≤ 48 → v ≤ 64 → HeadFits (new_head k v h)
head-new-fits s p e k v = let g = head-fits s p e in record { left = lit< tt; right = lit< tt; key_length = omega arith; value_length = omega arith; count = g.count }

-- ---- keys and values by their lengths

module _ (s : List ℕ) (i : ℕ) {h : Head} (e : h ≡ head_of (slot s i) (count_of s i)) where
  pub key-length-fits : (slot s i).key_length ≤ 48 → h.key_length ≤ 48
  key-length-fits p = subst (λ (z : Head). z.key_length ≤ 48) (sym e) p

  pub value-length-fits : (slot s i).value_length ≤ 64 → h.value_length ≤ 64
  value-length-fits p = subst (λ (z : Head). z.value_length ≤ 64) (sym e) p

  pub key-is : (r : List ℕ) → r ≡ take h.key_length (slot s i).key_room → r ≡ key_of (slot s i)
  key-is r q = q ∙ ap (λ (z : Head). take z.key_length (slot s i).key_room) e

  pub value-is : (r : List ℕ) → r ≡ take h.value_length (slot s i).value_room → r ≡ value_of (slot s i)
  value-is r q = q ∙ ap (λ (z : Head). take z.value_length (slot s i).value_room) e
