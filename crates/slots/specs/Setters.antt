-- Stores with one thing changed, a store put together from its parts, and what it is that a change keeps.
use Rattle.std.specs.Prelude.{◌≡◌, Bool, List, ℕ, zero, suc, length}
use Rattle.std.proofs.lemmas.List.Edits.{sets}
use Rattle.runs.specs.Bits.{recut, octets, Bytes}
use Rattle.slots.specs.declared.Header.{Header}
use Rattle.slots.specs.declared.Head.{Head}
use Rattle.slots.specs.Limits.{max_value, store_length}
use Rattle.slots.specs.Layout.{HasSlot, Room, TheHeader, HeadOf, KeyOf, ValueOf, DigestOf, place, header_widths, header_values, header, Slot, head_widths, head_values, slot, Mark, count_of, mark_of, free_slot}
use Rattle.runs.specs.Runs.{zeros, padded}

-- s with the bytes of a room
unfoldable pub put_room : List ℕ → Room → List ℕ → List ℕ
put_room s r bytes = sets s (place (length s) r) bytes

-- s with this header
unfoldable pub set_header : List ℕ → Header → List ℕ
set_header s h = put_room s TheHeader (recut header_widths (octets 8) (header_values h))

-- with this slot i and its count
unfoldable pub set_slot_as : List ℕ → ℕ → Slot → (count : ℕ) → List ℕ
set_slot_as s i v n =
    put_room (put_room (put_room s (HeadOf i) (recut head_widths (octets 6) (head_values v n))) (KeyOf i) v.key_room) (ValueOf i) v.value_room

-- the count stays
unfoldable pub set_slot : List ℕ → ℕ → Slot → List ℕ
set_slot s i v = set_slot_as s i v (count_of s i)

-- all but the count stays
unfoldable pub set_count : List ℕ → ℕ → (count : ℕ) → List ℕ
set_count s i n = set_slot_as s i (slot s i) n

unfoldable pub set_digest : List ℕ → ℕ → List ℕ → List ℕ
set_digest s i digest = put_room s (DigestOf i) digest

unfoldable pub set_mark : List ℕ → ℕ → Mark → List ℕ
set_mark s i m = set_digest (set_count s i m.count) i m.digest

-- ---- one field of the header

abbrev pub with_live : ℕ → Header → Header
with_live x h = record { edition = h.edition; capacity = h.capacity; live = x; root = h.root; free = h.free; zero = h.zero }

abbrev pub with_root : ℕ → Header → Header
with_root x h = record { edition = h.edition; capacity = h.capacity; live = h.live; root = x; free = h.free; zero = h.zero }

abbrev pub with_free : ℕ → Header → Header
with_free x h = record { edition = h.edition; capacity = h.capacity; live = h.live; root = h.root; free = x; zero = h.zero }

unfoldable pub set_root : List ℕ → ℕ → List ℕ
set_root s x = set_header s (with_root x (header s))

-- ---- one field of a slot, its value, its entry

abbrev pub with_red : Bool → Slot → Slot
with_red x v =
    record {
      live = v.live;
      red = x;
      left = v.left;
      right = v.right;
      key_length = v.key_length;
      value_length = v.value_length;
      key_room = v.key_room;
      value_room = v.value_room;
    }

abbrev pub with_left : ℕ → Slot → Slot
with_left x v =
    record {
      live = v.live;
      red = v.red;
      left = x;
      right = v.right;
      key_length = v.key_length;
      value_length = v.value_length;
      key_room = v.key_room;
      value_room = v.value_room;
    }

abbrev pub with_right : ℕ → Slot → Slot
with_right x v =
    record {
      live = v.live;
      red = v.red;
      left = v.left;
      right = x;
      key_length = v.key_length;
      value_length = v.value_length;
      key_room = v.key_room;
      value_room = v.value_room;
    }

abbrev pub with_value : List ℕ → Slot → Slot
with_value x v =
    record {
      live = v.live;
      red = v.red;
      left = v.left;
      right = v.right;
      key_length = v.key_length;
      value_length = length x;
      key_room = v.key_room;
      value_room = padded max_value x;
    }

-- the key and the value of the slot u
abbrev pub with_entry_of : Slot → Slot → Slot
with_entry_of u v =
    record {
      live = v.live;
      red = v.red;
      left = v.left;
      right = v.right;
      key_length = u.key_length;
      value_length = u.value_length;
      key_room = u.key_room;
      value_room = u.value_room;
    }

-- the head h
abbrev pub with_head : Head → Slot → Slot
with_head h v =
    record {
      live = h.live;
      red = h.red;
      left = h.left;
      right = h.right;
      key_length = h.key_length;
      value_length = h.value_length;
      key_room = v.key_room;
      value_room = v.value_room;
    }

unfoldable pub set_red : List ℕ → ℕ → Bool → List ℕ
set_red s i x = set_slot s i (with_red x (slot s i))

unfoldable pub set_left : List ℕ → ℕ → ℕ → List ℕ
set_left s i x = set_slot s i (with_left x (slot s i))

unfoldable pub set_right : List ℕ → ℕ → ℕ → List ℕ
set_right s i x = set_slot s i (with_right x (slot s i))

unfoldable pub set_value : List ℕ → ℕ → List ℕ → List ℕ
set_value s i x = set_slot s i (with_value x (slot s i))

-- the key and the value of slot j, in slot i too
unfoldable pub move_entry : List ℕ → (i j : ℕ) → List ℕ
move_entry s i j = set_slot s i (with_entry_of (slot s j) (slot s i))

-- slot i cleared: free, with this next free slot
unfoldable pub clear_slot : List ℕ → (i next : ℕ) → List ℕ
clear_slot s i next = set_digest (set_slot_as s i (free_slot next) 0) i (zeros 32)

-- ---- a whole store

-- s with the first n slots and their marks put in place
unfoldable pub with_slots : ℕ → (ℕ → Slot) → (ℕ → Mark) → List ℕ → List ℕ
with_slots zero slots marks s = s
with_slots (suc n) slots marks s =
    set_digest (set_slot_as (with_slots n slots marks s) (suc n) (slots (suc n)) (marks (suc n)).count) (suc n) (marks (suc n)).digest

-- the store with this header, these slots and these marks
unfoldable pub bytes_of : Header → (capacity : ℕ) → (slots : ℕ → Slot) → (marks : ℕ → Mark) → List ℕ
bytes_of h cap slots marks = set_header (with_slots cap slots marks (zeros (store_length cap))) h

-- ---- what a change keeps

-- the length, the header, and every slot and mark but of slots that P holds of; bytes stay bytes
pub record Keeps (P : ℕ → Type 0) (s s' : List ℕ) : Type 0 where
  pub len : length s' ≡ length s
  pub head : header s' ≡ header s
  pub slots : (j : ℕ) → HasSlot (length s) j → (P j → ⊥) → slot s' j ≡ slot s j
  pub marks : (j : ℕ) → HasSlot (length s) j → (P j → ⊥) → mark_of s' j ≡ mark_of s j
  pub bytes : Bytes s → Bytes s'

-- only slot i changed: it is now v, and its mark is m
pub record Wrote (s s' : List ℕ) (i : ℕ) (v : Slot) (m : Mark) : Type 0 where
  pub here : slot s' i ≡ v
  pub mark : mark_of s' i ≡ m
  pub kept : Keeps (λ j. j ≡ i) s s'

-- only the header changed; it is now h
pub record Headed (s s' : List ℕ) (h : Header) : Type 0 where
  pub here : header s' ≡ h
  pub len : length s' ≡ length s
  pub slots : (j : ℕ) → HasSlot (length s) j → slot s' j ≡ slot s j
  pub marks : (j : ℕ) → HasSlot (length s) j → mark_of s' j ≡ mark_of s j
  pub bytes : Bytes s → Bytes s'
