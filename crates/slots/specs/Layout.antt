-- The store's layout (document 01, "Store layout"): where header, heads, keys, values and digests lie, and what is read there.
-- The places are functions of the store's length and the slot; nothing outside this crate opens them.
use Rattle.std.specs.Prelude.{◌≡◌, Bool, true, false, List, [], ◌∷◌, ℕ, ◌+◌, ◌-◌, ◌≤◌, ◌<◌, length, get_or, take}
use Rattle.runs.specs.Bits.{recut, octets, flag, bit}
pub use Rattle.runs.specs.Runs.{part, CopiesWithin, Decides}
unfoldable pub use Rattle.runs.specs.Runs.{zeros, padded, number_at}
pub use Rattle.slots.specs.Limits.{current, count_in, max_capacity, max_key, max_value, store_length}
use Rattle.slots.specs.declared.Header.{Header}
use Rattle.slots.specs.declared.Head.{Head}

-- ---- places

-- a store of n bytes has a slot i, and a link of 11 bits can name it; slots are numbered from 1
pub record HasSlot (n i : ℕ) : Type 0 where
  pub low : 1 ≤ i
  pub high : i < 2048
  pub fits : store_length i ≤ n

-- where the parts of slot i lie in a store of n bytes
unfoldable pub head_at : (n i : ℕ) → ℕ
head_at n i = store_length (i - 1)

unfoldable pub key_at : (n i : ℕ) → ℕ
key_at n i = head_at n i + 6

unfoldable pub value_at : (n i : ℕ) → ℕ
value_at n i = head_at n i + 54

unfoldable pub digest_at : (n i : ℕ) → ℕ
digest_at n i = head_at n i + 118

-- the rooms that a store's bytes are divided into
pub data Room : Type 0 where
  TheHeader : Room
  HeadOf KeyOf ValueOf DigestOf : (slot : ℕ) → Room

unfoldable pub place : ℕ → Room → ℕ
place n TheHeader = 0
place n (HeadOf i) = head_at n i
place n (KeyOf i) = key_at n i
place n (ValueOf i) = value_at n i
place n (DigestOf i) = digest_at n i

abbrev pub size : Room → ℕ
size TheHeader = 8
size (HeadOf i) = 6
size (KeyOf i) = max_key
size (ValueOf i) = max_value
size (DigestOf i) = 32

-- the bytes of a room
unfoldable pub room : List ℕ → Room → List ℕ
room s r = part (place (length s) r) (size r) s

-- ---- the header: the record is the code's struct, its fields in the order of the document

abbrev pub header_widths : List ℕ
header_widths = 4 ∷ 11 ∷ 11 ∷ 11 ∷ 11 ∷ 16 ∷ []

abbrev pub header_values : Header → List ℕ
header_values h = h.edition ∷ h.capacity ∷ h.live ∷ h.root ∷ h.free ∷ h.zero ∷ []

abbrev pub header_from : List ℕ → Header
header_from v =
    record { edition = get_or v 0 0; capacity = get_or v 1 0; live = get_or v 2 0; root = get_or v 3 0; free = get_or v 4 0; zero = get_or v 5 0 }

unfoldable pub header : List ℕ → Header
header s = header_from (recut (octets 8) header_widths (room s TheHeader))

-- the fields fit their widths
pub record HeaderFits (h : Header) : Type 0 where
  pub edition : h.edition < 16
  pub capacity : h.capacity < 2048
  pub live : h.live < 2048
  pub root : h.root < 2048
  pub free : h.free < 2048
  pub zero : h.zero < 65536

-- ---- slots: all of a slot but what it says of the subtree below it

pub record Slot : Type 0 where
  pub live : Bool
  pub red : Bool
  pub left : ℕ
  pub right : ℕ
  pub key_length : ℕ
  pub value_length : ℕ
  pub key_room : List ℕ
  pub value_room : List ℕ

abbrev pub head_widths : List ℕ
head_widths = 1 ∷ 1 ∷ 11 ∷ 11 ∷ 6 ∷ 7 ∷ 11 ∷ []

-- the last 11 bits are the count of the subtree
abbrev pub head_values : Slot → (count : ℕ) → List ℕ
head_values v n = bit v.live ∷ bit v.red ∷ v.left ∷ v.right ∷ v.key_length ∷ v.value_length ∷ n ∷ []

abbrev pub slot_from : (head key_room value_room : List ℕ) → Slot
slot_from v k w =
    record {
      live = flag (get_or v 0 0);
      red = flag (get_or v 1 0);
      left = get_or v 2 0;
      right = get_or v 3 0;
      key_length = get_or v 4 0;
      value_length = get_or v 5 0;
      key_room = k;
      value_room = w;
    }

unfoldable pub slot : List ℕ → ℕ → Slot
slot s i = slot_from (recut (octets 6) head_widths (room s (HeadOf i))) (room s (KeyOf i)) (room s (ValueOf i))

-- the fields fit their widths, and the rooms have their sizes
pub record SlotFits (v : Slot) : Type 0 where
  pub left : v.left < 2048
  pub right : v.right < 2048
  pub key_length : v.key_length < 64
  pub value_length : v.value_length < 128
  pub key_room : length v.key_room ≡ max_key
  pub value_room : length v.value_room ≡ max_value

-- ---- marks: what a slot says of the subtree below it. In the middle of an operation links are right and marks are stale.

pub record Mark : Type 0 where
  pub count : ℕ
  pub digest : List ℕ

unfoldable pub count_of : List ℕ → ℕ → ℕ
count_of s i = get_or (recut (octets 6) head_widths (room s (HeadOf i))) 6 0

unfoldable pub digest_of : List ℕ → ℕ → List ℕ
digest_of s i = room s (DigestOf i)

abbrev pub mark_of : List ℕ → ℕ → Mark
mark_of s i = record { count = count_of s i; digest = digest_of s i }

abbrev pub no_mark : Mark
no_mark = record { count = 0; digest = zeros 32 }

-- ---- entries and free slots

-- an entry's key is what its length leaves of its room; so with the value
abbrev pub key_of : Slot → List ℕ
key_of v = take v.key_length v.key_room

abbrev pub value_of : Slot → List ℕ
value_of v = take v.value_length v.value_room

-- the slot of an entry: the live bit is set
abbrev pub node_slot : (red : Bool) (key value : List ℕ) (left right : ℕ) → Slot
node_slot red key value left right =
    record {
      live = true;
      red = red;
      left = left;
      right = right;
      key_length = length key;
      value_length = length value;
      key_room = padded max_key key;
      value_room = padded max_value value;
    }

-- a free slot: all zero but for `left`, which names the next free slot
abbrev pub free_slot : (next : ℕ) → Slot
free_slot next =
    record {
      live = false;
      red = false;
      left = next;
      right = 0;
      key_length = 0;
      value_length = 0;
      key_room = zeros max_key;
      value_room = zeros max_value;
    }

-- slot i is one of an entry
abbrev pub IsEntry : List ℕ → ℕ → Type 0
IsEntry s i = slot s i ≡ node_slot (slot s i).red (key_of (slot s i)) (value_of (slot s i)) (slot s i).left (slot s i).right

-- slot i is free, its mark zero too
abbrev pub IsFree : List ℕ → ℕ → Type 0
IsFree s i = (slot s i ≡ free_slot (slot s i).left) × (mark_of s i ≡ no_mark)

-- ---- for the code

-- the head of a slot, with its count, as the code's struct
abbrev pub head_of : Slot → (count : ℕ) → Head
head_of v n =
    record { live = v.live; red = v.red; left = v.left; right = v.right; key_length = v.key_length; value_length = v.value_length; count = n }

pub record HeadFits (h : Head) : Type 0 where
  pub left : h.left < 2048
  pub right : h.right < 2048
  pub key_length : h.key_length < 64
  pub value_length : h.value_length < 128
  pub count : h.count < 2048
