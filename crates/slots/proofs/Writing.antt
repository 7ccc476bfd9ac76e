-- What each setter leaves, as one record: the slot it wrote, and that all the rest stays. Frames compose and widen.
use mathlib.Core.Path.{◌≡◌, refl, sym, ap, subst, ◌∙◌}
use mathlib.Core.Bool.{Bool, true, false}
use mathlib.Core.List.{List}
use Prim.Native.Nat.{ℕ, ◌≤◌, ◌<◌}
use native.Mathlib.Omega.{arith}
use lib.Dec.{lit<}
use lib.ListN.{length}
use Rattle.runs.specs.Bits.{Bytes}
use Rattle.slots.specs.declared.Header.{Header}
use Rattle.slots.specs.Layout.{HasSlot, KeyOf, ValueOf, DigestOf, header, HeaderFits, Slot, slot, SlotFits, Mark, count_of, digest_of, mark_of, no_mark, key_of, value_of, node_slot, free_slot}
use Rattle.runs.specs.Runs.{zeros}
use Rattle.slots.specs.Setters.{set_header, set_slot_as, set_slot, set_count, set_digest, set_mark, with_root, set_root, with_red, with_left, with_right, with_value, with_entry_of, set_red, set_left, set_right, set_value, move_entry, clear_slot, Keeps, Wrote, Headed}
use Rattle.slots.proofs.Rooms.{bytes-room}
use Rattle.slots.proofs.Lenses.{header-fits, slot-fits, count_fits, length-set_header, bytes-set_header, header-set_header, slot-set_header, mark-set_header, length-set_digest, bytes-set_digest, mark-set_digest, mark-set_digest-other, slot-set_digest, header-set_digest, length-set_slot_as, bytes-set_slot_as, slot-set_slot_as, slot-set_slot_as-other, mark-set_slot_as, mark-set_slot_as-other, header-set_slot_as}
pub use Rattle.runs.proofs.Padding.{length-zeros, bytes-zeros}
use Rattle.runs.proofs.Padding.{padded-length, padded-fits, padded-front, padded-bytes}

-- ---- slots of entries, and free slots

module _ (red : Bool) (key value : List ℕ) (left right : ℕ) where
  pub node-fits : length key ≤ 48 → length value ≤ 64 → left < 2048 → right < 2048 → SlotFits (node_slot red key value left right)
  node-fits k v l r =
      record {
        left = l;
        right = r;
        key_length = omega arith;
        value_length = omega arith;
        key_room = padded-length 48 key k;
        value_room = padded-length 64 value v;
      }

  pub node-key : key_of (node_slot red key value left right) ≡ key
  node-key = padded-front 48 key

  pub node-value : value_of (node_slot red key value left right) ≡ value
  node-value = padded-front 64 value

  -- an entry that a slot holds is within the bounds
  module _ (s : List ℕ) (i : ℕ) (p : HasSlot (length s) i) (e : slot s i ≡ node_slot red key value left right) where
    has : SlotFits (node_slot red key value left right)
    has = subst SlotFits e (slot-fits s i p)

    pub key_fits : length key ≤ 48
    key_fits = padded-fits 48 key has.key_room

    pub value-fits : length value ≤ 64
    value-fits = padded-fits 64 value has.value_room

    pub left-fits : left < 2048
    left-fits = has.left

    pub right-fits : right < 2048
    right-fits = has.right

-- two entries that make the same slot are the same
module _ {red red' : Bool} (key key' value value' : List ℕ) {left left' right right' : ℕ} (e : node_slot red key value left right ≡ node_slot red' key' value' left' right') where
  pub same-red : red ≡ red'
  same-red = ap (λ (v : Slot). v.red) e

  pub same_key : key ≡ key'
  same_key = sym (padded-front 48 key) ∙ ap key_of e ∙ padded-front 48 key'

  pub same-value : value ≡ value'
  same-value = sym (padded-front 64 value) ∙ ap value_of e ∙ padded-front 64 value'

  pub same_left : left ≡ left'
  same_left = ap (λ (v : Slot). v.left) e

  pub same-right : right ≡ right'
  same-right = ap (λ (v : Slot). v.right) e

pub free-fits : (next : ℕ) → next < 2048 → SlotFits (free_slot next)
free-fits next p = record { left = p; right = lit< tt; key_length = lit< tt; value_length = lit< tt; key_room = length-zeros 48; value_room = length-zeros 64 }

-- an entry is not free
pub not_free : {red : Bool} (key value : List ℕ) {left right next : ℕ} → node_slot red key value left right ≡ free_slot next → ⊥
not_free key value e = let t : true ≡ false = ap (λ (v : Slot). v.live) e in let z : ◌≡◌ {A = ℕ} 0 1 = cc in omega arith

-- ---- frames

pub keeps-refl : (P : ℕ → Type 0) (s : List ℕ) → Keeps P s s
keeps-refl P s = record { len = refl; head = refl; slots = λ j p q. refl; marks = λ j p q. refl; bytes = λ b. b }

-- a slot is there after as before
pub keeps-has : {P : ℕ → Type 0} {s s' : List ℕ} {i : ℕ} → Keeps P s s' → HasSlot (length s) i → HasSlot (length s') i
keeps-has {i = i} a p = subst (λ (n : ℕ). HasSlot n i) (sym a.len) p

pub keeps-trans : {P : ℕ → Type 0} {s s' s'' : List ℕ} → Keeps P s s' → Keeps P s' s'' → Keeps P s s''
keeps-trans a b =
    record {
      len = b.len ∙ a.len;
      head = b.head ∙ a.head;
      slots = λ j p q. b.slots j (keeps-has a p) q ∙ a.slots j p q;
      marks = λ j p q. b.marks j (keeps-has a p) q ∙ a.marks j p q;
      bytes = λ x. b.bytes (a.bytes x);
    }

pub keeps-more : {P Q : ℕ → Type 0} {s s' : List ℕ} → ((j : ℕ) → P j → Q j) → Keeps P s s' → Keeps Q s s'
keeps-more g a =
    record {
      len = a.len;
      head = a.head;
      slots = λ j p q. a.slots j p (λ x. q (g j x));
      marks = λ j p q. a.marks j p (λ x. q (g j x));
      bytes = a.bytes;
    }

-- ---- what a setter leaves

-- one write after another, to the same slot
pub wrote-again : {s s' s'' : List ℕ} {i : ℕ} {v v' : Slot} {m m' : Mark} → Wrote s s' i v m → Wrote s' s'' i v' m' → Wrote s s'' i v' m'
wrote-again a b = record { here = b.here; mark = b.mark; kept = keeps-trans a.kept b.kept }

pub bytes-key : (s : List ℕ) (i : ℕ) → Bytes s → Bytes (slot s i).key_room
unfolding slot
bytes-key s i b = bytes-room s (KeyOf i) b

pub bytes-value : (s : List ℕ) (i : ℕ) → Bytes s → Bytes (slot s i).value_room
unfolding slot
bytes-value s i b = bytes-room s (ValueOf i) b

pub bytes-digest : (s : List ℕ) (i : ℕ) → Bytes s → Bytes (digest_of s i)
unfolding digest_of
bytes-digest s i b = bytes-room s (DigestOf i) b

module _ {s s' : List ℕ} {i : ℕ} where
  -- a slot with a count
  pub wrote-slot-as : {v : Slot} {n : ℕ} → s' ≡ set_slot_as s i v n → HasSlot (length s) i → SlotFits v → n < 2048 → (Bytes s → Bytes v.key_room) → (Bytes s → Bytes v.value_room)
      → Wrote s s' i v (record { count = n; digest = digest_of s i })
  wrote-slot-as {v} {n} e p f l k w =
      subst (λ (t : List ℕ). Wrote s t i v (record { count = n; digest = digest_of s i })) (sym e)
      (record {
        here = slot-set_slot_as s i v n p f l;
        mark = mark-set_slot_as s i v n p f l;
        kept = record {
          len = length-set_slot_as s i v n;
          head = header-set_slot_as s i v n p f l;
          slots = λ j q ne. slot-set_slot_as-other s i v n p f l j q ne;
          marks = λ j q ne. mark-set_slot_as-other s i v n p f l j q ne;
          bytes = λ b. bytes-set_slot_as s i v n b (k b) (w b);
        };
      })

  pub wrote-slot : {v : Slot} → s' ≡ set_slot s i v → HasSlot (length s) i → SlotFits v → (Bytes s → Bytes v.key_room) → (Bytes s → Bytes v.value_room) → Wrote s s' i v (mark_of s i)
  unfolding set_slot
  wrote-slot e p f k w = wrote-slot-as e p f (count_fits s i) k w

  pub wrote_count : {n : ℕ} → s' ≡ set_count s i n → HasSlot (length s) i → n < 2048 → Wrote s s' i (slot s i) (record { count = n; digest = digest_of s i })
  unfolding set_count
  wrote_count e p l = wrote-slot-as e p (slot-fits s i p) l (bytes-key s i) (bytes-value s i)

  pub wrote-digest : {d : List ℕ} → s' ≡ set_digest s i d → HasSlot (length s) i → length d ≡ 32 → Bytes d → Wrote s s' i (slot s i) (record { count = count_of s i; digest = d })
  wrote-digest {d} e p l c =
      subst (λ (t : List ℕ). Wrote s t i (slot s i) (record { count = count_of s i; digest = d })) (sym e)
      (record {
        here = slot-set_digest s i d p l i p;
        mark = mark-set_digest s i d p l;
        kept = record {
          len = length-set_digest s i d;
          head = header-set_digest s i d p l;
          slots = λ j q ne. slot-set_digest s i d p l j q;
          marks = λ j q ne. mark-set_digest-other s i d p l j q ne;
          bytes = λ b. bytes-set_digest s i d b c;
        };
      })

-- count and digest both
pub wrote-mark : {s s' : List ℕ} {i : ℕ} (m : Mark) → s' ≡ set_mark s i m → HasSlot (length s) i → m.count < 2048 → length m.digest ≡ 32 → Bytes m.digest → Wrote s s' i (slot s i) m
unfolding set_mark
wrote-mark {s} {s'} {i} m e p l w b =
    let s1 : List ℕ = set_count s i m.count in
    let x : Wrote s s1 i (slot s i) (record { count = m.count; digest = digest_of s i }) = wrote_count refl p l in
    let y : Wrote s1 s' i (slot s1 i) (record { count = count_of s1 i; digest = m.digest }) = wrote-digest e (keeps-has x.kept p) w b in
    record {
      here = y.here ∙ x.here;
      mark = y.mark ∙ (λ j. record { count = (x.mark j).count; digest = m.digest });
      kept = keeps-trans x.kept y.kept;
    }

module _ {s s' : List ℕ} {i : ℕ} (p : HasSlot (length s) i) where
  pub wrote-red : {x : Bool} → s' ≡ set_red s i x → Wrote s s' i (with_red x (slot s i)) (mark_of s i)
  unfolding set_red
  wrote-red e =
      let f = slot-fits s i p in
      wrote-slot e p (record { left = f.left; right = f.right; key_length = f.key_length; value_length = f.value_length; key_room = f.key_room; value_room = f.value_room }) (bytes-key s i) (bytes-value s i)

  pub wrote-left : {x : ℕ} → s' ≡ set_left s i x → x < 2048 → Wrote s s' i (with_left x (slot s i)) (mark_of s i)
  unfolding set_left
  wrote-left e l =
      let f = slot-fits s i p in
      wrote-slot e p (record { left = l; right = f.right; key_length = f.key_length; value_length = f.value_length; key_room = f.key_room; value_room = f.value_room }) (bytes-key s i) (bytes-value s i)

  pub wrote_right : {x : ℕ} → s' ≡ set_right s i x → x < 2048 → Wrote s s' i (with_right x (slot s i)) (mark_of s i)
  unfolding set_right
  wrote_right e l =
      let f = slot-fits s i p in
      wrote-slot e p (record { left = f.left; right = l; key_length = f.key_length; value_length = f.value_length; key_room = f.key_room; value_room = f.value_room }) (bytes-key s i) (bytes-value s i)

  pub wrote_value : (x : List ℕ) → s' ≡ set_value s i x → length x ≤ 64 → Bytes x → Wrote s s' i (with_value x (slot s i)) (mark_of s i)
  unfolding set_value
  wrote_value x e l c =
      let f = slot-fits s i p in
      wrote-slot e p (record { left = f.left; right = f.right; key_length = f.key_length; value_length = omega arith; key_room = f.key_room; value_room = padded-length 64 x l }) (bytes-key s i) (λ b. padded-bytes 64 x c)

  pub wrote-entry : {j : ℕ} → s' ≡ move_entry s i j → HasSlot (length s) j → Wrote s s' i (with_entry_of (slot s j) (slot s i)) (mark_of s i)
  unfolding move_entry
  wrote-entry {j} e q =
      let f = slot-fits s i p in
      let g = slot-fits s j q in
      wrote-slot e p (record { left = f.left; right = f.right; key_length = g.key_length; value_length = g.value_length; key_room = g.key_room; value_room = g.value_room }) (bytes-key s j) (bytes-value s j)

  pub wrote-node : {red : Bool} (key value : List ℕ) {left right : ℕ} → s' ≡ set_slot s i (node_slot red key value left right)
      → length key ≤ 48 → length value ≤ 64 → left < 2048 → right < 2048 → Bytes key → Bytes value → Wrote s s' i (node_slot red key value left right) (mark_of s i)
  wrote-node {red} key value {left} {right} e k v l r b c =
      wrote-slot e p (node-fits red key value left right k v l r) (λ z. padded-bytes 48 key b) (λ z. padded-bytes 64 value c)

  pub wrote-free : {next : ℕ} → s' ≡ clear_slot s i next → next < 2048 → Wrote s s' i (free_slot next) no_mark
  unfolding clear_slot
  wrote-free {next} e l =
      let s1 : List ℕ = set_slot_as s i (free_slot next) 0 in
      let a : Wrote s s1 i (free_slot next) (record { count = 0; digest = digest_of s i }) = wrote-slot-as refl p (free-fits next l) (lit< tt) (λ b. bytes-zeros 48) (λ b. bytes-zeros 64) in
      let b : Wrote s1 s' i (slot s1 i) (record { count = count_of s1 i; digest = zeros 32 }) = wrote-digest e (keeps-has a.kept p) (length-zeros 32) (bytes-zeros 32) in
      record { here = b.here ∙ a.here; mark = b.mark ∙ (λ j. record { count = (a.mark j).count; digest = zeros 32 }); kept = keeps-trans a.kept b.kept }

-- ---- what a setter of the header leaves

module _ {s s' : List ℕ} (p : 8 ≤ length s) where
  pub headed : {h : Header} → s' ≡ set_header s h → HeaderFits h → Headed s s' h
  headed {h} e f =
      subst (λ (t : List ℕ). Headed s t h) (sym e)
      (record {
        here = header-set_header s h p f;
        len = length-set_header s h;
        slots = slot-set_header s h p;
        marks = mark-set_header s h p;
        bytes = bytes-set_header s h;
      })

  pub headed-root : {x : ℕ} → s' ≡ set_root s x → x < 2048 → Headed s s' (with_root x (header s))
  unfolding set_root
  headed-root e l =
      let f = header-fits s in
      headed e (record { edition = f.edition; capacity = f.capacity; live = f.live; root = l; free = f.free; zero = f.zero })

pub headed-has : {s s' : List ℕ} {h : Header} {i : ℕ} → Headed s s' h → HasSlot (length s) i → HasSlot (length s') i
headed-has {i = i} a p = subst (λ (n : ℕ). HasSlot n i) (sym a.len) p
