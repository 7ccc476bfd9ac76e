-- Runs of bytes written by the code: zeros, copies, padded strings; and what a sequence of them leaves of a slot.
use mathlib.Core.Path.{◌≡◌, refl, sym, ap, subst, ◌∙◌}
use mathlib.Core.Bool.{true}
use mathlib.Core.List.{List}
use Prim.Native.Nat.{ℕ, ◌+◌, ◌-◌, ◌≤◌}
use native.Mathlib.Omega.{arith}
use lib.ListN.{length, take, drop}
use lib.Seq.{sets, take-take}
use Rattle.runs.specs.Bits.{recut, octets}
use Rattle.slots.specs.declared.Head.{Head}
use Rattle.slots.specs.Layout.{HasSlot, key_at, value_at, digest_at, HeadOf, KeyOf, ValueOf, place, room, Slot, head_widths, head_values, slot, count_of, digest_of, node_slot, free_slot, head_of, HeadFits}
use Rattle.runs.specs.Runs.{part, zeros, padded, CopiesWithin}
use Rattle.slots.specs.Setters.{put_room, set_slot, set_slot_as, set_digest, with_head, with_value, with_entry_of, set_value, move_entry, clear_slot}
use Rattle.slots.proofs.Rooms.{apart, room-other, room-id, length-put_room}
use Rattle.slots.proofs.Lenses.{head_bytes, head-bytes-length, slot-fits, set-head-is}
use Rattle.slots.proofs.Coding.{new_head, head-fits}

-- ---- parts of rooms

module _ (s : List ℕ) (i b n : ℕ) where
  front : (a m : ℕ) → n ≤ m → take ((b + n) - b) (drop b s) ≡ take n (part b m s)
  front a m p = let e : (b + n) - b ≡ n = omega arith in ap (λ (k : ℕ). take k (drop b s)) e ∙ sym (take-take n m (drop b s) p)

  pub key-front : b ≡ key_at (length s) i → n ≤ 48 → take ((b + n) - b) (drop b s) ≡ take n (slot s i).key_room
  unfolding slot room place
  key-front e p = front b 48 p ∙ ap (λ (k : ℕ). take n (part k 48 s)) e

  pub value-front : b ≡ value_at (length s) i → n ≤ 64 → take ((b + n) - b) (drop b s) ≡ take n (slot s i).value_room
  unfolding slot room place
  value-front e p = front b 64 p ∙ ap (λ (k : ℕ). take n (part k 64 s)) e

pub digest-part : (s : List ℕ) (i b : ℕ) → b ≡ digest_at (length s) i → take ((b + 32) - b) (drop b s) ≡ digest_of s i
unfolding digest_of room place
digest-part s i b e = let n : (b + 32) - b ≡ 32 = omega arith in ap (λ (k : ℕ). take k (drop b s)) n ∙ ap (λ (k : ℕ). part k 32 s) e

pub digest-set : (s t d : List ℕ) (i a : ℕ) → a ≡ digest_at (length s) i → t ≡ sets s a d → t ≡ set_digest s i d
unfolding set_digest put_room place
digest-set s t d i a e q = q ∙ ap (λ (k : ℕ). sets s k d) e

-- ---- a slot written in steps: its head, the key's room, the value's room

module _ (s s1 : List ℕ) (i : ℕ) (h : Head) (p : HasSlot (length s) i) (e1 : s1 ≡ set_slot_as s i (with_head h (slot s i)) h.count) where
  head_step : s1 ≡ put_room s (HeadOf i) (head_bytes (with_head h (slot s i)) h.count)
  head_step = e1 ∙ set-head-is s i (with_head h (slot s i)) h.count p refl refl

  pub step-length : length s1 ≡ length s
  step-length = ap length head_step ∙ length-put_room s (HeadOf i) (head_bytes (with_head h (slot s i)) h.count)

  pub step-has : (j : ℕ) → HasSlot (length s) j → HasSlot (length s1) j
  step-has j q = subst (λ (n : ℕ). HasSlot n j) (sym step-length) q

  -- the rooms of keys and values are as they were
  key-stays : (j : ℕ) → HasSlot (length s) j → room s1 (KeyOf j) ≡ room s (KeyOf j)
  key-stays j q = ap (λ (z : List ℕ). room z (KeyOf j)) head_step ∙ room-other s (HeadOf i) (head_bytes (with_head h (slot s i)) h.count) p (head-bytes-length (with_head h (slot s i)) h.count) (KeyOf j) q (λ a b. omega arith)

  value_stays : (j : ℕ) → HasSlot (length s) j → room s1 (ValueOf j) ≡ room s (ValueOf j)
  value_stays j q = ap (λ (z : List ℕ). room z (ValueOf j)) head_step ∙ room-other s (HeadOf i) (head_bytes (with_head h (slot s i)) h.count) p (head-bytes-length (with_head h (slot s i)) h.count) (ValueOf j) q (λ a b. omega arith)

  module _ (s2 s3 : List ℕ) (k w : ℕ) (v : Slot) (n : ℕ) (eh : head_values (with_head h (slot s i)) h.count ≡ head_values v n) where
    pub slot-steps : k ≡ key_at (length s1) i → s2 ≡ sets s1 k v.key_room → w ≡ value_at (length s2) i → s3 ≡ sets s2 w v.value_room → s3 ≡ set_slot_as s i v n
    unfolding set_slot_as put_room place
    slot-steps ek e2 ew e3 =
        e3 ∙ ap (λ (z : ℕ). sets s2 z v.value_room) ew
        ∙ ap (λ (z : List ℕ). put_room z (ValueOf i) v.value_room) (e2 ∙ ap (λ (z : ℕ). sets s1 z v.key_room) ek ∙ ap (λ (z : List ℕ). put_room z (KeyOf i) v.key_room) (head_step ∙ ap (λ (z : List ℕ). put_room s (HeadOf i) (recut head_widths (octets 6) z)) eh))

pub clear-steps : (s t u : List ℕ) (i next a : ℕ) → t ≡ set_slot_as s i (free_slot next) 0 → a ≡ digest_at (length t) i → u ≡ sets t a (zeros 32) → u ≡ clear_slot s i next
unfolding clear_slot
clear-steps s t u i next a e ea eu = digest-set t u (zeros 32) i a ea eu ∙ ap (λ (z : List ℕ). set_digest z i (zeros 32)) e

-- ---- a new entry

pub entry-put : (s s1 s2 s3 key value : List ℕ) (i k w : ℕ) {h : Head} → HasSlot (length s) i → h ≡ head_of (slot s i) (count_of s i)
    → s1 ≡ set_slot_as s i (with_head (new_head (length key) (length value) h) (slot s i)) h.count → k ≡ key_at (length s1) i → s2 ≡ sets s1 k (padded 48 key)
    → w ≡ value_at (length s2) i → s3 ≡ sets s2 w (padded 64 value) → s3 ≡ set_slot s i (node_slot true key value 0 0)
unfolding set_slot
entry-put s s1 s2 s3 key value i k w {h} p e e1 ek e2 ew e3 =
    slot-steps s s1 i (new_head (length key) (length value) h) p e1 s2 s3 k w (node_slot true key value 0 0) (count_of s i) (ap (λ (z : Head). head_values (node_slot true key value 0 0) z.count) e) ek e2 ew e3

-- ---- a new value

abbrev value_head : ℕ → Head → Head
value_head x h = record { live = h.live; red = h.red; left = h.left; right = h.right; key_length = h.key_length; value_length = x; count = h.count }

pub value-head-fits : (s : List ℕ) {i : ℕ} {h : Head} {x : ℕ} → HasSlot (length s) i → h ≡ head_of (slot s i) (count_of s i) → x ≤ 64 → HeadFits (value_head x h)
value-head-fits s p e l = let g = head-fits s p e in record { left = g.left; right = g.right; key_length = g.key_length; value_length = omega arith; count = g.count }

pub value_set : (s s1 s2 x : List ℕ) (i w : ℕ) {h : Head} → HasSlot (length s) i → h ≡ head_of (slot s i) (count_of s i) → s1 ≡ set_slot_as s i (with_head (value_head (length x) h) (slot s i)) h.count → w ≡ value_at (length s1) i → s2 ≡ sets s1 w (padded 64 x)
    → s2 ≡ set_value s i x
unfolding set_value set_slot
value_set s s1 s2 x i w {h} p e e1 ew e2 =
    slot-steps s s1 i (value_head (length x) h) p e1 s1 s2 (key_at (length s1) i) w (with_value x (slot s i)) (count_of s i) (ap (λ (z : Head). head_values (with_head (value_head (length x) z) (slot s i)) z.count) e) refl same ew e2
  where
    q : HasSlot (length s1) i
    q = step-has s s1 i (value_head (length x) h) p e1 i p

    same : s1 ≡ sets s1 (key_at (length s1) i) (slot s i).key_room
    same = unfold put_room place slot in sym (ap (λ (z : List ℕ). sets s1 (key_at (length s1) i) z) (sym (key-stays s s1 i (value_head (length x) h) p e1 i p)) ∙ room-id s1 (KeyOf i) q)

-- ---- an entry moved

module _ (n i j a b : ℕ) (p : HasSlot n i) (q : HasSlot n j) (ne : i ≡ j → ⊥) where
  pub key_apart : a ≡ key_at n i → b ≡ key_at n j → a + 48 ≤ n → b + 48 ≤ n → CopiesWithin n a b 48
  unfolding place
  key_apart ea eb la lb =
      record { to = la; from = lb; apart = λ k x y z w. apart n (KeyOf i) (KeyOf j) p q (λ c d. ne d) k (rw (← ea) x) (rw (← ea) y) (rw (← eb) z) (rw (← eb) w) }

  pub value-apart : a ≡ value_at n i → b ≡ value_at n j → a + 64 ≤ n → b + 64 ≤ n → CopiesWithin n a b 64
  unfolding place
  value-apart ea eb la lb =
      record { to = la; from = lb; apart = λ k x y z w. apart n (ValueOf i) (ValueOf j) p q (λ c d. ne d) k (rw (← ea) x) (rw (← ea) y) (rw (← eb) z) (rw (← eb) w) }

abbrev entry_head : Head → Head → Head
entry_head g h = record { live = h.live; red = h.red; left = h.left; right = h.right; key_length = g.key_length; value_length = g.value_length; count = h.count }

pub entry-head-fits : (s : List ℕ) {i j : ℕ} {g h : Head} → HasSlot (length s) i → HasSlot (length s) j → h ≡ head_of (slot s i) (count_of s i) → g ≡ head_of (slot s j) (count_of s j) → HeadFits (entry_head g h)
entry-head-fits s p q e f = let x = head-fits s p e in let y = head-fits s q f in record { left = x.left; right = x.right; key_length = y.key_length; value_length = y.value_length; count = x.count }

pub entry-moved : (s s1 s2 s3 : List ℕ) (i j k l w m : ℕ) {g h : Head} → HasSlot (length s) i → HasSlot (length s) j → h ≡ head_of (slot s i) (count_of s i) → g ≡ head_of (slot s j) (count_of s j) → s1 ≡ set_slot_as s i (with_head (entry_head g h) (slot s i)) h.count
    → k ≡ key_at (length s1) i → l ≡ key_at (length s1) j → s2 ≡ sets s1 k (part l 48 s1) → w ≡ value_at (length s2) i → m ≡ value_at (length s2) j → s3 ≡ sets s2 w (part m 64 s2) → s3 ≡ move_entry s i j
unfolding move_entry set_slot
entry-moved s s1 s2 s3 i j k l w m {g} {h} p q e f e1 ek el e2 ew em e3 =
    slot-steps s s1 i (entry_head g h) p e1 s2 s3 k w (with_entry_of (slot s j) (slot s i)) (count_of s i) heads ek (e2 ∙ ap (sets s1 k) from_key) ew (e3 ∙ ap (sets s2 w) from-value)
  where
    heads : head_values (with_head (entry_head g h) (slot s i)) h.count ≡ head_values (with_entry_of (slot s j) (slot s i)) (count_of s i)
    heads = λ t. head_values (with_head (entry_head (f t) (e t)) (slot s i)) (e t).count

    has1 : (x : ℕ) → HasSlot (length s) x → HasSlot (length s1) x
    has1 = step-has s s1 i (entry_head g h) p e1

    from_key : part l 48 s1 ≡ (slot s j).key_room
    from_key = ap (λ (z : ℕ). part z 48 s1) el ∙ (unfold room place slot in key-stays s s1 i (entry_head g h) p e1 j q)

    at2 : s2 ≡ put_room s1 (KeyOf i) (part l 48 s1)
    at2 = e2 ∙ (unfold put_room place in ap (λ (z : ℕ). sets s1 z (part l 48 s1)) ek)

    wide : length (part l 48 s1) ≡ 48
    wide = ap length from_key ∙ (slot-fits s j q).key_room

    from-value : part m 64 s2 ≡ (slot s j).value_room
    from-value =
        ap (λ (z : ℕ). part z 64 s2) em
        ∙ (unfold room place slot in ap (λ (z : List ℕ). room z (ValueOf j)) at2 ∙ room-other s1 (KeyOf i) (part l 48 s1) (has1 i p) wide (ValueOf j) (has1 j q) (λ a b. omega arith) ∙ value_stays s s1 i (entry_head g h) p e1 j q)
