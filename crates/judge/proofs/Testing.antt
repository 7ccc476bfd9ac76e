-- What the tests of one node and of a header tell.
use mathlib.Core.Path.{◌≡◌, refl, sym, ap, ◌∙◌}
use mathlib.Core.Bool.{Bool}
use mathlib.Core.List.{List}
use Prim.Native.Nat.{ℕ, zero, suc, ◌-◌, ◌≤◌}
use native.Mathlib.Omega.{arith}
use lib.ListN.{length, length-append}
use Rattle.slots.specs.declared.Head.{Head}
use Rattle.slots.specs.Layout.{HasSlot, Slot, slot, count_of, head_of, key_of, value_of, padded, zeros, IsEntry}
use Rattle.slots.proofs.Lenses.{slot-fits}
use Rattle.entries.specs.Digests.{LinksIn}
use Rattle.judge.specs.Rising.{over}
use Rattle.judge.specs.Steps.{Sized, bound_of}

-- ---- one node

pub has-slot : {n cap i : ℕ} → Sized n cap → 1 ≤ i → i ≤ cap → HasSlot n i
has-slot r p q = record { low = p; high = omega (arith, r.most); fits = omega (arith, r.len) }

pub padded-most : (n : ℕ) (x : List ℕ) → length (padded n x) ≡ n → length x ≤ n
unfolding padded
padded-most n x e = omega (arith, length-append x (zeros (n - length x)))

pub entry_key : (s : List ℕ) (i : ℕ) → HasSlot (length s) i → IsEntry s i → (slot s i).key_length ≤ 48
entry_key s i p a =
    let m = padded-most 48 (key_of (slot s i)) (ap length (sym (ap (λ (z : Slot). z.key_room) a)) ∙ (slot-fits s i p).key_room) in
    omega (arith, ap (λ (z : Slot). z.key_length) a)

pub entry_value : (s : List ℕ) (i : ℕ) → HasSlot (length s) i → IsEntry s i → (slot s i).value_length ≤ 64
entry_value s i p a =
    let m = padded-most 64 (value_of (slot s i)) (ap length (sym (ap (λ (z : Slot). z.value_room) a)) ∙ (slot-fits s i p).value_room) in
    omega (arith, ap (λ (z : Slot). z.value_length) a)

module _ (s : List ℕ) (cap i : ℕ) (k : Bool) {h : Head} (e : h ≡ head_of (slot s i) (count_of s i)) where
  left-of : h.left ≡ (slot s i).left
  left-of = ap (λ (z : Head). z.left) e

  right_of : h.right ≡ (slot s i).right
  right_of = ap (λ (z : Head). z.right) e

  pub key-length-of : h.key_length ≡ (slot s i).key_length
  key-length-of = ap (λ (z : Head). z.key_length) e

  pub count-of : h.count ≡ count_of s i
  count-of = ap (λ (z : Head). z.count) e

  pub links-in : Sized (length s) cap → HasSlot (length s) i → h.left ≤ cap → h.right ≤ cap → IsEntry s i → LinksIn s i
  links-in z p l r a =
      record {
        here = p;
        left = λ n. has-slot z (omega arith) (omega (arith, left-of));
        right = λ n. has-slot z (omega arith) (omega (arith, right_of));
        key = entry_key s i p a;
        value = entry_value s i p a;
      }

-- ---- the order

pub bound-pos : (s : List ℕ) (p : ℕ) → (p ≡ 0 → ⊥) → bound_of s p ≡ over (key_of (slot s p))
bound-pos s zero n = absurd (n refl)
bound-pos s (suc p) n = refl
