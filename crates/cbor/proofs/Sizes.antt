-- How many bytes a record takes in either form, and what the parts of a CBOR record put, over plain lists.
use Prim.Native.Nat.{ℕ, zero, suc, ◌+◌, ◌<◌, ◌≤◌}
use mathlib.Core.Path.{◌≡◌, refl, sym, ap, ◌∙◌}
use mathlib.Core.Bool.{Bool, true, false}
use mathlib.Core.List.{List, [], ◌∷◌, ◌++◌}
use native.Mathlib.Omega.{arith}
use lib.ListN.{length, length-append}
use lib.Dec.{eqb}
use borrow.Author.Tests.{lt-ltb, le-ltb}
use Rattle.hash_tree.specs.Record.{most, pick_nat}
use Rattle.hash_tree.specs.Written.{max_label, max_value, digest_len}
use Rattle.hash_tree.proofs.ParseLaws.{length-piece}
use Rattle.output.specs.Putting.{Puts}
use Rattle.output.proofs.Putting.{puts_then}
use Rattle.cbor.specs.Cbor.{array_of, string_head, put_cbor}
use Rattle.cbor.specs.declared.Way.{Way}
use Rattle.cbor.specs.declared.Way.TheVariants.{Writing, Reading}
use Rattle.cbor.specs.Walks.{source}

pub array-empty : (k : ℕ) → k ≡ 0 → 0x81 ≡ array_of k
array-empty k e = rw e

pub array-three : (k : ℕ) → (k ≡ 0 → ⊥) → k < 3 → 0x83 ≡ array_of k
array-three zero h l = absurd (h refl)
array-three (suc zero) h l = refl
array-three (suc (suc zero)) h l = refl
array-three (suc (suc (suc k))) h l = absurd (omega arith)

pub array-two : (k : ℕ) → 3 ≤ k → 0x82 ≡ array_of k
array-two zero l = absurd (omega arith)
array-two (suc zero) l = absurd (omega arith)
array-two (suc (suc zero)) l = absurd (omega arith)
array-two (suc (suc (suc k))) l = refl

-- no record has more than 64 bytes of its own
pick-most : (v : Bool) (a b : ℕ) → a ≤ 64 → b ≤ 64 → pick_nat v a b ≤ 64
pick-most true a b h g = h
pick-most false a b h g = g

pub own-most : (k : ℕ) → most k ≤ 64
unfolding most
own-most k =
    pick-most (eqb k 2) max_label (pick_nat (eqb k 3) max_value (pick_nat (eqb k 4) digest_len 0)) (omega arith)
    (pick-most (eqb k 3) max_value (pick_nat (eqb k 4) digest_len 0) (omega arith) (pick-most (eqb k 4) digest_len 0 (omega arith) (omega arith)))

-- the head of a string
pub head-short : (n : ℕ) → n < 24 → string_head n ≡ (0x40 + n) ∷ []
head-short n h = rw (lt-ltb n 24 h)

pub head-long : (n : ℕ) → 24 ≤ n → string_head n ≡ 0x58 ∷ n ∷ []
head-long n h = rw (le-ltb n 24 h)

-- a record
pub own-none : (k : ℕ) (b : List ℕ) → k < 2 → put_cbor k b ≡ array_of k ∷ k ∷ []
unfolding put_cbor
own-none zero b h = refl
own-none (suc zero) b h = refl
own-none (suc (suc k)) b h = absurd (omega arith)

pub own-some : (k : ℕ) (b : List ℕ) → 2 ≤ k → put_cbor k b ≡ (array_of k ∷ k ∷ []) ++ (string_head (length b) ++ b)
unfolding put_cbor
own-some zero b h = absurd (omega arith)
own-some (suc zero) b h = absurd (omega arith)
own-some (suc (suc k)) b h = refl

pub length_none : (k : ℕ) (b : List ℕ) → k < 2 → 2 ≡ length (put_cbor k b)
length_none k b h = sym (ap length (own-none k b h))

pub length_some : (k : ℕ) (b : List ℕ) → 2 ≤ k → length (put_cbor k b) ≡ 2 + length (string_head (length b)) + length b
length_some k b h = ap length (own-some k b h) ∙ omega (arith, length-append (string_head (length b)) b)

pub length-short : (k n : ℕ) (b : List ℕ) → 2 ≤ k → n < 24 → length b ≡ n → 3 + n ≡ length (put_cbor k b)
length-short k n b h g e = let l = ap length (head-short (length b) (omega arith)) in omega (arith, length_some k b h, l)

pub length-long : (k n : ℕ) (b : List ℕ) → 2 ≤ k → 24 ≤ n → length b ≡ n → 4 + n ≡ length (put_cbor k b)
length-long k n b h g e = let l = ap length (head-long (length b) (omega arith)) in omega (arith, length_some k b h, l)

pub length_two : (k : ℕ) (b : List ℕ) → 2 ≤ length (put_cbor k b)
unfolding put_cbor
length_two k b = omega arith

-- the opening, the head and the bytes
pub puts-opening : {o o₁ : List ℕ} {at x : ℕ} (k : ℕ) (b : List ℕ) → k < 2 → Puts o o₁ at x (array_of k ∷ k ∷ []) → Puts o o₁ at x (put_cbor k b)
puts-opening k b h p = rw (own-none k b h) p

pub puts-record : {o o₁ o₂ o₃ : List ℕ} {at x y z : ℕ} (k : ℕ) (b : List ℕ) → 2 ≤ k → Puts o o₁ at x (array_of k ∷ k ∷ []) → Puts o₁ o₂ x y (string_head (length b))
    → Puts o₂ o₃ y z b → Puts o o₃ at z (put_cbor k b)
puts-record k b h p q r = rw (own-some k b h) (puts_then p (puts_then q r))

-- every record has two bytes at least, in either form
pub some_bytes : (way : Way) (k : ℕ) (b : List ℕ) → 2 ≤ length ((source way).put k b)
some_bytes Writing k b = omega (arith, length-piece k b)
some_bytes Reading k b = length_two k b
