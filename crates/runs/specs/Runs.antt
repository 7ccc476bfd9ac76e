-- Runs of bytes: a part of a string, zeros, padding, a number in bytes; and what it is that a test decides.
use Rattle.std.specs.Prelude.{Bool, true, false, List, ◌++◌, ℕ, ◌+◌, ◌-◌, ◌≤◌, ◌<◌, length, take, drop, replicate}
use Rattle.runs.specs.Bits.{joined, octets}

-- n bytes of s from a on
abbrev pub part : (a n : ℕ) → List ℕ → List ℕ
part a n s = take n (drop a s)

unfoldable pub zeros : ℕ → List ℕ
zeros n = replicate n 0

-- x in a room of n bytes: bytes past its length are zero
unfoldable pub padded : ℕ → List ℕ → List ℕ
padded n x = x ++ zeros (n - length x)

-- the number in n bytes from a on
unfoldable pub number_at : (n : ℕ) → List ℕ → (a : ℕ) → ℕ
number_at n s a = joined (octets n) (part a n s)

-- n bytes at a and n bytes at b lie within a store of m bytes, and do not meet
pub record CopiesWithin (m a b n : ℕ) : Type 0 where
  pub to : a + n ≤ m
  pub from : b + n ≤ m
  pub apart : (k : ℕ) → a ≤ k → k < a + n → b ≤ k → k < b + n → ⊥

-- a Bool that tells whether P holds
abbrev pub Decides : Bool → Type 0 → Type 0
Decides true P = P
Decides false P = P → ⊥
