-- Sixteen words of the schedule at a time, as the code keeps them. Nothing of FIPS 180-4 is stated here.
use Rattle.std.specs.Prelude.{◌≡◌, ℕ, ◌+◌, ◌%◌, ◌<◌, ◌≤◌, List, length, slice_index}
use Rattle.sha256_block.specs.Rounds.{Rounds, schedule}
use Rattle.sha256_block.specs.declared.Eight.{Eight}

-- the word W of the place t in the schedule of the block's words m
abbrev pub W : List ℕ → ℕ → ℕ
W m t = slice_index (schedule 48 m) t

-- w holds the sixteen words from the place p on, each at its place modulo 16
pub record Ring (m w : List ℕ) (p : ℕ) : Type 0 where
  pub block : length m ≡ 16
  pub size : length w ≡ 16
  pub at : (n : ℕ) → p ≤ n → n < p + 16 → slice_index w (n % 16) ≡ W m n

-- after t rounds from S: the sixteen words, from the place p on, and the state
pub record Worked (m : List ℕ) (S : Eight) (w : List ℕ) (s : Eight) (p t : ℕ) : Type 0 where
  pub ring : Ring m w p
  pub state : s ≡ Rounds t (schedule 48 m) S
