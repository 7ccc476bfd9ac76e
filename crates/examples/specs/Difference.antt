-- Two releases and the lines between them, said of the public call.
use Rattle.std.specs.Prelude.{◌≡◌, List, [], ◌∷◌, ℕ, ◌≤◌, length}
use Rattle.store.specs.Difference.{difference_answer}
use Rattle.store.specs.History.{Edit, Insert, store_after}
use Rattle.examples.specs.Examples.{a, b, c, d, abc, dcba, filled}

-- a → 1, b → 2; and b → 3, c → 4
abbrev pub before : List Edit
before = Insert b (2 ∷ []) ∷ Insert a (1 ∷ []) ∷ []

abbrev pub after : List Edit
after = Insert c (4 ∷ []) ∷ Insert b (3 ∷ []) ∷ []

pub record Differences : Type 0 where
  -- a only in the old, b in both with another value, c only in the new
  pub each : (out : List ℕ) → 6 ≤ length out
      → difference_answer (store_after 2 before) (store_after 3 after) out ≡ filled (0x41 ∷ 0x61 ∷ 0xc1 ∷ 0x62 ∷ 0x81 ∷ 0x63 ∷ []) out
  -- a byte too short: 6
  pub tight : (out : List ℕ) → length out ≡ 5
      → difference_answer (store_after 2 before) (store_after 3 after) out ≡ record { number = 6; size = 0; output = out }
  -- insert a, b, c, d against d, c, b, a: no line, though the shapes differ (`four` and `turned` of Examples)
  pub alike : (out : List ℕ) → difference_answer (store_after 4 (Insert d (4 ∷ []) ∷ abc)) (store_after 4 dcba) out ≡ record { number = 0; size = 0; output = out }
  -- the empty key: one byte, whichever store has it, and where its value differs
  pub gone : (out : List ℕ) → 1 ≤ length out → difference_answer (store_after 1 (Insert [] [] ∷ [])) (store_after 1 []) out ≡ filled (0x40 ∷ []) out
  pub new : (out : List ℕ) → 1 ≤ length out → difference_answer (store_after 1 []) (store_after 1 (Insert [] [] ∷ [])) out ≡ filled (0x80 ∷ []) out
  pub other : (out : List ℕ) → 1 ≤ length out
      → difference_answer (store_after 1 (Insert [] [] ∷ [])) (store_after 1 (Insert [] (0 ∷ []) ∷ [])) out ≡ filled (0xc0 ∷ []) out
