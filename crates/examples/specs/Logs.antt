-- EXAMPLES OF REPLAY, document 02's request Q-12: one log after the other on a store of one slot.
use Rattle.std.specs.Prelude.{◌≡◌, List, [], ◌∷◌, ℕ}
use Rattle.store.specs.Sound.{Sound}
use Rattle.store.specs.History.{Edit, Insert, store_after}
use Rattle.store.specs.Replay.{Replayed, replay_answer}
use Rattle.examples.specs.Examples.{a}

-- a → 07
abbrev pub only_a : List Edit
only_a = Insert a (0x07 ∷ []) ∷ []

abbrev pub ran : (full absent : ℕ) → List ℕ → Replayed
ran full absent s = record { number = 0; full = full; absent = absent; store = s }

abbrev pub malformed : List ℕ → Replayed
malformed s = record { number = 13; full = 0; absent = 0; store = s }

pub record LogExamples : Type 0 where
  -- insert a → 07, on a fresh store
  pub one : replay_answer (0x01 ∷ 0x02 ∷ 0x61 ∷ 0x07 ∷ []) (store_after 1 []) ≡ ran 0 0 (store_after 1 only_a)
  -- then insert b → 08 finds no room, modify b no register, and delete a leaves the bytes of a fresh store
  pub three : replay_answer (0x01 ∷ 0x02 ∷ 0x62 ∷ 0x08 ∷ 0x41 ∷ 0x02 ∷ 0x62 ∷ 0x09 ∷ 0x81 ∷ 0x00 ∷ 0x61 ∷ []) (store_after 1 only_a)
      ≡ ran 1 1 (store_after 1 [])
  -- the empty log, also on a full store
  pub none : replay_answer [] (store_after 1 only_a) ≡ ran 0 0 (store_after 1 only_a)
  -- a delete with a value; a good record and one byte after it: nothing changes
  pub valued : (s : List ℕ) → Sound s → replay_answer (0x81 ∷ 0x02 ∷ 0x61 ∷ 0x07 ∷ []) s ≡ malformed s
  pub left_over : (s : List ℕ) → Sound s → replay_answer (0x01 ∷ 0x02 ∷ 0x61 ∷ 0x07 ∷ 0x00 ∷ []) s ≡ malformed s
