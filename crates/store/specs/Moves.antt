-- The moves between editions (document 02, Q-5): 1 unless the store is sound in the edition that it leaves; else 0, and the same model's bytes in
-- the other. And what a move may change: the edition, and counts.
use Rattle.std.specs.Prelude.{◌≡◌, List, ℕ, ◌≤◌, length}
use Rattle.slots.specs.declared.Header.{Header}
use Rattle.slots.specs.Layout.{header, slot, digest_of}
use Rattle.store.specs.Numbers.{NotSound, number_of, Outcome, refused, done}
use Rattle.store.specs.Model.{Model}
use Rattle.store.specs.Encode.{encode_in}
use Rattle.store.specs.Decide.{on_sound_in}
use Rattle.store.specs.Answers.{Changed, changed_of}

-- the bytes of a model in an edition
abbrev pub changed_in : (edition : ℕ) → (s : List ℕ) → Outcome Model → Changed
changed_in e s (refused r) = changed_of (number_of r) s
changed_in e s (done m) = changed_of 0 (encode_in e m)

unfoldable pub move_answer : (from to : ℕ) → List ℕ → Changed
move_answer from to s = changed_in to s (on_sound_in from s done (refused NotSound))

abbrev pub with_edition : ℕ → Header → Header
with_edition e h = record { edition = e; capacity = h.capacity; live = h.live; root = h.root; free = h.free; zero = h.zero }

-- the length, the header but for its edition, every slot and every digest stay
pub record MovedOnly (to : ℕ) (s s' : List ℕ) : Type 0 where
  pub len : length s' ≡ length s
  pub slots : (i : ℕ) → 1 ≤ i → i ≤ (header s).capacity → slot s' i ≡ slot s i
  pub digests : (i : ℕ) → 1 ≤ i → i ≤ (header s).capacity → digest_of s' i ≡ digest_of s i
  pub header : header s' ≡ with_edition to (header s)
