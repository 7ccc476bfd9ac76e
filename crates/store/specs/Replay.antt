-- REPLAY of document 02, request Q-12: a build log run on a store, one public call for each of its records; and histories with replays in them.
use Rattle.std.specs.Prelude.{List, [], ◌∷◌, ◌≡◌, ◌⊎◌, ℕ, ◌+◌, eqb}
use Rattle.std.proofs.Math.Option.{Option, none, some}
use Rattle.store.specs.Counts.{one}
use Rattle.store.specs.Numbers.{NotSound, Full, Absent, BadLog, number_of, Outcome, refused, done}
use Rattle.store.specs.Model.{Model, fresh}
use Rattle.store.specs.Encode.{encode}
use Rattle.store.specs.Decide.{on_sound}
use Rattle.store.specs.History.{Edit, Insert, Modify, Delete, answer_of, edit_in, after}
use Rattle.store.specs.Log.{read_log}

-- the store's bytes after one call for each edit
unfoldable pub run_all : List Edit → List ℕ → List ℕ
run_all [] s = s
run_all (e ∷ es) s = run_all es (answer_of e s).store

-- how many of these calls answered the number
unfoldable pub answering : (number : ℕ) → List Edit → List ℕ → ℕ
answering n [] s = 0
answering n (e ∷ es) s = one (eqb (answer_of e s).number n) + answering n es (answer_of e s).store

-- the number; how many records answered 5, and how many 7; the store's bytes at the end
pub record Replayed : Type 0 where
  pub number : ℕ
  pub full : ℕ
  pub absent : ℕ
  pub store : List ℕ

abbrev pub replayed : (s : List ℕ) → Outcome (List Edit) → Replayed
replayed s (refused r) = record { number = number_of r; full = 0; absent = 0; store = s }
replayed s (done es) = record { number = 0; full = answering (number_of Full) es s; absent = answering (number_of Absent) es s; store = run_all es s }

abbrev pub or_bad_log : Option (List Edit) → Outcome (List Edit)
or_bad_log none = refused BadLog
or_bad_log (some es) = done es

-- THE CALL: 1 if the store is not sound; else 13 if the log is malformed; else its records in order
unfoldable pub replay_answer : (log s : List ℕ) → Replayed
replay_answer log s = replayed s (on_sound s (λ m. or_bad_log (read_log log)) (refused NotSound))

-- what the call of a lawful edit may answer, of a sound store
abbrev pub Answers : Edit → ℕ → Type 0
Answers (Insert key value) n = (n ≡ 0) ⊎ (n ≡ 5)
Answers (Modify key value) n = (n ≡ 0) ⊎ (n ≡ 7)
Answers (Delete key) n = (n ≡ 0) ⊎ (n ≡ 7)

-- ---- the same on the model that a sound store holds

unfoldable pub run_in : List Edit → Model → Model
run_in [] m = m
run_in (e ∷ es) m = run_in es (after (edit_in e m) m)

abbrev pub number_in : Outcome Model → ℕ
number_in (refused r) = number_of r
number_in (done m) = 0

unfoldable pub answering_in : (number : ℕ) → List Edit → Model → ℕ
answering_in n [] m = 0
answering_in n (e ∷ es) m = one (eqb (number_in (edit_in e m)) n) + answering_in n es (after (edit_in e m) m)

-- ---- histories with replays among their calls. The last call stands first

pub data Call : Type 0 where
  Single : Edit → Call
  Replay : (log : List ℕ) → Call

abbrev pub store_of : Call → List ℕ → List ℕ
store_of (Single e) s = (answer_of e s).store
store_of (Replay log) s = (replay_answer log s).store

unfoldable pub store_after_calls : (capacity : ℕ) → List Call → List ℕ
store_after_calls capacity [] = encode (fresh capacity)
store_after_calls capacity (c ∷ h) = store_of c (store_after_calls capacity h)

-- these edits, the first of them first, after those of a history
unfoldable pub onto : List Edit → List Edit → List Edit
onto [] h = h
onto (e ∷ es) h = onto es (e ∷ h)

-- a malformed log has no records
abbrev pub records : Option (List Edit) → List Edit
records none = []
records (some es) = es

-- the history with each log's records in its place
unfoldable pub singly : List Call → List Edit
singly [] = []
singly (Single e ∷ h) = e ∷ singly h
singly (Replay log ∷ h) = onto (records (read_log log)) (singly h)
