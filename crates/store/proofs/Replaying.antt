-- Replay: each record of a lawful log answers 0, 5 or 7; the run on the bytes is the run on the model; a history with replays among its calls
-- leaves what the history of their records leaves.
use mathlib.Core.Path.{◌≡◌, refl, ap, ◌∙◌}
use mathlib.Core.Bool.{Bool, true, false, ◌&&◌}
use mathlib.Core.List.{List, [], ◌∷◌}
use mathlib.Core.Logic.{◌⊎◌, inl, inr}
use mathlib.Core.Option.{Option, none, some}
use Prim.Native.Nat.{ℕ, ◌+◌, ◌≤◌}
use native.Mathlib.Omega.{arith}
use lib.Dec.{eqb}
use lib.ListN.{length}
use Rattle.slots.specs.Bits.{Bytes}
use Rattle.slots.specs.Layout.{current}
use Rattle.store.specs.Counts.{one}
use Rattle.store.specs.Numbers.{Refusal, NotSound, Full, Absent, number_of, Outcome, refused, done}
use Rattle.store.specs.Model.{Model, inserted, modified, deleted}
use Rattle.store.specs.Sound.{Lawful, Represents, Sound}
use Rattle.store.specs.Encode.{encode}
use Rattle.store.specs.Answers.{Changed, changed}
use Rattle.store.specs.Calls.{refuse, absent, no_free_slot}
use Rattle.store.specs.History.{Edit, Insert, Modify, Delete, answer_of, store_after, accepted, edit_in, after}
use Rattle.store.specs.Log.{LawfulEdit, LawfulLog, read_log}
use Rattle.store.specs.Replay.{run_all, answering, Replayed, replayed, or_bad_log, replay_answer, Answers, run_in, number_in, answering_in, Call, Single, Replay, store_after_calls, onto, records, singly}
use Rattle.store.specs.Demand.{Demand3}
use Rattle.store.proofs.Decoding.{on-sound, on-unsound}
use Rattle.store.proofs.Encoding.{current-fits, encode-holds, encoded}
use Rattle.store.proofs.Calling.{insert-outcome, modify-outcome, delete-outcome, edit-lawful}
use Rattle.store.proofs.Running.{edit-answer, edit-sound, store-holds}
use Rattle.store.proofs.Demand.{demand-3}

-- ---- what a record's call answers

number-of : (s : List ℕ) (b : Bool) (r : Refusal) (n : Model) → ((changed s (refuse b r (done n))).number ≡ 0) ⊎ ((changed s (refuse b r (done n))).number ≡ number_of r)
number-of s true r n = inr refl
number-of s false r n = inl refl

-- an insert answers 0 or 5, a modify or a delete 0 or 7
pub record-answers : (e : Edit) {s : List ℕ} → LawfulEdit e → Sound s → Answers e (answer_of e s).number
record-answers (Insert k v) {s} g (m, a) = rw (edit-answer (Insert k v) a, insert-outcome k v m g.key g.value) (number-of s (absent k m && no_free_slot m) Full (inserted k v m))
record-answers (Modify k v) {s} g (m, a) = rw (edit-answer (Modify k v) a, modify-outcome k v m g.key g.value) (number-of s (absent k m) Absent (modified k v m))
record-answers (Delete k) {s} g (m, a) = rw (edit-answer (Delete k) a, delete-outcome k m g.key) (number-of s (absent k m) Absent (deleted k m))

one_of : (e : Edit) (n : ℕ) → Answers e n → one (eqb n 0) + one (eqb n 5) + one (eqb n 7) ≡ 1
one_of (Insert k v) n (inl p) = rw p
one_of (Insert k v) n (inr p) = rw p
one_of (Modify k v) n (inl p) = rw p
one_of (Modify k v) n (inr p) = rw p
one_of (Delete k) n (inl p) = rw p
one_of (Delete k) n (inr p) = rw p

-- so no other number is lost from the report
pub all-answer : (es : List Edit) {s : List ℕ} → LawfulLog es → Sound s → answering 0 es s + answering 5 es s + answering 7 es s ≡ length es
unfolding answering
all-answer [] g a = refl
all-answer (e ∷ es) {s} g a =
    omega (arith, one_of e (answer_of e s).number (record-answers e g.0 a), all-answer es {s = (answer_of e s).store} g.1 (edit-sound e a))

-- ---- the run on the bytes is the run on the model

after_store : (m : Model) (o : Outcome Model) → (changed (encode m) o).store ≡ encode (after o m)
after_store m (refused r) = refl
after_store m (done n) = refl

after-number : (s : List ℕ) (o : Outcome Model) → (changed s o).number ≡ number_in o
after-number s (refused r) = refl
after-number s (done n) = refl

module _ (e : Edit) {m : Model} (g : Lawful m) where
  edit-store : (answer_of e (encode m)).store ≡ encode (after (edit_in e m) m)
  edit-store = ap (λ (c : Changed). c.store) (edit-answer e (encode-holds g current current-fits)) ∙ after_store m (edit_in e m)

  edit-number : (answer_of e (encode m)).number ≡ number_in (edit_in e m)
  edit-number = ap (λ (c : Changed). c.number) (edit-answer e (encode-holds g current current-fits)) ∙ after-number (encode m) (edit_in e m)

pub run_is : (es : List Edit) {m : Model} → Lawful m → run_all es (encode m) ≡ encode (run_in es m)
unfolding run_all run_in
run_is [] g = refl
run_is (e ∷ es) {m} g = rw (edit-store e g) (run_is es (edit-lawful e g))

pub answering-is : (n : ℕ) (es : List Edit) {m : Model} → Lawful m → answering n es (encode m) ≡ answering_in n es m
unfolding answering answering_in
answering-is n [] g = refl
answering-is n (e ∷ es) {m} g = rw (edit-number e g, edit-store e g, answering-is n es (edit-lawful e g))

-- ---- the call

pub replay-unsound : (log : List ℕ) {s : List ℕ} → (Sound s → ⊥) → replay_answer log s ≡ record { number = 1; full = 0; absent = 0; store = s }
unfolding replay_answer
replay-unsound log {s} n = ap (replayed s) (on-unsound n (λ m. or_bad_log (read_log log)) (refused NotSound))

module _ (log : List ℕ) {s : List ℕ} (a : Sound s) where
  replay-sound : replay_answer log s ≡ replayed s (or_bad_log (read_log log))
  unfolding replay_answer
  replay-sound = ap (replayed s) (on-sound a.1 (λ m. or_bad_log (read_log log)) (refused NotSound))

  pub replay-malformed : read_log log ≡ none → replay_answer log s ≡ record { number = 13; full = 0; absent = 0; store = s }
  replay-malformed e = replay-sound ∙ ap (λ (o : Option (List Edit)). replayed s (or_bad_log o)) e

  pub replay-ran : (es : List Edit) → read_log log ≡ some es → replay_answer log s ≡ record { number = 0; full = answering 5 es s; absent = answering 7 es s; store = run_all es s }
  replay-ran es e = replay-sound ∙ ap (λ (o : Option (List Edit)). replayed s (or_bad_log o)) e

-- as the code does it: on the model, and its bytes at the end
pub replay-model : (log : List ℕ) {s : List ℕ} {m : Model} → Bytes s → Represents s m → (es : List Edit) → read_log log ≡ some es
    → replay_answer log s ≡ record { number = 0; full = answering_in 5 es m; absent = answering_in 7 es m; store = encode (run_in es m) }
replay-model log {s} {m} b a es e =
    replay-ran log (m, a) es e ∙ rw (encoded b a, answering-is 5 es a.lawful, answering-is 7 es a.lawful, run_is es a.lawful)

-- ---- histories

module _ (capacity : ℕ) (low : 1 ≤ capacity) (high : capacity ≤ 1024) where
  ran-onto : (es h : List Edit) → run_all es (store_after capacity h) ≡ store_after capacity (onto es h)
  unfolding run_all onto store_after
  ran-onto [] h = refl
  ran-onto (e ∷ es) h = ran-onto es (e ∷ h)

  replay-onto : (log : List ℕ) (h : List Edit) → (replay_answer log (store_after capacity h)).store ≡ store_after capacity (onto (records (read_log log)) h)
  unfolding run_all
  replay-onto log h = at (read_log log) refl
    where
      at : (o : Option (List Edit)) → read_log log ≡ o → (replay_answer log (store_after capacity h)).store ≡ store_after capacity (onto (records o) h)
      at none e = ap (λ (r : Replayed). r.store) (replay-malformed log (_, store-holds capacity low high h) e) ∙ ran-onto [] h
      at (some es) e = ap (λ (r : Replayed). r.store) (replay-ran log (_, store-holds capacity low high h) es e) ∙ ran-onto es h

  pub replays-singly : (h : List Call) → store_after_calls capacity h ≡ store_after capacity (singly h)
  unfolding store_after_calls singly store_after
  replays-singly [] = refl
  replays-singly (Single e ∷ h) = ap (λ (s : List ℕ). (answer_of e s).store) (replays-singly h)
  replays-singly (Replay log ∷ h) = ap (λ (s : List ℕ). (replay_answer log s).store) (replays-singly h) ∙ replay-onto log (singly h)

  -- demand 3 after a history with replays in it
  pub demand-3-replays : (h : List Call) → Demand3 capacity (store_after_calls capacity h) (accepted capacity (singly h))
  demand-3-replays h = rw (replays-singly h) (demand-3 capacity low high (singly h))
