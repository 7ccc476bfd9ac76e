-- The examples of replay hold.
use mathlib.Core.Path.{◌≡◌, refl, ◌∙◌}
use mathlib.Core.List.{List, [], ◌∷◌}
use mathlib.Core.Option.{none, some}
use Prim.Native.Nat.{ℕ}
use lib.Dec.{lit≤}
use Rattle.key_order.specs.Order.{cmp}
use Rattle.llrb.specs.Tree.{balance, get, insert_go, insert, modify, size}
use Rattle.llrb.specs.Delete.{ready_left, ready_right, lean_right, delete_min, delete_go, ready, delete, freed}
use Rattle.store.specs.Model.{fresh, inserted, deleted}
use Rattle.store.specs.Calls.{insert_in, modify_in, delete_in}
use Rattle.store.specs.History.{Edit, Insert, Modify, Delete, store_after, model_after}
use Rattle.store.specs.Log.{faulty, first_edit, read_below, read_log}
use Rattle.store.specs.Replay.{replay_answer, run_in, answering_in}
use Rattle.store.proofs.Running.{model-lawful, store_is, store-holds}
use Rattle.store.proofs.Replaying.{answering-is, run_is, replay-ran, replay-malformed}
use Rattle.examples.specs.Examples.{a, b}
use Rattle.examples.specs.Logs.{only_a, ran, LogExamples}

-- ---- the logs, read

abbrev next : List Edit
next = Insert b (0x08 ∷ []) ∷ Modify b (0x09 ∷ []) ∷ Delete a ∷ []

first_read : read_log (0x01 ∷ 0x02 ∷ 0x61 ∷ 0x07 ∷ []) ≡ some only_a
unfolding read_log read_below faulty first_edit
first_read = refl

next-read : read_log (0x01 ∷ 0x02 ∷ 0x62 ∷ 0x08 ∷ 0x41 ∷ 0x02 ∷ 0x62 ∷ 0x09 ∷ 0x81 ∷ 0x00 ∷ 0x61 ∷ []) ≡ some next
unfolding read_log read_below faulty first_edit
next-read = refl

empty-read : read_log [] ≡ some []
unfolding read_log read_below
empty-read = refl

valued_read : read_log (0x81 ∷ 0x02 ∷ 0x61 ∷ 0x07 ∷ []) ≡ none
unfolding read_log read_below faulty first_edit
valued_read = refl

left-read : read_log (0x01 ∷ 0x02 ∷ 0x61 ∷ 0x07 ∷ 0x00 ∷ []) ≡ none
unfolding read_log read_below faulty first_edit
left-read = refl

-- ---- run on the model of one slot

first-ran : run_in only_a (model_after 1 []) ≡ model_after 1 only_a
unfolding run_in model_after fresh insert_in inserted insert insert_go balance get cmp
first-ran = refl

next-ran : run_in next (model_after 1 only_a) ≡ model_after 1 []
unfolding run_in model_after fresh insert_in modify_in inserted insert insert_go modify balance get cmp delete_in deleted delete delete_go delete_min ready ready_left ready_right lean_right size freed
next-ran = refl

first-counts : (answering_in 5 only_a (model_after 1 []) ≡ 0) × (answering_in 7 only_a (model_after 1 []) ≡ 0)
unfolding answering_in model_after fresh insert_in inserted insert insert_go balance get cmp
first-counts = (refl, refl)

next-counts : (answering_in 5 next (model_after 1 only_a) ≡ 1) × (answering_in 7 next (model_after 1 only_a) ≡ 1)
unfolding answering_in model_after fresh insert_in modify_in inserted insert insert_go modify balance get cmp delete_in deleted delete delete_go delete_min ready ready_left ready_right lean_right size freed
next-counts = (refl, refl)

none-ran : (answering_in 5 [] (model_after 1 only_a) ≡ 0) × (answering_in 7 [] (model_after 1 only_a) ≡ 0) × (run_in [] (model_after 1 only_a) ≡ model_after 1 only_a)
unfolding answering_in run_in
none-ran = (refl, refl, refl)

-- a log on a store of one slot, by what it comes to on the model
on_one : (log : List ℕ) (h es h' : List Edit) → read_log log ≡ some es → (full absent : ℕ) → answering_in 5 es (model_after 1 h) ≡ full → answering_in 7 es (model_after 1 h) ≡ absent
    → run_in es (model_after 1 h) ≡ model_after 1 h' → replay_answer log (store_after 1 h) ≡ ran full absent (store_after 1 h')
on_one log h es h' r full absent p q e =
    let g = model-lawful 1 (lit≤ tt) (lit≤ tt) h in
    replay-ran log (_, store-holds 1 (lit≤ tt) (lit≤ tt) h) es r
    ∙ rw (store_is 1 (lit≤ tt) (lit≤ tt) h, store_is 1 (lit≤ tt) (lit≤ tt) h', answering-is 5 es g, answering-is 7 es g, run_is es g, p, q, e)

pub log-examples : LogExamples
log-examples =
    record {
      one = on_one _ [] only_a only_a first_read 0 0 first-counts.0 first-counts.1 first-ran;
      three = on_one _ only_a next [] next-read 1 1 next-counts.0 next-counts.1 next-ran;
      none = on_one [] only_a [] only_a empty-read 0 0 none-ran.0 none-ran.1 none-ran.2;
      valued = λ s g. replay-malformed _ g valued_read;
      left_over = λ s g. replay-malformed _ g left-read;
    }
