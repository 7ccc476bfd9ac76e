-- What one record leaves of a store that is sound but for stale marks, and what a whole log answers.
use Rattle.std.specs.Prelude.{◌≡◌, ◌⊎◌, List, ℕ, Ok, Err, Result, ⊤}
use Rattle.answers.specs.Answers as answers
use Rattle.store.specs.Numbers.{Refusal, Full, Absent, number_of}
use Rattle.store.specs.Model.{Model}
use Rattle.store.specs.History.{Edit, edit_in, after}
use Rattle.store.specs.Replay.{Replayed, number_in}
use Rattle.rb_tree.specs.Stores.{HoldsStale}
use Rattle.replay.specs.declared.Replayed as declared

-- an edit is refused for no other reason
abbrev pub OfTwo : Result ⊤ Refusal → Type 0
OfTwo (Ok x) = ⊤
OfTwo (Err r) = (r ≡ Full) ⊎ (r ≡ Absent)

-- the bytes hold, but for marks, what the call makes of the model; the answer is that call's
pub record StaleEdit (e : Edit) (s s' : List ℕ) (m : Model) (r : Result ⊤ Refusal) : Type 0 where
  pub holds : HoldsStale s s' (after (edit_in e m) m)
  pub number : number_in (edit_in e m) ≡ answers.number_in r
  pub why : OfTwo r

-- what the code hands back, and the store's final bytes
abbrev pub ran_to : Result declared.Replayed Refusal → List ℕ → Replayed
ran_to (Ok r) s = record { number = 0; full = r.full; absent = r.absent; store = s }
ran_to (Err r) s = record { number = number_of r; full = 0; absent = 0; store = s }
