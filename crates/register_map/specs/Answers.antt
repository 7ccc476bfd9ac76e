-- What the calls test first, and where get and iteration say that an entry lies.
use Rattle.std.specs.Prelude.{◌≡◌, Ok, Err, Result, ⊤}
use Rattle.answers.specs.declared.Refusal.{Refusal}
use Rattle.answers.specs.Numbers.{number_of}
use Rattle.answers.specs.Answers.{Found, no_entry}
use Rattle.search.specs.declared.Place.{Place}

-- a test: passed where P holds, and else this refusal
abbrev pub Checked : (P : Type 0) (r : Refusal) → Result ⊤ Refusal → Type 0
Checked P r (Ok x) = P
Checked P r (Err e) = (e ≡ r) × (P → ⊥)

-- get and iteration: the place as an answer
abbrev pub placed : Result Place Refusal → Found
placed (Ok p) = record { number = 0; key_at = p.key_at; key_length = p.key_length; value_at = p.value_at; value_length = p.value_length }
placed (Err r) = no_entry (number_of r)
