-- What a C caller sees of a call: its number, and what it leaves in the things it was lent for its answer. With number 0 these hold
-- the answer; with any other each is as it was.
use Rattle.std.specs.Prelude.{◌≡◌, Bool, cond, List, ℕ, eqb, Option, Some, None, Result, Ok, Err}
use Rattle.answers.specs.declared.Refusal.{Refusal}
use Rattle.answers.specs.Numbers.{number_of}
use Rattle.lookup.specs.declared.Looked.{Looked}
use Rattle.lookup.specs.declared.Looked.TheVariants as looked
use Rattle.lookup.specs.Answer.{LookedUp}
use Rattle.store.specs.Answers as answers
use Rattle.store.specs.Replay.{Replayed}
use Rattle.c_boundary.specs.declared.lent.Seen.{Seen}

-- a lent thing at the end of a call
abbrev pub lent : {A : Type 0} → (number : ℕ) → (answer before : A) → A
lent number answer before = cond (eqb number 0) answer before

-- a call hands back its number, and the lent thing holds the answer, or with a refusal what it held
abbrev pub PutIn : {A : Type 0} → Result A Refusal → (before : A) → (number : ℕ) → (after : A) → Type 0
PutIn (Ok x) before number after = (number ≡ 0) × (after ≡ x)
PutIn (Err r) before number after = (number ≡ number_of r) × (after ≡ before)

-- ---- what a call left: its number, and the final values of what it was lent

abbrev pub told_is : (number : ℕ) → Bool → answers.Told
told_is n b = record { number = n; yes = b }

abbrev pub counted_is : (number count : ℕ) → answers.Counted
counted_is n count = record { number = n; count = count }

abbrev pub digested_is : (number : ℕ) → List ℕ → answers.Digested
digested_is n digest = record { number = n; digest = digest }

abbrev pub found_is : (number key_at key_length value_at value_length : ℕ) → answers.Found
found_is n k i v j = record { number = n; key_at = k; key_length = i; value_at = v; value_length = j }

abbrev pub written_is : (number size : ℕ) → List ℕ → answers.Written
written_is n size output = record { number = n; size = size; output = output }

abbrev pub replayed_is : (number full absent : ℕ) → List ℕ → Replayed
replayed_is n full absent store = record { number = n; full = full; absent = absent; store = store }

-- ---- what it must leave: the call on paper, and the values found

unfoldable pub told_to : Bool → answers.Told → answers.Told
told_to b a = told_is a.number (lent a.number a.yes b)

unfoldable pub counted_to : ℕ → answers.Counted → answers.Counted
counted_to count a = counted_is a.number (lent a.number a.count count)

unfoldable pub digested_to : List ℕ → answers.Digested → answers.Digested
digested_to digest a = digested_is a.number (lent a.number a.digest digest)

unfoldable pub found_to : (key_at key_length value_at value_length : ℕ) → answers.Found → answers.Found
found_to k i v j a =
    found_is a.number (lent a.number a.key_at k) (lent a.number a.key_length i) (lent a.number a.value_at v)
    (lent a.number a.value_length j)

-- the output's bytes stay by the call itself
unfoldable pub written_to : ℕ → answers.Written → answers.Written
written_to size a = written_is a.number (lent a.number a.size size) a.output

-- the store's bytes stay by the call itself
unfoldable pub replayed_to : (full absent : ℕ) → Replayed → Replayed
replayed_to full absent a = replayed_is a.number (lent a.number a.full full) (lent a.number a.absent absent) a.store

-- ---- what a witness says of a key: 1 found, 2 absent, 3 not to be told; where the child lies, 0 and 0 unless found

abbrev pub seen_of : Option Looked → Seen
seen_of None = record { result = 0; at = 0; length = 0 }
seen_of (Some (looked.Found a l)) = record { result = 1; at = a; length = l }
seen_of (Some looked.Absent) = record { result = 2; at = 0; length = 0 }
seen_of (Some looked.Unknown) = record { result = 3; at = 0; length = 0 }

pub record Asked : Type 0 where
  pub number : ℕ
  pub seen : Seen

abbrev pub asked : (number : ℕ) → Seen → Asked
asked n seen = record { number = n; seen = seen }

abbrev pub asked_is : (number result at length : ℕ) → Asked
asked_is n r a l = asked n (record { result = r; at = a; length = l })

unfoldable pub asked_to : (result at length : ℕ) → LookedUp → Asked
asked_to r a l x = asked x.number (lent x.number (seen_of x.looked) (record { result = r; at = a; length = l }))
