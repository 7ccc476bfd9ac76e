-- What `put` left is what a C caller has to see.
use Rattle.std.proofs.Common.{◌≡◌, Bool, false, List, ℕ, eqb, refl}
use Rattle.std.specs.Prelude.{Result, Ok, Err}
use Rattle.answers.specs.declared.Refusal.{Refusal}
use Rattle.answers.specs.declared.Refusal.TheVariants.{NotSound, LongKey, LongValue, Reversed, Full, NoRoom, Absent, BadCapacity, Malformed, LongMessage, IllFormed, NotCbor, BadLog, BadPath, Unlike}
use Rattle.answers.specs.Numbers.{number_of, outcome}
use Rattle.answers.specs.Answers.{told, counted, digested, answered}
use Rattle.store.specs.Answers as answers
use Rattle.c_boundary.specs.Lent.{PutIn, told_is, told_to, counted_is, counted_to, digested_is, digested_to, written_is, written_to}

-- no refusal has the number 0
pub refusal-number : (r : Refusal) → eqb (number_of r) 0 ≡ false
refusal-number NotSound = refl
refusal-number LongKey = refl
refusal-number LongValue = refl
refusal-number Reversed = refl
refusal-number Full = refl
refusal-number NoRoom = refl
refusal-number Absent = refl
refusal-number BadCapacity = refl
refusal-number Malformed = refl
refusal-number LongMessage = refl
refusal-number IllFormed = refl
refusal-number NotCbor = refl
refusal-number BadLog = refl
refusal-number BadPath = refl
refusal-number Unlike = refl

pub told-put : (a : Result Bool Refusal) (b b' : Bool) (n : ℕ) {x : answers.Told} → PutIn a b n b' → told (outcome a) ≡ x → told_is n b' ≡ told_to b x
unfolding told_to
told-put (Ok v) x y n p e = rw (p.0, p.1, ← e)
told-put (Err r) x y n p e = rw (p.0, p.1, ← e, refusal-number r)

pub counted-put : (a : Result ℕ Refusal) (k k' n : ℕ) {x : answers.Counted} → PutIn a k n k' → counted (outcome a) ≡ x → counted_is n k' ≡ counted_to k x
unfolding counted_to
counted-put (Ok v) x y n p e = rw (p.0, p.1, ← e)
counted-put (Err r) x y n p e = rw (p.0, p.1, ← e, refusal-number r)

pub digested-put : (a : Result (List ℕ) Refusal) (d d' : List ℕ) (n : ℕ) {x : answers.Digested} → PutIn a d n d' → digested (outcome a) ≡ x → digested_is n d' ≡ digested_to d x
unfolding digested_to
digested-put (Ok v) x y n p e = rw (p.0, p.1, ← e)
digested-put (Err r) x y n p e = rw (p.0, p.1, ← e, refusal-number r)

pub written-put : (a : Result ℕ Refusal) (out : List ℕ) (k k' n : ℕ) {x : answers.Written} → PutIn a k n k' → answered a out ≡ x → written_is n k' out ≡ written_to k x
unfolding written_to
written-put (Ok v) out x y n p e = rw (p.0, p.1, ← e)
written-put (Err r) out x y n p e = rw (p.0, p.1, ← e, refusal-number r)
