-- Records and logs at a place of a slice, in the code's words.
use mathlib.Core.Path.{◌≡◌, refl, sym, ap, subst, ◌∙◌}
use mathlib.Core.Bool.{Bool, true, false}
use mathlib.Core.List.{List, [], ◌∷◌}
use mathlib.Core.Option.{Option, none, some}
use Prim.Native.Nat.{ℕ, ◌+◌, ◌-◌, ◌/◌, ◌%◌, ◌≤◌, ◌<◌}
use native.Mathlib.Nat.{add-zero}
use native.Mathlib.Omega.{arith}
use lib.ListN.{length, drop, get_or, length-drop}
use lib.Seq.{get_or-drop, drop-drop, drop-length}
use denote.Enum.Bare.{sameb}
use Rattle.runs.proofs.Testing.{clash}
use Rattle.replay.specs.contracts.Operation.{the_type}
use Rattle.std.specs.Prelude.{Ok, Err, Result, IsOk}
use Rattle.slots.specs.Layout.{Decides}
use Rattle.store.specs.History.{Edit}
use Rattle.store.specs.Log.{operation, record_length, operation-3, long-key, long-value, delete-with-value, last_bit_set, short-tail, first_edit, and_then, read_log}
use Rattle.store.specs.Log as paper
use Rattle.store.proofs.Logs.{no-fault, Stands, stands, read-nil, read-bad, read-good}
use Rattle.replay.specs.declared.Fault.{Fault}
use Rattle.replay.specs.declared.Fault.TheVariants as fault
use Rattle.replay.specs.declared.Fault.TheVariants.{LongKey, LongValue, DeleteWithValue, LastBit, ShortTail}
use Rattle.replay.specs.declared.LogRecord.{LogRecord}
use Rattle.replay.specs.declared.Operation.{Operation}
use Rattle.replay.specs.declared.Operation.TheVariants.{Insert, Modify, Delete}
use Rattle.replay.specs.Records.{Has, Head, Tells, IsLog, number_for}

-- ---- the record at a place

module _ (log : List ℕ) (at : ℕ) where
  pub first : get_or log at 0 ≡ get_or (drop at log) 0 0
  first = sym (get_or-drop at log 0 0 ∙ ap (λ (n : ℕ). get_or log n 0) (add-zero at))

  pub second : get_or log (at + 1) 0 ≡ get_or (drop at log) 1 0
  second = sym (get_or-drop at log 1 0)

  pub whole-at : {o : Operation} {k v : ℕ} → k ≡ get_or log at 0 % 64 → v ≡ get_or log (at + 1) 0 / 2 → 2 ≤ length log - at → number_for o ≡ get_or log at 0 / 64 → k ≤ 48 → v ≤ 64 → (o ≡ Delete → v ≡ 0)
      → (get_or log (at + 1) 0 % 2 ≡ 1 → ⊥) → k + v ≤ length log - at - 2 → Head (drop at log) (number_for o) k v
  whole-at {o} {k} {v} ek ev t n p q d z l =
      record {
        faultless = no-fault (drop at log) fault;
        operation = n ∙ ap (λ (x : ℕ). x / 64) first;
        key = ek ∙ ap (λ (x : ℕ). x % 64) first;
        value = ev ∙ ap (λ (x : ℕ). x / 2) second;
      }
    where
      two : (q : Operation) → number_for q ≤ 2
      two Insert = omega arith
      two Modify = omega arith
      two Delete = omega arith

      deletes : (q : Operation) → number_for q ≡ 2 → q ≡ Delete
      deletes Insert e = absurd (omega (arith, e))
      deletes Modify e = absurd (omega (arith, e))
      deletes Delete e = refl

      fault : paper.Fault (drop at log) → ⊥
      fault (operation-3 h) = omega (arith, first, n, two o)
      fault (long-key h) = omega (arith, first, ek)
      fault (long-value h) = omega (arith, second, ev)
      fault (delete-with-value g h) = let y = d (deletes o (n ∙ ap (λ (x : ℕ). x / 64) first ∙ g)) in omega (arith, second, ev)
      fault (last_bit_set h) = z (rw second h)
      fault (short-tail h) = omega (arith, first, second, ek, ev, length-drop at log)

-- a fault of two bits that name no operation
pub no-operation : (xs : List ℕ) (f : Fault) {n : ℕ} → n ≡ get_or xs 0 0 → (f ≡ fault.Operation) × (2 < n / 64) → Has f xs
no-operation xs f e w = rw w.0 (subst (λ (x : ℕ). 2 < x / 64) e w.1)

-- an operation that is not told to be a delete
pub not-delete : {b : Bool} {o : Operation} → b ≡ false → b ≡ sameb the_type o Delete → o ≡ Delete → ⊥
not-delete w e z = clash (e ∙ ap (λ (x : Operation). sameb the_type x Delete) z) w

-- ---- what is read from there on

-- the fault that is named is one of the six
pub named : (f : Fault) (xs : List ℕ) → Has f xs → paper.Fault xs
named fault.Operation xs h = operation-3 h
named LongKey xs h = long-key h
named LongValue xs h = long-value h
named DeleteWithValue xs h = delete-with-value h.0 h.1
named LastBit xs h = last_bit_set h
named ShortTail xs h = short-tail h

left_over : (log : List ℕ) (at : ℕ) → at < length log → 1 ≤ length (drop at log)
left_over log at p = omega (arith, length-drop at log)

module _ (log : List ℕ) (at : ℕ) (p : at < length log) where
  pub unreadable : (f : Fault) → Has f (drop at log) → read_log (drop at log) ≡ none
  unreadable f h = read-bad (drop at log) (left_over log at p) (named f (drop at log) h)

  -- a log that can be read has a record there
  pub has-record : (r : Result LogRecord Fault) → Tells (drop at log) r → {es : List Edit} → read_log (drop at log) ≡ some es → IsOk r
  has-record (Ok r) t e = refl
  has-record (Err f) t {es} e = absurd (let z : ◌≡◌ {A = Option (List Edit)} none (some es) = sym (unreadable f t) ∙ e in let y : ◌≡◌ {A = ℕ} 0 1 = cc in omega arith)

  module _ {o k v : ℕ} (h : Head (drop at log) o k v) where
    pub head-stands : Stands (drop at log)
    head-stands = stands (drop at log) h.faultless

    pub fits : at + 2 + k + v ≤ length log
    fits = omega (arith, head-stands.whole, h.key, h.value, length-drop at log)

    next_place : drop (record_length (drop at log)) (drop at log) ≡ drop (at + 2 + k + v) log
    next_place =
        let e : at + record_length (drop at log) ≡ at + 2 + k + v = omega (arith, h.key, h.value) in
        drop-drop (record_length (drop at log)) at log ∙ ap (λ (n : ℕ). drop n log) e

    pub readable : read_log (drop at log) ≡ and_then (first_edit (drop at log)) (read_log (drop (at + 2 + k + v) log))
    readable = read-good (drop at log) (left_over log at p) h.faultless ∙ ap (λ (xs : List ℕ). and_then (first_edit (drop at log)) (read_log xs)) next_place

-- at the end there is nothing left
pub at-end : (log : List ℕ) (at : ℕ) → at ≤ length log → length log ≤ at → read_log (drop at log) ≡ some []
at-end log at p q =
    let e : at ≡ length log = omega arith in
    ap (λ (n : ℕ). read_log (drop n log)) e ∙ ap read_log (drop-length log) ∙ read-nil

-- ---- the loop that reads: the log can be read if what is left of it can

pub record Through (log : List ℕ) (at : ℕ) : Type 0 where
  pub within : at ≤ length log
  pub onward : IsLog log → IsLog (drop at log)
  pub back : IsLog (drop at log) → IsLog log

pub unsplit : (e : Edit) (o : Option (List Edit)) (es : List Edit) → and_then e o ≡ some es → (ds : List Edit) × (o ≡ some ds) × (es ≡ e ∷ ds)
unsplit e none es q = absurd (let z : ◌≡◌ {A = ℕ} 0 1 = cc in omega arith)
unsplit e (some ds) es q = let w : es ≡ e ∷ ds = cc in (ds, refl, w)

pub start : (log : List ℕ) → Through log 0
start log = record { within = omega arith; onward = λ w. w; back = λ w. w }

pub step : (log : List ℕ) (at : ℕ) → at < length log → {o k v : ℕ} → Head (drop at log) o k v → Through log at → Through log (at + (2 + k + v))
step log at p {o} {k} {v} h w =
    let e : at + 2 + k + v ≡ at + (2 + k + v) = omega arith in
    subst (Through log) e
    (record {
      within = fits log at p h;
      onward = λ i. let l = w.onward i in let u = unsplit (first_edit (drop at log)) (read_log (drop (at + 2 + k + v) log)) l.0 (sym (readable log at p h) ∙ l.1) in (u.0, u.1);
      back = λ i. w.back (_, readable log at p h ∙ ap (and_then (first_edit (drop at log))) i.1);
    })

pub stops : (log : List ℕ) (at : ℕ) → Through log at → read_log (drop at log) ≡ none → IsLog log → ⊥
stops log at w e i =
    let l = w.onward i in
    let z : ◌≡◌ {A = Option (List Edit)} none (some l.0) = sym e ∙ l.1 in
    let y : ◌≡◌ {A = ℕ} 0 1 = cc in omega arith

pub through : (log : List ℕ) (at : ℕ) → length log ≤ at → Through log at → IsLog log
through log at p w = w.back ([], at-end log at w.within p)

-- ---- the answer of the loop

unread : (log : List ℕ) → (IsLog log → ⊥) → read_log log ≡ none
unread log n = at (read_log log) refl
  where
    at : (o : Option (List Edit)) → read_log log ≡ o → o ≡ none
    at none e = refl
    at (some es) e = absurd (n (es, e))

pub is-no-log : (log : List ℕ) (b : Bool) → b ≡ false → Decides b (IsLog log) → read_log log ≡ none
is-no-log log true e d = absurd (clash refl e)
is-no-log log false e d = unread log d

pub is-a-log : (log : List ℕ) (b : Bool) → b ≡ true → Decides b (IsLog log) → IsLog log
is-a-log log true e d = d
is-a-log log false e d = absurd (clash e refl)
