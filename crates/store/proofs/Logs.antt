-- Build logs: what is written is read back, what is read was written so, one reading; each of the six faults makes a log malformed wherever
-- it stands, and nothing else does.
use mathlib.Core.Path.{◌≡◌, refl, sym, ap, ap₂, subst, ◌∙◌}
use mathlib.Core.Bool.{Bool, true, false, cond, ◌&&◌, ◌||◌}
use mathlib.Core.List.{List, [], ◌∷◌, ◌++◌, append_assoc, append-nil}
use mathlib.Core.Logic.{◌⊎◌, inl, inr}
use mathlib.Core.Option.{Option, none, some}
use Prim.Native.Nat.{ℕ, zero, suc, ◌+◌, ◌*◌, ◌%◌, ◌≤◌, ◌<◌}
use native.Mathlib.Omega.{arith}
use lib.Dec.{ltb, eqb}
use lib.ListN.{length, take, drop, get_or, length-append, length-drop, take-append-drop}
use lib.Seq.{length-take-le, drop-drop, take_at, drop_at}
use borrow.Author.Tests.{ltb-true, ltb-false, eqb-true, eqb-false, lt-ltb, eq-eqb}
use Rattle.answers.specs.Numbers.{max_key, max_value}
use Rattle.key_order.specs.Order.{Key}
use Rattle.llrb.specs.Tree.{Value}
use Rattle.store.specs.History.{Edit, Insert, Modify, Delete}
use Rattle.store.specs.Log.{operation_of, key_of, value_of, LawfulEdit, LawfulLog, record_bytes, log_bytes, operation, key_length, value_length, last_bit, record_length, Fault, operation-3, long-key, long-value, delete-with-value, last_bit_set, short-tail, faulty, edit_of, first_edit, and_then, read_below, read_log, Malformed}

-- ---- the six tests are the six faults

either : (a b : Bool) → a || b ≡ true → (a ≡ true) ⊎ (b ≡ true)
either true b e = inl refl
either false b e = inr e

or_yes : (a : Bool) → a || true ≡ true
or_yes true = refl
or_yes false = refl

both : (a b : Bool) → a && b ≡ true → (a ≡ true) × (b ≡ true)
both true b e = (refl, e)
both false b e = absurd (let z : ◌≡◌ {A = Bool} false true = e in no z)
  where
    no : ◌≡◌ {A = Bool} false true → ⊥
    no z = let y : ◌≡◌ {A = ℕ} 0 1 = cc in omega arith

module _ (xs : List ℕ) where
  pub found-fault : faulty xs ≡ true → Fault xs
  unfolding faulty
  found-fault e = at1 (either _ _ e)
    where
      at5 : (eqb (last_bit xs) 1 ≡ true) ⊎ (ltb (length xs) (record_length xs) ≡ true) → Fault xs
      at5 (inl h) = last_bit_set (eqb-true _ _ h)
      at5 (inr h) = short-tail (ltb-true _ _ h)

      at4 : (eqb (operation xs) 2 && ltb 0 (value_length xs) ≡ true) ⊎ (eqb (last_bit xs) 1 || ltb (length xs) (record_length xs) ≡ true) → Fault xs
      at4 (inl h) = let w = both _ _ h in delete-with-value (eqb-true _ _ w.0) (ltb-true _ _ w.1)
      at4 (inr h) = at5 (either _ _ h)

      at3 : (ltb max_value (value_length xs) ≡ true)
          ⊎ (eqb (operation xs) 2 && ltb 0 (value_length xs) || (eqb (last_bit xs) 1 || ltb (length xs) (record_length xs)) ≡ true) → Fault xs
      at3 (inl h) = long-value (ltb-true _ _ h)
      at3 (inr h) = at4 (either _ _ h)

      at2 : (ltb max_key (key_length xs) ≡ true)
          ⊎ (ltb max_value (value_length xs) || (eqb (operation xs) 2 && ltb 0 (value_length xs) || (eqb (last_bit xs) 1 || ltb (length xs) (record_length xs))) ≡ true) → Fault xs
      at2 (inl h) = long-key (ltb-true _ _ h)
      at2 (inr h) = at3 (either _ _ h)

      at1 : (ltb 2 (operation xs) ≡ true)
          ⊎ (ltb max_key (key_length xs) || (ltb max_value (value_length xs) || (eqb (operation xs) 2 && ltb 0 (value_length xs) || (eqb (last_bit xs) 1 || ltb (length xs) (record_length xs)))) ≡ true) → Fault xs
      at1 (inl h) = operation-3 (ltb-true _ _ h)
      at1 (inr h) = at2 (either _ _ h)

  pub has-fault : Fault xs → faulty xs ≡ true
  unfolding faulty
  has-fault (operation-3 h) = rw (lt-ltb 2 (operation xs) h)
  has-fault (long-key h) = rw (lt-ltb max_key (key_length xs) h) (simp or_yes)
  has-fault (long-value h) = rw (lt-ltb max_value (value_length xs) h) (simp or_yes)
  has-fault (delete-with-value g h) = rw (eq-eqb (operation xs) 2 g, lt-ltb 0 (value_length xs) h) (simp or_yes)
  has-fault (last_bit_set h) = rw (eq-eqb (last_bit xs) 1 h) (simp or_yes)
  has-fault (short-tail h) = rw (lt-ltb (length xs) (record_length xs) h) (simp or_yes)

  pub no-fault : (Fault xs → ⊥) → faulty xs ≡ false
  no-fault n = at (faulty xs) refl
    where
      at : (b : Bool) → faulty xs ≡ b → b ≡ false
      at true e = absurd (n (found-fault e))
      at false e = refl

  pub faultless : faulty xs ≡ false → Fault xs → ⊥
  faultless e f = let z : ◌≡◌ {A = Bool} false true = sym e ∙ has-fault f in let y : ◌≡◌ {A = ℕ} 0 1 = cc in omega arith

-- ---- one record, and then the rest

-- however many records are allowed, if they are enough
enough : (n m : ℕ) (xs : List ℕ) → length xs < n → length xs < m → read_below n xs ≡ read_below m xs
unfolding read_below
enough zero m xs p q = absurd (omega arith)
enough (suc n) zero xs p q = absurd (omega arith)
enough (suc n) (suc m) [] p q = refl
enough (suc n) (suc m) (x ∷ xs) p q =
    rw (enough n m (drop (record_length (x ∷ xs)) (x ∷ xs)) (shorter n p) (shorter m q))
  where
    shorter : (k : ℕ) → length (x ∷ xs) < suc k → length (drop (record_length (x ∷ xs)) (x ∷ xs)) < k
    shorter k r = omega (arith, length-drop (record_length (x ∷ xs)) (x ∷ xs))

pub read-nil : read_log [] ≡ some []
unfolding read_log read_below
read-nil = refl

pub read_first : (xs : List ℕ) → 1 ≤ length xs → read_log xs ≡ cond (faulty xs) none (and_then (first_edit xs) (read_log (drop (record_length xs) xs)))
unfolding read_log read_below
read_first [] p = absurd (omega arith)
read_first (x ∷ xs) p =
    let r = drop (record_length (x ∷ xs)) (x ∷ xs) in
    rw (enough (suc (length xs)) (suc (length r)) r (omega (arith, length-drop (record_length (x ∷ xs)) (x ∷ xs))) (omega arith))

pub read-bad : (xs : List ℕ) → 1 ≤ length xs → Fault xs → read_log xs ≡ none
read-bad xs p f = rw (read_first xs p, has-fault xs f)

pub read-good : (xs : List ℕ) → 1 ≤ length xs → faulty xs ≡ false → read_log xs ≡ and_then (first_edit xs) (read_log (drop (record_length xs) xs))
read-good xs p f = rw (read_first xs p, f)

-- ---- a record that is written, at the front

abbrev pub Six : Edit → List ℕ → Type 0
Six e xs = (operation xs ≡ operation_of e) × (key_length xs ≡ length (key_of e)) × (value_length xs ≡ length (value_of e)) × (last_bit xs ≡ 0)

operation-small : (e : Edit) → operation_of e ≤ 2
operation-small (Insert k v) = omega arith
operation-small (Modify k v) = omega arith
operation-small (Delete k) = omega arith

delete-none : (e : Edit) → operation_of e ≡ 2 → length (value_of e) ≡ 0
delete-none (Insert k v) p = absurd (omega arith)
delete-none (Modify k v) p = absurd (omega arith)
delete-none (Delete k) p = refl

edit-back : (e : Edit) → edit_of (operation_of e) (key_of e) (value_of e) ≡ e
edit-back (Insert k v) = refl
edit-back (Modify k v) = refl
edit-back (Delete k) = refl

module _ (e : Edit) (g : LawfulEdit e) (rest : List ℕ) where
  heads : Six e (record_bytes e ++ rest)
  unfolding record_bytes
  heads = (omega (arith, g.key, operation-small e), omega (arith, g.key, operation-small e), omega arith, omega arith)

  written-length : length (record_bytes e ++ rest) ≡ 2 + length (key_of e) + length (value_of e) + length rest
  unfolding record_bytes
  written-length = omega (arith, length-append (key_of e ++ value_of e) rest, length-append (key_of e) (value_of e))

  lawful-record : Fault (record_bytes e ++ rest) → ⊥
  lawful-record (operation-3 h) = omega (arith, heads.0, operation-small e)
  lawful-record (long-key h) = omega (arith, heads.1, g.key)
  lawful-record (long-value h) = omega (arith, heads.2, g.value)
  lawful-record (delete-with-value p h) = omega (arith, heads.2, delete-none e (sym heads.0 ∙ p))
  lawful-record (last_bit_set h) = omega (arith, heads.3)
  lawful-record (short-tail h) = omega (arith, heads.1, heads.2, written-length)

  rest_back : drop (record_length (record_bytes e ++ rest)) (record_bytes e ++ rest) ≡ rest
  rest_back = drop_at (record_bytes e) rest (record_length (record_bytes e ++ rest)) (omega (arith, heads.1, heads.2, written-length, length-append (record_bytes e) rest))

  parts-back : edit_of (operation_of e) (take (length (key_of e)) (drop 2 (record_bytes e ++ rest))) (take (length (value_of e)) (drop (2 + length (key_of e)) (record_bytes e ++ rest))) ≡ e
  unfolding record_bytes
  parts-back =
      rw (← drop-drop (length (key_of e)) 2 (record_bytes e ++ rest), append_assoc (key_of e) (value_of e) rest, take_at (key_of e) (value_of e ++ rest) (length (key_of e)) refl, drop_at (key_of e) (value_of e ++ rest) (length (key_of e)) refl, take_at (value_of e) rest (length (value_of e)) refl)
      (edit-back e)

  first_back : first_edit (record_bytes e ++ rest) ≡ e
  unfolding first_edit
  first_back = rw (heads.0, heads.1, heads.2) parts-back

  pub read-record : read_log (record_bytes e ++ rest) ≡ and_then e (read_log rest)
  read-record = read-good (record_bytes e ++ rest) (omega (arith, written-length)) (no-fault (record_bytes e ++ rest) lawful-record) ∙ ap₂ and_then first_back (ap read_log rest_back)

-- ---- a record without a fault was written so

neither : (a b : Bool) → a || b ≡ false → (a ≡ false) × (b ≡ false)
neither true b e = absurd (let z : ◌≡◌ {A = ℕ} 0 1 = cc in omega arith)
neither false b e = (refl, e)

not-both : (a b : Bool) → a && b ≡ false → a ≡ true → b ≡ false
not-both true b e p = e
not-both false b e p = absurd (let z : ◌≡◌ {A = ℕ} 0 1 = cc in omega arith)

-- what a lawful record's head and length say
pub record Stands (xs : List ℕ) : Type 0 where
  pub code : operation xs ≤ 2
  pub key : key_length xs ≤ 48
  pub value : value_length xs ≤ 64
  pub delete : operation xs ≡ 2 → value_length xs ≡ 0
  pub last : last_bit xs ≡ 0
  pub whole : record_length xs ≤ length xs

pub stands : (xs : List ℕ) → faulty xs ≡ false → Stands xs
unfolding faulty
stands xs e =
    let a = neither _ _ e in
    let b = neither _ _ a.1 in
    let c = neither _ _ b.1 in
    let d = neither _ _ c.1 in
    let f = neither _ _ d.1 in
    record {
      code = ltb-false 2 (operation xs) a.0;
      key = ltb-false max_key (key_length xs) b.0;
      value = ltb-false max_value (value_length xs) c.0;
      delete = λ p. none_left (value_length xs) (ltb-false 0 (value_length xs) (not-both _ _ d.0 (eq-eqb (operation xs) 2 p)));
      last = even (get_or xs 1 0) (eqb-false (last_bit xs) 1 f.0);
      whole = ltb-false (length xs) (record_length xs) f.1;
    }
  where
    none_left : (n : ℕ) → n ≤ 0 → n ≡ 0
    none_left n p = omega arith

    even : (n : ℕ) → (n % 2 ≡ 1 → ⊥) → n % 2 ≡ 0
    even n z = omega arith

no_bytes : (v : List ℕ) → length v ≡ 0 → [] ≡ v
no_bytes [] p = refl
no_bytes (x ∷ v) p = absurd (omega arith)

abbrev Parts : ℕ → Key → Value → Edit → Type 0
Parts o k v e = (operation_of e ≡ o) × (key_of e ≡ k) × (value_of e ≡ v)

edit-parts : (o : ℕ) (k : Key) (v : Value) → o ≤ 2 → (o ≡ 2 → length v ≡ 0) → Parts o k v (edit_of o k v)
edit-parts zero k v p q = (refl, refl, refl)
edit-parts (suc zero) k v p q = (refl, refl, refl)
edit-parts (suc (suc zero)) k v p q = (refl, refl, no_bytes v (q refl))
edit-parts (suc (suc (suc o))) k v p q = absurd (omega arith)

back : (x y : ℕ) (zs rest : List ℕ) (e : Edit) → x ≡ operation_of e * 64 + length (key_of e) → y ≡ length (value_of e) * 2 → (key_of e ++ value_of e) ++ rest ≡ zs
    → record_bytes e ++ rest ≡ x ∷ y ∷ zs
unfolding record_bytes
back x y zs rest e p q r = rw (p, q, ← r)

after-key : (k : ℕ) (x y : ℕ) (zs : List ℕ) → drop (2 + k) (x ∷ y ∷ zs) ≡ drop k zs
after-key k x y zs = sym (drop-drop k 2 (x ∷ y ∷ zs))

three : (k v : ℕ) (x y : ℕ) (zs : List ℕ) → (take k zs ++ take v (drop (2 + k) (x ∷ y ∷ zs))) ++ drop (2 + k + v) (x ∷ y ∷ zs) ≡ zs
three k v x y zs =
    rw (append_assoc, ← drop-drop v (2 + k) (x ∷ y ∷ zs), after-key k x y zs, take-append-drop v (drop k zs), take-append-drop k zs)

module _ (xs : List ℕ) (s : Stands xs) where
  key-length : length (take (key_length xs) (drop 2 xs)) ≡ key_length xs
  key-length = length-take-le (key_length xs) (drop 2 xs) (omega (arith, length-drop 2 xs, s.whole))

  value-length : length (take (value_length xs) (drop (2 + key_length xs) xs)) ≡ value_length xs
  value-length = length-take-le (value_length xs) (drop (2 + key_length xs) xs) (omega (arith, length-drop (2 + key_length xs) xs, s.whole))

  pub first-parts : Parts (operation xs) (take (key_length xs) (drop 2 xs)) (take (value_length xs) (drop (2 + key_length xs) xs)) (first_edit xs)
  unfolding first_edit
  first-parts = edit-parts (operation xs) _ _ s.code (λ p. value-length ∙ s.delete p)

  pub first-lawful : LawfulEdit (first_edit xs)
  first-lawful =
      record {
        key = rw (first-parts.1, key-length) s.key;
        value = rw (first-parts.2, value-length) s.value;
      }

pub record-back : (xs : List ℕ) → Stands xs → record_bytes (first_edit xs) ++ drop (record_length xs) xs ≡ xs
record-back [] s = absurd (omega (arith, s.whole))
record-back (x ∷ []) s = absurd (omega (arith, s.whole))
record-back (x ∷ y ∷ zs) s =
    let w = x ∷ y ∷ zs in
    back x y zs (drop (record_length w) w) (first_edit w) (rw ((first-parts w s).0, (first-parts w s).1, key-length w s) (omega arith))
    (rw ((first-parts w s).2, value-length w s) (omega (arith, s.last)))
    (rw ((first-parts w s).1, (first-parts w s).2) (three (key_length w) (value_length w) x y zs))

-- ---- THE PROMISES

-- edits, and then what is read of the rest
abbrev pub following : List Edit → Option (List Edit) → Option (List Edit)
following es none = none
following es (some ds) = some (es ++ ds)

follow : (e : Edit) (es : List Edit) (o : Option (List Edit)) → and_then e (following es o) ≡ following (e ∷ es) o
follow e es none = refl
follow e es (some ds) = refl

follow-none : (o : Option (List Edit)) → o ≡ following [] o
follow-none none = refl
follow-none (some ds) = refl

read_behind : (es : List Edit) (xs : List ℕ) → LawfulLog es → read_log (log_bytes es ++ xs) ≡ following es (read_log xs)
unfolding log_bytes
read_behind [] xs g = follow-none (read_log xs)
read_behind (e ∷ es) xs g = rw (append_assoc (record_bytes e) (log_bytes es) xs, read-record e g.0 (log_bytes es ++ xs), read_behind es xs g.1) (follow e es (read_log xs))

-- reading the bytes of lawful edits gives them back
pub read-written : (es : List Edit) → LawfulLog es → read_log (log_bytes es) ≡ some es
read-written es g = rw (← append-nil (log_bytes es), read_behind es [] g, read-nil, append-nil es)

-- so a log has one reading
pub read_one : (es ds : List Edit) → LawfulLog es → LawfulLog ds → log_bytes es ≡ log_bytes ds → es ≡ ds
read_one es ds g h e = let a = read-written es g in let b = read-written ds h in cc (ap read_log e)

-- each of the six faults makes a log malformed wherever it stands: behind any lawful records
pub fault-anywhere : (es : List Edit) (xs : List ℕ) → LawfulLog es → 1 ≤ length xs → Fault xs → read_log (log_bytes es ++ xs) ≡ none
fault-anywhere es xs g p f = rw (read_behind es xs g, read-bad xs p f)

-- any bytes are lawful records, or lawful records and then a fault
data Judged (log : List ℕ) : Type 0 where
  well : (es : List Edit) → LawfulLog es → log_bytes es ≡ log → Judged log
  ill : (es : List Edit) (xs : List ℕ) → LawfulLog es → 1 ≤ length xs → Fault xs → log_bytes es ++ xs ≡ log → Judged log

one_more : (xs : List ℕ) → Stands xs → Judged (drop (record_length xs) xs) → Judged xs
unfolding log_bytes
one_more xs s (well es g e) = well (first_edit xs ∷ es) (first-lawful xs s, g) (rw e (record-back xs s))
one_more xs s (ill es ys g p f e) =
    ill (first_edit xs ∷ es) ys (first-lawful xs s, g) p f (rw (append_assoc (record_bytes (first_edit xs)) (log_bytes es) ys, e) (record-back xs s))

no-records : Judged []
unfolding log_bytes
no-records = well [] tt refl

at_once : (xs : List ℕ) → 1 ≤ length xs → Fault xs → Judged xs
unfolding log_bytes
at_once xs p f = ill [] xs tt p f refl

judged : (n : ℕ) (xs : List ℕ) → length xs < n → Judged xs
judged zero xs p = absurd (omega arith)
judged (suc n) [] p = no-records
judged (suc n) (x ∷ xs) p =
    at (faulty (x ∷ xs)) refl (judged n (drop (record_length (x ∷ xs)) (x ∷ xs)) (omega (arith, length-drop (record_length (x ∷ xs)) (x ∷ xs))))
  where
    at : (b : Bool) → faulty (x ∷ xs) ≡ b → Judged (drop (record_length (x ∷ xs)) (x ∷ xs)) → Judged (x ∷ xs)
    at true e j = at_once (x ∷ xs) (omega arith) (found-fault (x ∷ xs) e)
    at false e j = one_more (x ∷ xs) (stands (x ∷ xs) e) j

-- what is read was written so
pub written_read : (log : List ℕ) (es : List Edit) → read_log log ≡ some es → LawfulLog es × (log_bytes es ≡ log)
written_read log es e = at (judged (suc (length log)) log (omega arith))
  where
    at : Judged log → LawfulLog es × (log_bytes es ≡ log)
    at (well ds g w) = let r = read-written ds g in let d : ds ≡ es = cc (ap read_log w) in subst (λ (z : List Edit). LawfulLog z × (log_bytes z ≡ log)) d (g, w)
    at (ill ds xs g p f w) = absurd (let r = fault-anywhere ds xs g p f in let z : ◌≡◌ {A = Option (List Edit)} none (some es) = cc (ap read_log w) in let y : ◌≡◌ {A = ℕ} 0 1 = cc in omega arith)

-- and nothing else makes a log malformed
pub only-faults : (log : List ℕ) → read_log log ≡ none → Malformed log
only-faults log e = at (judged (suc (length log)) log (omega arith))
  where
    at : Judged log → Malformed log
    at (well es g w) = absurd (let r = read-written es g in let z : ◌≡◌ {A = Option (List Edit)} none (some es) = cc (ap read_log w) in let y : ◌≡◌ {A = ℕ} 0 1 = cc in omega arith)
    at (ill es xs g p f w) = record { before = es; lawful = g; rest = xs; some_left = p; fault = f; parts = w }
