-- A batch of edits: one record more, and the refresh at the end.
use mathlib.Core.Path.{◌≡◌, refl, sym, ap, subst, ◌∙◌}
use mathlib.Core.Bool.{Bool, true, false}
use mathlib.Core.Logic.{◌⊎◌, inl, inr}
use mathlib.Core.List.{List, [], ◌∷◌}
use mathlib.Core.Option.{some}
use Prim.Native.Nat.{ℕ, ◌+◌, ◌-◌, ◌≤◌, ◌<◌}
use native.Mathlib.Omega.{arith}
use lib.Dec.{eqb}
use lib.ListN.{length, take, drop, length-take}
use lib.Seq.{drop-drop}
use Rattle.std.specs.Prelude.{Ok, Err, Result, ⊤}
use Rattle.answers.specs.Answers as answers
use denote.Enum.Bare.{sameb}
use Rattle.runs.proofs.Testing.{clash}
use Rattle.answers.specs.contracts.Refusal.{the_type}
use Rattle.key_order.specs.Order.{Key}
use Rattle.slots.specs.Bits.{Bytes}
use Rattle.llrb.specs.Tree.{Value}
use Rattle.store.specs.Counts.{one}
use Rattle.store.specs.Numbers.{Refusal, Full, Absent, Outcome, refused, done, number_of}
use Rattle.store.specs.Model.{Model, inserted, modified, deleted}
use Rattle.store.specs.Sound.{Represents}
use Rattle.store.specs.Encode.{encode}
use Rattle.store.specs.Calls.{refuse}
use Rattle.store.specs.History.{Edit, Insert, Modify, Delete, edit_in, after}
use Rattle.store.specs.Log.{edit_of, first_edit, read_log}
use Rattle.store.specs.Replay.{Replayed, replay_answer, run_in, number_in, answering_in}
use Rattle.store.proofs.Encoding.{encoded}
use Rattle.store.proofs.Calling.{insert-outcome, modify-outcome, delete-outcome}
use Rattle.store.proofs.Replaying.{replay-model}
use Rattle.rb_tree.specs.Stores.{Holds, Stale, HoldsStale, Comes, StaleInsert, StaleChange}
use Rattle.rb_tree.proofs.Settling.{stale-of}
use Rattle.replay.specs.declared.Operation.{Operation}
use Rattle.replay.specs.Records.{Head, number_for}
use Rattle.replay.specs.Runs.{OfTwo, StaleEdit}
use Rattle.replay.proofs.Reading.{head-stands, fits, readable, at-end, unsplit}

-- ---- one record

unchanged : {s s' : List ℕ} {m : Model} → Stale s m → s' ≡ s → HoldsStale s s' m
unchanged {s} {s'} {m} a e = subst (λ (z : List ℕ). HoldsStale s z m) (sym e) (record { holds = a; bytes = λ b. b })

-- an outcome, with what it leaves
did : (e : Edit) {s s' : List ℕ} {m : Model} (o : Outcome Model) {r : Result ⊤ Refusal} → edit_in e m ≡ o → HoldsStale s s' (after o m) → number_in o ≡ answers.number_in r → OfTwo r → StaleEdit e s s' m r
did e {s} {s'} {m} o {r} q h n w =
    record {
      holds = subst (λ (x : Outcome Model). HoldsStale s s' (after x m)) (sym q) h;
      number = ap number_in q ∙ n;
      why = w;
    }

module _ (k : Key) (p : length k ≤ 48) {s s' : List ℕ} {m : Model} (a : Stale s m) where
  -- an edit that may be refused for one reason, and what its call came to
  comes : (e : Edit) (why : Refusal) (fails : Bool) (m' : Model) → edit_in e m ≡ refuse fails why (done m') → (why ≡ Full) ⊎ (why ≡ Absent)
      → (r : Result ⊤ Refusal) → Comes why fails (HoldsStale s s' m') (s' ≡ s) r → StaleEdit e s s' m r
  comes e why fails m' q o (Ok x) w = did e (done m') (q ∙ ap (λ (t : Bool). refuse t why (done m')) w.0) w.1 refl tt
  comes e why fails m' q o (Err y) w =
      did e (refused why) (q ∙ ap (λ (t : Bool). refuse t why (done m')) w.0) (unchanged a w.1) (ap number_of (sym w.2)) (subst (λ (z : Refusal). (z ≡ Full) ⊎ (z ≡ Absent)) (sym w.2) o)

  module _ (v : Value) where
    pub inserts : length v ≤ 64 → (r : Result ⊤ Refusal) → StaleInsert k v s s' m r → StaleEdit (Insert k v) s s' m r
    inserts q r w = comes (Insert k v) Full _ (inserted k v m) (insert-outcome k v m p q) (inl refl) r w

    pub modifies : length v ≤ 64 → (r : Result ⊤ Refusal) → StaleChange k s s' m (modified k v m) r → StaleEdit (Modify k v) s s' m r
    modifies q r w = comes (Modify k v) Absent _ (modified k v m) (modify-outcome k v m p q) (inr refl) r w

  pub deletes : (r : Result ⊤ Refusal) → StaleChange k s s' m (deleted k m) r → StaleEdit (Delete k) s s' m r
  deletes r w = comes (Delete k) Absent _ (deleted k m) (delete-outcome k m p) (inr refl) r w

-- the edit that an operation names
pub by_operation : {o : Operation} (q : Operation) (k : Key) (v : Value) {s s' : List ℕ} {m : Model} {r : Result ⊤ Refusal} → o ≡ q → StaleEdit (edit_of (number_for q) k v) s s' m r
    → StaleEdit (edit_of (number_for o) k v) s s' m r
by_operation q k v {s} {s'} {m} {r} e w = subst (λ (x : Operation). StaleEdit (edit_of (number_for x) k v) s s' m r) (sym e) w

-- ---- the record's key and value, as the slices are cut

module _ (log : List ℕ) (at : ℕ) (p : at < length log) {o k v : ℕ} (h : Head (drop at log) o k v) where
  pub short-key : length (take ((at + 2 + k) - (at + 2)) (drop (at + 2) log)) ≤ 48
  short-key = omega (arith, length-take ((at + 2 + k) - (at + 2)) (drop (at + 2) log), (head-stands log at p h).key, h.key)

  pub short-value : length (take ((at + 2 + k + v) - (at + 2 + k)) (drop (at + 2 + k) log)) ≤ 64
  short-value = omega (arith, length-take ((at + 2 + k + v) - (at + 2 + k)) (drop (at + 2 + k) log), (head-stands log at p h).value, h.value)

cut-key : (at k : ℕ) (log : List ℕ) → take ((at + 2 + k) - (at + 2)) (drop (at + 2) log) ≡ take k (drop 2 (drop at log))
cut-key at k log =
    let e : (at + 2 + k) - (at + 2) ≡ k = omega arith in
    rw (e, drop-drop 2 at log)

cut-value : (at k v : ℕ) (log : List ℕ) → take ((at + 2 + k + v) - (at + 2 + k)) (drop (at + 2 + k) log) ≡ take v (drop (2 + k) (drop at log))
cut-value at k v log =
    let e : (at + 2 + k + v) - (at + 2 + k) ≡ v = omega arith in
    let f : at + (2 + k) ≡ at + 2 + k = omega arith in
    rw (e, drop-drop (2 + k) at log, f)

edit-cut : (log : List ℕ) (at : ℕ) {o k v : ℕ} → Head (drop at log) o k v
    → edit_of o (take ((at + 2 + k) - (at + 2)) (drop (at + 2) log)) (take ((at + 2 + k + v) - (at + 2 + k)) (drop (at + 2 + k) log)) ≡ first_edit (drop at log)
unfolding first_edit
edit-cut log at {o} {k} {v} h = rw (cut-key at k log, cut-value at k v log, h.operation, h.key, h.value)

-- ---- the loop that runs: what is left leads to the same end

pub record Halfway (m₀ : Model) (es₀ : List Edit) (log s₀ s : List ℕ) (at full absent : ℕ) : Type 0 where
  pub model : Model
  pub edits : List Edit
  pub stale : Stale s model
  pub left : read_log (drop at log) ≡ some edits
  pub bytes : Bytes s₀ → Bytes s
  pub ends : run_in edits model ≡ run_in es₀ m₀
  pub fulls : full + answering_in 5 edits model ≡ answering_in 5 es₀ m₀
  pub absents : absent + answering_in 7 edits model ≡ answering_in 7 es₀ m₀

pub record Runs (log s₀ s : List ℕ) (at full absent : ℕ) : Type 0 where
  pub within : at ≤ length log
  pub same : length s ≡ length s₀
  pub fulls : full ≤ at
  pub absents : absent ≤ at
  pub halfway : (m₀ : Model) (es₀ : List Edit) → Represents s₀ m₀ → read_log log ≡ some es₀ → Halfway m₀ es₀ log s₀ s at full absent

pub set_out : (log s : List ℕ) → Runs log s s 0 0 0
set_out log s =
    record {
      within = omega arith;
      same = refl;
      fulls = omega arith;
      absents = omega arith;
      halfway = λ m es a e. record { model = m; edits = es; stale = stale-of a; left = e; bytes = λ b. b; ends = refl; fulls = omega arith; absents = omega arith };
    }

-- one edit less to run
less-run : (e : Edit) (es : List Edit) (m : Model) → run_in es (after (edit_in e m) m) ≡ run_in (e ∷ es) m
unfolding run_in
less-run e es m = refl

less-answering : (n : ℕ) (e : Edit) (es : List Edit) (m : Model) → one (eqb (number_in (edit_in e m)) n) + answering_in n es (after (edit_in e m) m) ≡ answering_in n (e ∷ es) m
unfolding answering_in
less-answering n e es m = refl

module _ (log s₀ : List ℕ) {s s' : List ℕ} {at o k v : ℕ} (p : at < length log) (h : Head (drop at log) o k v) (same : length s' ≡ length s) (r : Result ⊤ Refusal)
    (E : (m : Model) → Stale s m → StaleEdit (edit_of o (take ((at + 2 + k) - (at + 2)) (drop (at + 2) log)) (take ((at + 2 + k + v) - (at + 2 + k)) (drop (at + 2 + k) log))) s s' m r)
  where
    did-first : (m : Model) → Stale s m → StaleEdit (first_edit (drop at log)) s s' m r
    did-first m a = subst (λ (e : Edit). StaleEdit e s s' m r) (edit-cut log at h) (E m a)

    onward : {full absent : ℕ} (m₀ : Model) (es₀ : List Edit) → Halfway m₀ es₀ log s₀ s at full absent
        → Halfway m₀ es₀ log s₀ s' (at + 2 + k + v) (full + one (eqb (answers.number_in r) 5)) (absent + one (eqb (answers.number_in r) 7))
    onward {full} {absent} m₀ es₀ w =
        let d = did-first w.model w.stale in
        let u = unsplit (first_edit (drop at log)) (read_log (drop (at + 2 + k + v) log)) w.edits (sym (readable log at p h) ∙ w.left) in
        let n = d.number in
        record {
          model = after (edit_in (first_edit (drop at log)) w.model) w.model;
          edits = u.0;
          stale = d.holds.holds;
          left = u.1;
          bytes = λ b. d.holds.bytes (w.bytes b);
          ends = less-run (first_edit (drop at log)) u.0 w.model ∙ ap (λ (es : List Edit). run_in es w.model) (sym u.2) ∙ w.ends;
          fulls = count 5 full _ w.fulls u.2 n;
          absents = count 7 absent _ w.absents u.2 n;
        }
      where
        count : (x c z : ℕ) → c + answering_in x w.edits w.model ≡ z → {ds : List Edit} → w.edits ≡ first_edit (drop at log) ∷ ds
            → number_in (edit_in (first_edit (drop at log)) w.model) ≡ answers.number_in r
            → c + one (eqb (answers.number_in r) x) + answering_in x ds (after (edit_in (first_edit (drop at log)) w.model) w.model) ≡ z
        count x c z q {ds} u n =
            let l = less-answering x (first_edit (drop at log)) ds w.model in
            let y = ap (λ (es : List Edit). answering_in x es w.model) u in
            let i = ap (λ (t : ℕ). one (eqb t x)) n in
            omega arith

    pub one_more : {full absent : ℕ} → Runs log s₀ s at full absent → Runs log s₀ s' (at + 2 + k + v) (full + one (eqb (answers.number_in r) 5)) (absent + one (eqb (answers.number_in r) 7))
    one_more {full} {absent} w =
        record {
          within = fits log at p h;
          same = same ∙ w.same;
          fulls = omega (arith, w.fulls, most 5);
          absents = omega (arith, w.absents, most 7);
          halfway = λ m₀ es₀ a e. onward m₀ es₀ (w.halfway m₀ es₀ a e);
        }
      where
        small : (b : Bool) → one b ≤ 1
        small true = omega arith
        small false = omega arith

        most : (x : ℕ) → one (eqb (answers.number_in r) x) ≤ 1
        most x = small (eqb (answers.number_in r) x)

-- which of the two refusals it is
pub is-full : {b : Bool} {r : Refusal} → OfTwo (Err r) → b ≡ true → b ≡ sameb the_type r Full → r ≡ Full
is-full (inl e) w q = e
is-full (inr e) w q = absurd (clash w (q ∙ ap (λ (x : Refusal). sameb the_type x Full) e))

pub is-absent : {b : Bool} {r : Refusal} → OfTwo (Err r) → b ≡ false → b ≡ sameb the_type r Full → r ≡ Absent
is-absent (inl e) w q = absurd (clash (q ∙ ap (λ (x : Refusal). sameb the_type x Full) e) w)
is-absent (inr e) w q = e

-- by the answer: nothing counted, one 5 more, one 7 more
pub counted-as : {log s₀ s : List ℕ} {at : ℕ} (f a : ℕ) {r : Result ⊤ Refusal} (q : Result ⊤ Refusal) → r ≡ q → {f' a' : ℕ} → f + one (eqb (answers.number_in q) 5) ≡ f' → a + one (eqb (answers.number_in q) 7) ≡ a'
    → Runs log s₀ s at (f + one (eqb (answers.number_in r) 5)) (a + one (eqb (answers.number_in r) 7)) → Runs log s₀ s at f' a'
counted-as f a q e x y w = rw (← x, ← y, ← e) w

end_is : {s' : List ℕ} (m : Model) (full absent : ℕ) → s' ≡ encode m
    → ◌≡◌ {A = Replayed} (record { number = 0; full = full; absent = absent; store = s' }) (record { number = 0; full = full + answering_in 5 [] m; absent = absent + answering_in 7 [] m; store = encode (run_in [] m) })
unfolding answering_in run_in
end_is m full absent e = let f : full + 0 ≡ full = omega arith in let a : absent + 0 ≡ absent = omega arith in rw (f, a, e)

-- the refresh, and the end
pub finished : (log : List ℕ) {s₀ s s' : List ℕ} {at full absent : ℕ} → Runs log s₀ s at full absent → length log ≤ at → ((m : Model) → Stale s m → Holds s s' m)
    → {m₀ : Model} {es₀ : List Edit} → Bytes s₀ → Represents s₀ m₀ → read_log log ≡ some es₀
    → record { number = 0; full = full; absent = absent; store = s' } ≡ replay_answer log s₀
finished log {s₀} {s} {s'} {at} {full} {absent} w p S {m₀} {es₀} b a e = rw (replay-model log b a es₀ e) all
  where
    x : Halfway m₀ es₀ log s₀ s at full absent
    x = w.halfway m₀ es₀ a e

    none_left : x.edits ≡ []
    none_left = let z : some x.edits ≡ some [] = sym x.left ∙ at-end log at w.within p in cc

    all : ◌≡◌ {A = Replayed} (record { number = 0; full = full; absent = absent; store = s' }) (record { number = 0; full = answering_in 5 es₀ m₀; absent = answering_in 7 es₀ m₀; store = encode (run_in es₀ m₀) })
    all = rw (← x.fulls, ← x.absents, ← x.ends, none_left) (end_is x.model full absent (encoded ((S x.model x.stale).bytes (x.bytes b)) (S x.model x.stale).holds))
