-- What the rebuild's answers say of the parse, over plain values.
use Prim.Native.Nat.{ℕ, zero, suc, ◌+◌, ◌-◌, ◌<◌, ◌≤◌}
use mathlib.Core.Path.{◌≡◌, refl, sym, ap, subst, ◌∙◌}
use mathlib.Core.Bool.{Bool, true, false}
use mathlib.Core.List.{List, [], ◌∷◌}
use native.Mathlib.Omega.{arith}
use native.Mathlib.Numerals.{sub-one}
use native.Mathlib.Nat.{le_refl}
use lib.ListN.{length, take, drop, length-drop, drop_of_length-le}
use lib.Seq.{drop-drop}
use lib.Dec.{leb}
use borrow.Author.Tests.{leb-true, leb-false}
use Rattle.hash_tree.specs.declared.Record.{Record}
use Rattle.std.specs.Prelude.{Option, Some, None}
use Rattle.hash_tree.specs.declared.Step.{Step}
use Rattle.hash_tree.specs.HashTree.{HashTree, digest, fork_hash, labeled_hash}
use Rattle.hash_tree.specs.declared.Kind.{Kind}
use Rattle.hash_tree.specs.Record.{kind_number, kind_at, a_record, whole_record, record_of, Opens, kind_of, len_of, least, most}
use Rattle.hash_tree.specs.Parse.{Parsed, Got, Bad, parse, grow, by_kind, labeled, forked, fork}
use Rattle.hash_tree.specs.Steps.{step_of, single_digest}
use Rattle.hash_tree.proofs.RecordLaws.{View, whole, bad, view, numbered, kind-back}
use Rattle.hash_tree.specs.Whole.{alone, accepted, refused}

-- what is known of a whole record at a place
pub record Seen (s : List ℕ) (at k n : ℕ) : Type 0 where
  pub fits : at + 2 + n ≤ length s
  pub kind : k < 5
  pub low : least k ≤ n
  pub high : n ≤ most k

abbrev kind_in : Option Record → ℕ
kind_in (Some r) = kind_number r.kind
kind_in None = 0

abbrev len_in : Option Record → ℕ
len_in (Some r) = r.len
len_in None = 0

opened : (xs : List ℕ) (kind : Kind) (n : ℕ) (r : Option Record) → View xs r → r ≡ a_record kind n → Opens xs × (kind_of xs ≡ kind_number kind) × (len_of xs ≡ n)
opened xs kind n r (whole o) e = (o, sym (numbered (kind_of xs) o.kind) ∙ ap kind_in e, ap len_in e)
opened xs kind n r (bad f) e = let z : ◌≡◌ {A = ℕ} 0 1 = cc in absurd (omega arith)

pub seen : (s : List ℕ) (at : ℕ) (kind : Kind) (n : ℕ) → record_of (drop at s) ≡ a_record kind n → Seen s at (kind_number kind) n
seen s at kind n e =
    let w = opened (drop at s) kind n (record_of (drop at s)) (view (drop at s)) e in
    let l = length-drop at s in
    record { fits = omega arith; kind = rw w.1 at w.0.kind; low = rw (w.1, w.2) at w.0.low; high = rw (w.1, w.2) at w.0.high }

-- the length of a pruned record
pub pruned : (s : List ℕ) (at k n : ℕ) → Seen s at k n → k ≡ 4 → n ≡ 32
unfolding least most
pruned s at k n h e =
    let l : least 4 ≤ n = rw e at h.low in
    let m : n ≤ most 4 = rw e at h.high in
    omega arith

pub parse-none : (d : ℕ) (xs : List ℕ) → d ≡ 0 → parse d xs ≡ Bad
unfolding parse
parse-none d xs e = rw e

pub parse-bad : (d : ℕ) (xs : List ℕ) → record_of xs ≡ None → parse d xs ≡ Bad
unfolding parse
parse-bad zero xs e = refl
parse-bad (suc d) xs e = rw e

by-number : (p : List ℕ → Parsed) (k : ℕ) (b rest : List ℕ) → by_kind p (kind_number (kind_at k)) b rest ≡ by_kind p k b rest
by-number p zero b rest = refl
by-number p (suc zero) b rest = refl
by-number p (suc (suc zero)) b rest = refl
by-number p (suc (suc (suc zero))) b rest = refl
by-number p (suc (suc (suc (suc k)))) b rest = refl

parse-at : (s : List ℕ) (at d k n : ℕ) → (d ≡ 0 → ⊥) → record_of (drop at s) ≡ whole_record k n
    → parse d (drop at s) ≡ by_kind (parse (d - 1)) k (take n (drop (at + 2) s)) (drop (at + 2 + n) s)
unfolding parse
parse-at s at zero k n h e = absurd (h refl)
parse-at s at (suc d) k n h e = rw (e, by-number (parse d) k _ _, drop-drop 2 at s, drop-drop n (at + 2) s, sub-one (suc d))

-- the answer for a Fork, by those for its children
abbrev pub joined : Step → Option Step → Option Step
joined l (Some r) = Some (record { next = r.next; digest = fork_hash l.digest r.digest })
joined l None = None

-- the answer for a Labeled, by that for its child
abbrev pub labels : List ℕ → Option Step → Option Step
labels b (Some t) = Some (record { next = t.next; digest = labeled_hash b t.digest })
labels b None = None

-- what is left after a parse within s is s from some place on
abbrev Left : List ℕ → Parsed → Type 0
Left s (Got t rest) = (n : ℕ) × (rest ≡ drop n s)
Left s Bad = Unit {0}

module _ (s : List ℕ) where
  module _ (p : List ℕ → Parsed) (hp : (n : ℕ) → Left s (p (drop n s))) where
    forked-left : (t : HashTree) (z : Parsed) → Left s z → Left s (forked t z)
    forked-left t (Got u rest) h = h
    forked-left t Bad h = tt

    fork-left : (z : Parsed) → Left s z → Left s (fork p z)
    fork-left (Got t rest) h = forked-left t (p rest) (subst (λ (ys : List ℕ). Left s (p ys)) (sym h.1) (hp h.0))
    fork-left Bad h = tt

    labeled-left : (b : List ℕ) (z : Parsed) → Left s z → Left s (labeled b z)
    labeled-left b (Got u rest) h = h
    labeled-left b Bad h = tt

    by-kind-left : (k : ℕ) (b : List ℕ) (n : ℕ) → Left s (by_kind p k b (drop n s))
    by-kind-left zero b n = (n, refl)
    by-kind-left (suc zero) b n = fork-left (p (drop n s)) (hp n)
    by-kind-left (suc (suc zero)) b n = labeled-left b (p (drop n s)) (hp n)
    by-kind-left (suc (suc (suc zero))) b n = (n, refl)
    by-kind-left (suc (suc (suc (suc k)))) b n = (n, refl)

    grow-left : (at : ℕ) (r : Option Record) → Left s (grow p (drop at s) r)
    grow-left at (Some r) = rw (drop-drop 2 at s, drop-drop r.len (at + 2) s) (by-kind-left (kind_number r.kind) (take r.len (drop (at + 2) s)) (at + 2 + r.len))
    grow-left at None = tt

  pub left : (d at : ℕ) → Left s (parse d (drop at s))
  unfolding parse
  left zero at = tt
  left (suc d) at = grow-left (λ ys. parse d ys) (λ n. left d n) at (record_of (drop at s))

  -- the place of what is left
  back_by : (rest : List ℕ) (n : ℕ) (t : Bool) → leb n (length s) ≡ t → rest ≡ drop n s → length rest ≡ length s - n → drop (length s - length rest) s ≡ rest
  back_by rest n true f e l =
      let h = leb-true n (length s) f in
      let m : length s - length rest ≡ n = omega arith in
      rw m (sym e)
  back_by rest n false f e l =
      let h = leb-false n (length s) f in
      let m : length s - length rest ≡ length s = omega arith in
      let over : length s ≤ n = omega arith in
      let none : drop n s ≡ [] = drop_of_length-le s over in
      let all : drop (length s) s ≡ [] = drop_of_length-le s (le_refl (length s)) in
      rw m (all ∙ sym none ∙ sym e)

  back : (rest : List ℕ) (n : ℕ) → rest ≡ drop n s → drop (length s - length rest) s ≡ rest
  back rest n e = back_by rest n (leb n (length s)) refl e (ap length e ∙ length-drop n s)

  module _ (p : List ℕ → Parsed) where
    step-none : (z : Parsed) → step_of s z ≡ None → step_of s (fork p z) ≡ None
    step-none (Got t rest) e = let z : ◌≡◌ {A = ℕ} 0 1 = cc in absurd (omega arith)
    step-none Bad e = refl

    step-forked : (l : Step) (t : HashTree) (z : Parsed) → l.digest ≡ digest t → step_of s (forked t z) ≡ joined l (step_of s z)
    step-forked l t (Got u rest) e = rw e
    step-forked l t Bad e = refl

    step-fork : (l : Step) (z : Parsed) → Left s z → step_of s z ≡ Some l → step_of s (fork p z) ≡ joined l (step_of s (p (drop l.next s)))
    step-fork l (Got t rest) f e =
        let n : l.next ≡ length s - length rest = cc in
        let d : l.digest ≡ digest t = cc in
        rw (n, back rest f.0 f.1) (step-forked l t (p rest) d)
    step-fork l Bad f e = let y : ◌≡◌ {A = ℕ} 0 1 = cc in absurd (omega arith)

    step-labeled : (b : List ℕ) (z : Parsed) → step_of s (labeled b z) ≡ labels b (step_of s z)
    step-labeled b (Got u rest) = refl
    step-labeled b Bad = refl

    -- a record with no children ends where its bytes end
    ends : (n : ℕ) → n ≤ length s → length s - length (drop n s) ≡ n
    ends n h = omega (arith, length-drop n s)

    step-single : (k : ℕ) (b : List ℕ) (n : ℕ) → k < 5 → (k ≡ 1 → ⊥) → (k ≡ 2 → ⊥) → n ≤ length s
        → step_of s (by_kind p k b (drop n s)) ≡ Some (record { next = n; digest = single_digest k b })
    step-single zero b n h h₁ h₂ f = rw (ends n f)
    step-single (suc zero) b n h h₁ h₂ f = absurd (h₁ refl)
    step-single (suc (suc zero)) b n h h₁ h₂ f = absurd (h₂ refl)
    step-single (suc (suc (suc zero))) b n h h₁ h₂ f = rw (ends n f)
    step-single (suc (suc (suc (suc zero)))) b n h h₁ h₂ f = rw (ends n f)
    step-single (suc (suc (suc (suc (suc k))))) b n h h₁ h₂ f = absurd (omega arith)

  -- the whole input, by the step's answer
  pub none-alone : (z : Parsed) → step_of s z ≡ None → alone z ≡ refused
  none-alone (Got t rest) e = let y : ◌≡◌ {A = ℕ} 0 1 = cc in absurd (omega arith)
  none-alone Bad e = refl

  module _ (q : Step) where
    pub more-alone : (z : Parsed) → step_of s z ≡ Some q → (q.next ≡ length s → ⊥) → alone z ≡ refused
    more-alone (Got t []) e l = let n : q.next ≡ length s - 0 = cc in absurd (l (omega arith))
    more-alone (Got t (x ∷ rest)) e l = refl
    more-alone Bad e l = refl

    pub all-alone : (z : Parsed) → Left s z → step_of s z ≡ Some q → q.next ≡ length s → alone z ≡ accepted q.digest
    all-alone (Got t []) f e l = let d : digest t ≡ q.digest = cc in rw d
    all-alone (Got t (x ∷ rest)) f e l = let n : q.next ≡ length s - suc (length rest) = cc in absurd (omega (arith, ap length f.1, length-drop f.0 s))
    all-alone Bad f e l = let y : ◌≡◌ {A = ℕ} 0 1 = cc in absurd (omega arith)

-- what is known once a whole record has been read at a place
pub record Known (s : List ℕ) (at d k n : ℕ) : Type 0 where
  pub pos : d ≡ 0 → ⊥
  pub opens : record_of (drop at s) ≡ whole_record k n
  pub seen : Seen s at k n

pub knows : (s : List ℕ) (at d : ℕ) (kind : Kind) (n : ℕ) → (d ≡ 0 → ⊥) → record_of (drop at s) ≡ a_record kind n → Known s at d (kind_number kind) n
knows s at d kind n h e = record { pos = h; opens = e ∙ ap (λ (k : Kind). a_record k n) (sym (kind-back kind)); seen = seen s at kind n e }

-- the parse at a place, by its record's kind
module _ (s : List ℕ) (at d k n : ℕ) (h : Known s at d k n) where
  pub at-kind : parse d (drop at s) ≡ by_kind (parse (d - 1)) k (take n (drop (at + 2) s)) (drop (at + 2 + n) s)
  at-kind = parse-at s at d k n h.pos h.opens

  pub at_fork : k ≡ 1 → parse d (drop at s) ≡ fork (parse (d - 1)) (parse (d - 1) (drop (at + 2 + n) s))
  at_fork f = at-kind ∙ rw f

  pub at-labeled : k ≡ 2 → parse d (drop at s) ≡ labeled (take n (drop (at + 2) s)) (parse (d - 1) (drop (at + 2 + n) s))
  at-labeled f = at-kind ∙ rw f

  -- the answer at a place, by the answers one record deeper
  pub fork-none : k ≡ 1 → step_of s (parse (d - 1) (drop (at + 2 + n) s)) ≡ None → step_of s (parse d (drop at s)) ≡ None
  fork-none f e = rw (at_fork f) (step-none s (parse (d - 1)) (parse (d - 1) (drop (at + 2 + n) s)) e)

  pub fork-then : k ≡ 1 → (l : Step) → step_of s (parse (d - 1) (drop (at + 2 + n) s)) ≡ Some l
      → step_of s (parse d (drop at s)) ≡ joined l (step_of s (parse (d - 1) (drop l.next s)))
  fork-then f l e = rw (at_fork f) (step-fork s (parse (d - 1)) l (parse (d - 1) (drop (at + 2 + n) s)) (left s (d - 1) (at + 2 + n)) e)

  pub labeled-then : k ≡ 2 → step_of s (parse d (drop at s)) ≡ labels (take n (drop (at + 2) s)) (step_of s (parse (d - 1) (drop (at + 2 + n) s)))
  labeled-then f = rw (at-labeled f) (step-labeled s (parse (d - 1)) (take n (drop (at + 2) s)) (parse (d - 1) (drop (at + 2 + n) s)))

  pub single-then : (k ≡ 1 → ⊥) → (k ≡ 2 → ⊥) → step_of s (parse d (drop at s)) ≡ Some (record { next = at + 2 + n; digest = single_digest k (take n (drop (at + 2) s)) })
  single-then f g = rw at-kind (step-single s (parse (d - 1)) k (take n (drop (at + 2) s)) (at + 2 + n) h.seen.kind f g h.seen.fits)
