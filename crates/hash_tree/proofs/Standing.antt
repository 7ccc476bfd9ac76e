-- Where a parsed tree ends, over plain lists, and what tree_at finds there.
use Prim.Native.Nat.{ℕ, zero, suc, ◌+◌, ◌-◌, ◌<◌, ◌≤◌}
use mathlib.Core.Path.{◌≡◌, refl, sym, ap, subst, ◌∙◌}
use mathlib.Core.List.{List}
use native.Mathlib.Omega.{arith}
use lib.ListN.{length, take, drop, length-drop}
use lib.Seq.{drop-drop, length-take-le}
use Rattle.hash_tree.specs.declared.Record.{Record}
use Rattle.std.specs.Prelude.{Option, Some, None}
use Rattle.hash_tree.specs.HashTree.{HashTree}
use Rattle.hash_tree.specs.Written.{size}
use Rattle.hash_tree.specs.Record.{record_of, kind_of, len_of, most}
use Rattle.hash_tree.specs.Parse.{Parsed, Got, Bad, parse, grow, by_kind, labeled, forked, fork}
use Rattle.hash_tree.specs.Steps.{place_of}
use Rattle.hash_tree.proofs.RecordLaws.{View, whole, bad, view, numbered, body-length}
use Rattle.hash_tree.proofs.Rebuilding.{Known, at-kind, at_fork, at-labeled}

-- a tree that was parsed at a place ends so many bytes further on
abbrev pub Stands : List ℕ → ℕ → Parsed → Type 0
Stands s at (Got t rest) = (rest ≡ drop (at + size t) s) × (at + size t ≤ length s)
Stands s at Bad = Unit {0}

module _ (s : List ℕ) where
  module _ (p : List ℕ → Parsed) (hp : (n : ℕ) → Stands s n (p (drop n s))) where
    forked-stands : (at : ℕ) (l : HashTree) (z : Parsed) → Stands s (at + 2 + size l) z → Stands s at (forked l z)
    forked-stands at l (Got r rest) h =
        let e : at + 2 + size l + size r ≡ at + (2 + (size l + size r)) = omega arith in
        (h.0 ∙ ap (λ (n : ℕ). drop n s) e, omega (arith, h.1))
    forked-stands at l Bad h = tt

    fork-stands : (at : ℕ) (z : Parsed) → Stands s (at + 2) z → Stands s at (fork p z)
    fork-stands at (Got l rest) h = forked-stands at l (p rest) (subst (λ (ys : List ℕ). Stands s (at + 2 + size l) (p ys)) (sym h.0) (hp (at + 2 + size l)))
    fork-stands at Bad h = tt

    labeled-stands : (at : ℕ) (b : List ℕ) (z : Parsed) → Stands s (at + 2 + length b) z → Stands s at (labeled b z)
    labeled-stands at b (Got t rest) h =
        let e : at + 2 + length b + size t ≡ at + (2 + (length b + size t)) = omega arith in
        (h.0 ∙ ap (λ (n : ℕ). drop n s) e, omega (arith, h.1))
    labeled-stands at b Bad h = tt

    single-stands : (at n m : ℕ) → at + 2 + n ≤ length s → m ≡ 2 + n → (drop (at + 2 + n) s ≡ drop (at + m) s) × (at + m ≤ length s)
    single-stands at n m h e =
        let f : at + 2 + n ≡ at + m = omega arith in
        (ap (λ (x : ℕ). drop x s) f, omega arith)

    by-kind-stands : (at k : ℕ) (b : List ℕ) (n : ℕ) → length b ≡ n → n ≤ most k → at + 2 + n ≤ length s → Stands s at (by_kind p k b (drop (at + 2 + n) s))
    unfolding most
    by-kind-stands at zero b n e m h = single-stands at n 2 h (omega arith)
    by-kind-stands at (suc zero) b n e m h =
        let z : at + 2 + n ≡ at + 2 = omega arith in
        subst (λ (x : ℕ). Stands s at (fork p (p (drop x s)))) (sym z) (fork-stands at (p (drop (at + 2) s)) (hp (at + 2)))
    by-kind-stands at (suc (suc zero)) b n e m h =
        subst (λ (x : ℕ). Stands s at (labeled b (p (drop (at + 2 + x) s)))) e (labeled-stands at b (p (drop (at + 2 + length b) s)) (hp (at + 2 + length b)))
    by-kind-stands at (suc (suc (suc zero))) b n e m h = single-stands at n (2 + length b) h (omega arith)
    by-kind-stands at (suc (suc (suc (suc k)))) b n e m h = single-stands at n (2 + length b) h (omega arith)

    grow-stands : (at : ℕ) (r : Option Record) → View (drop at s) r → Stands s at (grow p (drop at s) r)
    grow-stands at r (whole o) =
        let l = length-drop at s in
        let w = body-length (drop at s) o in
        rw (numbered (kind_of (drop at s)) o.kind, drop-drop 2 at s, drop-drop (len_of (drop at s)) (at + 2) s)
        (by-kind-stands at (kind_of (drop at s)) (take (len_of (drop at s)) (drop (at + 2) s)) (len_of (drop at s)) (rw (drop-drop 2 at s) at w) o.high (omega (arith, l, o.two, o.body)))
    grow-stands at r (bad f) = tt

  pub stands : (d at : ℕ) → Stands s at (parse d (drop at s))
  unfolding parse
  stands zero at = tt
  stands (suc d) at = grow-stands (λ ys. parse d ys) (λ n. stands d n) at (record_of (drop at s)) (view (drop at s))

-- ---- tree_at

pub place-bad : (at : ℕ) (z : Parsed) → z ≡ Bad → None ≡ place_of at z
place-bad at z e = rw e

module _ (s : List ℕ) (p : List ℕ → Parsed) where
  pub place-fork-bad : (at next : ℕ) (z : Parsed) → place_of next z ≡ None → None ≡ place_of at (fork p z)
  place-fork-bad at next (Got t rest) e = let y : ◌≡◌ {A = ℕ} 0 1 = cc in absurd (omega arith)
  place-fork-bad at next Bad e = refl

  place-forked : (at : ℕ) (l : HashTree) (z : Parsed) → place_of (at + 2 + size l) z ≡ place_of at (forked l z)
  place-forked at l (Got r rest) = let e : at + 2 + size l + size r ≡ at + (2 + (size l + size r)) = omega arith in ap Some e
  place-forked at l Bad = refl

  pub place-fork : (at middle : ℕ) (q : Option ℕ) (z : Parsed) → Stands s (at + 2) z → place_of (at + 2) z ≡ Some middle → q ≡ place_of middle (p (drop middle s)) → q ≡ place_of at (fork p z)
  place-fork at middle q (Got l rest) h e f =
      let m : at + 2 + size l ≡ middle = cc in
      let g : q ≡ place_of (at + 2 + size l) (p (drop (at + 2 + size l) s)) = rw m f in
      (rw (← h.0) at g) ∙ place-forked at l (p rest)
  place-fork at middle q Bad h e f = let y : ◌≡◌ {A = ℕ} 0 1 = cc in absurd (omega arith)

  pub place-labeled : (at n : ℕ) (b : List ℕ) (q : Option ℕ) (z : Parsed) → length b ≡ n → q ≡ place_of (at + 2 + n) z → q ≡ place_of at (labeled b z)
  place-labeled at n b q (Got t rest) e f = let y : at + 2 + n + size t ≡ at + (2 + (length b + size t)) = omega arith in f ∙ ap Some y
  place-labeled at n b q Bad e f = f

  pub place-single : (at k n : ℕ) (b r : List ℕ) → k < 5 → n ≤ most k → (k ≡ 1 → ⊥) → (k ≡ 2 → ⊥) → length b ≡ n → Some (at + 2 + n) ≡ place_of at (by_kind p k b r)
  unfolding most
  place-single at zero n b r h m h₁ h₂ e = let y : at + 2 + n ≡ at + 2 = omega arith in ap Some y
  place-single at (suc zero) n b r h m h₁ h₂ e = absurd (h₁ refl)
  place-single at (suc (suc zero)) n b r h m h₁ h₂ e = absurd (h₂ refl)
  place-single at (suc (suc (suc zero))) n b r h m h₁ h₂ e = let y : at + 2 + n ≡ at + (2 + length b) = omega arith in ap Some y
  place-single at (suc (suc (suc (suc zero)))) n b r h m h₁ h₂ e = let y : at + 2 + n ≡ at + (2 + length b) = omega arith in ap Some y
  place-single at (suc (suc (suc (suc (suc k))))) n b r h m h₁ h₂ e = absurd (omega arith)

-- ---- at a whole record

pub body : (s : List ℕ) (at n : ℕ) → at + 2 + n ≤ length s → length (take n (drop (at + 2) s)) ≡ n
body s at n h = length-take-le n (drop (at + 2) s) (omega (arith, length-drop (at + 2) s))

pub none-own : (k n : ℕ) → n ≤ most k → k ≡ 1 → n ≡ 0
unfolding most
none-own k n h e = let g : n ≤ most 1 = rw e at h in omega arith

module _ (s : List ℕ) (at d k n : ℕ) (h : Known s at d k n) where
  after-fork : k ≡ 1 → at + 2 + n ≡ at + 2
  after-fork e = let z = none-own k n h.seen.high e in omega arith

  pub tree-fork-bad : k ≡ 1 → place_of (at + 2 + n) (parse (d - 1) (drop (at + 2 + n) s)) ≡ None → None ≡ place_of at (parse d (drop at s))
  tree-fork-bad e f = rw (at_fork s at d k n h e) (place-fork-bad s (parse (d - 1)) at (at + 2 + n) (parse (d - 1) (drop (at + 2 + n) s)) f)

  pub tree-fork : k ≡ 1 → (middle : ℕ) (q : Option ℕ) → place_of (at + 2 + n) (parse (d - 1) (drop (at + 2 + n) s)) ≡ Some middle → q ≡ place_of middle (parse (d - 1) (drop middle s)) → q ≡ place_of at (parse d (drop at s))
  tree-fork e middle q f g =
      rw (at_fork s at d k n h e, after-fork e)
      (place-fork s (parse (d - 1)) at middle q (parse (d - 1) (drop (at + 2) s)) (stands s (d - 1) (at + 2)) (rw (after-fork e) at f) g)

  pub tree-labeled : k ≡ 2 → (q : Option ℕ) → q ≡ place_of (at + 2 + n) (parse (d - 1) (drop (at + 2 + n) s)) → q ≡ place_of at (parse d (drop at s))
  tree-labeled e q f =
      rw (at-labeled s at d k n h e)
      (place-labeled s (parse (d - 1)) at n (take n (drop (at + 2) s)) q (parse (d - 1) (drop (at + 2 + n) s)) (body s at n h.seen.fits) f)

  pub tree-single : (k ≡ 1 → ⊥) → (k ≡ 2 → ⊥) → Some (at + 2 + n) ≡ place_of at (parse d (drop at s))
  tree-single f g =
      rw (at-kind s at d k n h)
      (place-single s (parse (d - 1)) at k n (take n (drop (at + 2) s)) (drop (at + 2 + n) s) h.seen.kind h.seen.high f g (body s at n h.seen.fits))
