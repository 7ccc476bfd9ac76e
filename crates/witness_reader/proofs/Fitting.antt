-- A whole record at a place ends within the slice, and what the slice has there is as long as the record says.
use Rattle.std.proofs.Common.{◌≡◌, ℕ, ◌+◌, ◌-◌, ◌≤◌, List, length, drop, sym, arith, ◌∙◌, ap}
use Rattle.std.specs.List.{slice_range}
use Rattle.std.proofs.lemmas.List.{length-take-le}
use Rattle.std.proofs.Math.ListN.{length-drop}
use Rattle.hash_tree.specs.declared.Kind.{Kind}
use Rattle.hash_tree.specs.Record.{record_of, a_record, after_record, place_after}
use Rattle.hash_tree.proofs.Rebuilding.{seen}

module _ (s : List ℕ) (at : ℕ) (k : Kind) (n : ℕ) (e : a_record k n ≡ record_of (drop at s)) where
  pub fits : at + 2 + n ≤ length s
  fits = (seen s at k n (sym e)).fits

  body_length : length (slice_range s (at + 2) (at + 2 + n)) ≡ n
  body_length =
      let d : at + 2 + n - (at + 2) ≡ n = omega arith in
      let l = length-drop (at + 2) s in
      length-take-le (at + 2 + n - (at + 2)) (drop (at + 2) s) (omega (arith, l, fits)) ∙ d

  pub whole : record_of (drop at s) ≡ a_record k (length (slice_range s (at + 2) (at + 2 + n)))
  whole = sym e ∙ sym (ap (λ (m : ℕ). a_record k m) body_length)

  pub ends : at + 2 + n ≡ place_after s at
  unfolding place_after
  ends = ap (after_record at) e
