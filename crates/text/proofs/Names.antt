-- Names that stand for themselves.
use mathlib.Core.Path.{◌≡◌, refl}
use mathlib.Core.List.{List, [], ◌∷◌}
use Prim.Native.Nat.{ℕ}
use Rattle.std.specs.List.{list_all}
use Rattle.text.specs.Hex.{between, all_printable}

pub each-printable : (s : List ℕ) → list_all (between 33 126) s ≡ all_printable s
unfolding all_printable
each-printable [] = refl
each-printable (b ∷ s) = rw (each-printable s) refl
