-- What `==` of two slices decides.
use mathlib.Core.Path.{◌≡◌, sym, ◌∙◌}
use mathlib.Core.Bool.{Bool, true, false}
use mathlib.Core.List.{List}
use Prim.Native.Nat.{ℕ}
use Rattle.std.specs.Bool as std
use Rattle.std.specs.Str.{bytes_eq}
use Rattle.std.proofs.lemmas.Slice.Eq.{bytes_eq-Decides}
use Rattle.runs.specs.Runs.{Decides}
use Rattle.runs.proofs.Testing.{clash}

-- bytes p and q, which the code has read as x and y
pub equal-decides : {x y p q : List ℕ} (b : Bool) → b ≡ bytes_eq x y → x ≡ p → y ≡ q → Decides b (p ≡ q)
equal-decides {x} {y} {p} {q} b e ex ey = go b e (bytes_eq-Decides x y)
  where
    go : (b : Bool) → b ≡ bytes_eq x y → std.Decides (bytes_eq x y) (x ≡ y) → Decides b (p ≡ q)
    go true e d = sym ex ∙ d.0 (sym e) ∙ ey
    go false e d = λ w. clash (d.1 (ex ∙ w ∙ sym ey)) (sym e)
