use mathlib.Core.Path.{refl, ap, ◌∙◌}
use mathlib.Core.List.{List}
use Prim.Native.Nat.{ℕ}
use native.Mathlib.Nat.{div-one}
use lib.ListN.{take, drop}
use Rattle.runs.specs.Bits.{fields, octets}
use Rattle.runs.proofs.Runs.{filled}
use Rattle.runs.proofs.put_six.Goals as goal

pub returns : goal.returns
unfolding fields
returns c =
    let a = c.args in
    filled a.s.now (fields (octets 6) a.h) _ a.a 6 c.requires refl (rw div-one (c.copy_from_slice.ensures.after ∙ ap (λ (xs : List ℕ). take 6 (drop 2 xs)) c.to_be_bytes.ensures))
