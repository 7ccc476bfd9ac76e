use native.Mathlib.Omega.{arith}
use Rattle.register_map.proofs.Changing.{modify-after}
use Rattle.register_map.proofs.modify.Goals as goal

pub returns : goal.returns
returns c =
    let a = c.in_ok-sound.ensures in
    modify-after a _ c.in_ok-short_key.ensures _ c.in_ok-short_value.ensures (λ k. omega (arith, c.slice_known-1.given k)) c.modify.result (c.modify.ensures a.0 a.1)
