use native.Mathlib.Omega.{arith}
use Rattle.register_map.proofs.Changing.{delete-after}
use Rattle.register_map.proofs.delete.Goals as goal

pub returns : goal.returns
returns c =
    let a = c.in_ok-sound.ensures in
    delete-after a _ c.in_ok-short_key.ensures (λ k. omega (arith, c.slice_known-1.given k)) c.delete.result (c.delete.ensures a.0 a.1)
