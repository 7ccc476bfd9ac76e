use mathlib.Core.Path.{refl}
use native.Mathlib.Omega.{arith}
use lib.ListN.{length}
use Rattle.runs.proofs.Runs.{filled, padded-set}
use Rattle.runs.proofs.put_padded.Goals as goal

pub returns : goal.returns
returns c =
    let a = c.args in
    padded-set _ _ _ _ _ _ (filled a.s.now a.x.now _ a.a (length a.x.now) (omega (arith, c.requires)) refl c.copy_from_slice.ensures.after) c.wipe.ensures
