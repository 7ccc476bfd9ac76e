use mathlib.Core.Path.{refl}
use Rattle.slots.proofs.Copying.{slot-steps, clear-steps}
use Rattle.slots.proofs.clear_slot.Goals as goal

pub returns : goal.returns
returns c =
    clear-steps _ _ _ _ _ _ (slot-steps _ _ _ _ c.requires.has_slot c.set_head.ensures _ _ _ _ _ _ refl c.key_at-k.ensures.0 c.wipe.ensures c.value_at-v.ensures.0 c.wipe-2.ensures) c.digest_at-d.ensures.0 c.wipe-3.ensures
