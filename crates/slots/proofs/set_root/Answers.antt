use Rattle.slots.proofs.Coding.{root-fits, root-set}
use Rattle.slots.proofs.set_root.Goals as goal

pub set_header-requires : goal.set_header-requires
set_header-requires c =
    record { in_bounds = c.requires.in_bounds; header_fits = root-fits _ c.header_of-h.ensures c.requires.x_bound }

pub returns : goal.returns
returns c =
    root-set _ _ _ c.header_of-h.ensures c.set_header.ensures
