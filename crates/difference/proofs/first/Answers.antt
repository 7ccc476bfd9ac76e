use mathlib.Core.Path.{ap}
use Rattle.slots.specs.declared.Header.{Header}
use Rattle.difference.proofs.Standing.{root_in, first-cursor}
use Rattle.difference.proofs.first.Goals as goal

pub first_entry-requires : goal.first_entry-requires
first_entry-requires c =
    root_in c.requires (ap (λ (h : Header). h.root) c.header_of.ensures)

pub returns : goal.returns
returns c =
    first-cursor c.requires (ap (λ (h : Header). h.root) c.header_of.ensures) c.first_entry.ensures
