use mathlib.Core.Path.{ap}
use Rattle.slots.specs.declared.Header.{Header}
use Rattle.difference.proofs.Standing.{root_in, here, after-cursor}
use Rattle.difference.proofs.after.Goals as goal

pub key-requires : goal.key-requires
key-requires c =
    let w = (here c.requires.0 c.requires.1).there in
    record { has_slot = w.inside; length_bound = w.key }

pub next_entry-requires : goal.next_entry-requires
next_entry-requires c =
    root_in c.requires.0 (ap (λ (h : Header). h.root) c.header_of.ensures)

pub returns : goal.returns
returns c =
    after-cursor c.requires.0 (ap (λ (h : Header). h.root) c.header_of.ensures) c.requires.1 c.key.ensures c.next_entry.ensures
