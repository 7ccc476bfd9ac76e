use mathlib.Core.Path.{ap, ◌∙◌}
use Rattle.slots.specs.declared.Header.{Header}
use Rattle.llrb.specs.Iterate.{first_entry}
use Rattle.search.specs.Search.{Stored}
use Rattle.search.proofs.Finding.{root_in, found_in, placed, first-each, first-answer}
use Rattle.search.proofs.first_place.Goals as goal

pub first_entry-requires : goal.first_entry-requires
first_entry-requires c =
    root_in c.requires (ap (λ (h : Header). h.root) c.header_of-root.ensures)

pub place_of-requires : goal.place_of-requires
place_of-requires c =
    found_in c.requires (ap (λ (h : Header). h.root) c.header_of-root.ensures) first_entry (first-each (Stored _)) c.first_entry.ensures

pub returns : goal.returns
returns c =
    placed c.requires (ap (λ (h : Header). h.root) c.header_of-root.ensures) first_entry (first-each (Stored _)) c.first_entry.ensures c.place_of.ensures ∙ first-answer c.requires.1
