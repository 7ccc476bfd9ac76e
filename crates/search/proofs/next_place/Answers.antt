use mathlib.Core.Path.{ap, ◌∙◌}
use Rattle.slots.specs.declared.Header.{Header}
use Rattle.llrb.specs.Iterate.{next_entry}
use Rattle.search.specs.Search.{Stored}
use Rattle.search.proofs.Finding.{root_in, found_in, placed, next-each, next-answer}
use Rattle.search.proofs.next_place.Goals as goal

pub next_entry-requires : goal.next_entry-requires
next_entry-requires c =
    root_in c.requires.sound (ap (λ (h : Header). h.root) c.header_of-root.ensures)

pub place_of-requires : goal.place_of-requires
place_of-requires c =
    found_in c.requires.sound (ap (λ (h : Header). h.root) c.header_of-root.ensures) (next_entry c.args.key.now) (next-each (Stored _) _) c.next_entry.ensures

pub returns : goal.returns
returns c =
    placed c.requires.sound (ap (λ (h : Header). h.root) c.header_of-root.ensures) (next_entry c.args.key.now) (next-each (Stored _) _) c.next_entry.ensures c.place_of.ensures ∙ next-answer c.requires.sound.1 _ c.requires.key_bound
