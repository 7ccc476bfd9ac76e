use mathlib.Core.Path.{ap, ◌∙◌}
use Rattle.slots.specs.declared.Header.{Header}
use Rattle.llrb.specs.Tree.{get}
use Rattle.search.specs.Search.{Stored}
use Rattle.search.proofs.Finding.{root_in, found_in, placed, get-each, get-answer}
use Rattle.search.proofs.get_place.Goals as goal

pub get-requires : goal.get-requires
get-requires c =
    root_in c.requires.sound (ap (λ (h : Header). h.root) c.header_of-root.ensures)

pub place_of-requires : goal.place_of-requires
place_of-requires c =
    found_in c.requires.sound (ap (λ (h : Header). h.root) c.header_of-root.ensures) (get c.args.key.now) (get-each (Stored _) _) c.get.ensures

pub returns : goal.returns
returns c =
    placed c.requires.sound (ap (λ (h : Header). h.root) c.header_of-root.ensures) (get c.args.key.now) (get-each (Stored _) _) c.get.ensures c.place_of.ensures ∙ get-answer c.requires.sound.1 _ c.requires.key_bound
