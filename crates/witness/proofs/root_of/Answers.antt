use mathlib.Core.Path.{ap}
use Rattle.slots.specs.declared.Header.{Header}
use Rattle.search.proofs.Finding.{root_in}
use Rattle.witness.proofs.root_of.Goals as goal

pub returns-clause-tree : goal.returns-clause-tree
returns-clause-tree c =
    root_in c.requires (ap (λ (h : Header). h.root) c.header_of.ensures)
