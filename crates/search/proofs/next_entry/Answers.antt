use Rattle.std.proofs.Common.{rules}
use Rattle.search.proofs.Searches.{next_all}
use Rattle.search.proofs.next_entry.Goals as goal

pub returns : goal.returns
returns c t a = next_all _ (record { tells = λ i b w q p. search rules }) t a (c.descend.ensures t a)
