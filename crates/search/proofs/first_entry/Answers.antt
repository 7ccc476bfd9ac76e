use Rattle.std.proofs.Common.{rules}
use Rattle.search.proofs.Searches.{first_all}
use Rattle.search.proofs.first_entry.Goals as goal

pub returns : goal.returns
returns c t a = first_all (record { tells = λ i b w q p. search rules }) t a (c.descend.ensures t a)
