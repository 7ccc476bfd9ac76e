use Rattle.std.proofs.Common.{rules}
use Rattle.search.proofs.Searches.{get_all}
use Rattle.search.proofs.get.Goals as goal

pub returns : goal.returns
returns c t a = get_all _ (record { tells = λ i b w q p. search rules }) t a (c.descend.ensures t a)
