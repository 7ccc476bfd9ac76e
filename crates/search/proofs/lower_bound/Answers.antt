use Rattle.std.proofs.Common.{rules}
use Rattle.search.proofs.Searches.{low_all}
use Rattle.search.proofs.lower_bound.Goals as goal

pub returns : goal.returns
returns c t a = low_all _ (record { tells = λ i b w q p. search rules }) t a (c.descend.ensures t a)
