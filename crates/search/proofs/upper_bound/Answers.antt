use Rattle.std.proofs.Common.{rules}
use Rattle.search.proofs.Searches.{high_all}
use Rattle.search.proofs.upper_bound.Goals as goal

pub returns : goal.returns
returns c t a = high_all _ (record { tells = λ i b w q p. search rules }) t a (c.descend.ensures t a)
