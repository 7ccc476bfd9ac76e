use Rattle.std.proofs.Common.{rules}
use Rattle.search.proofs.Searches.{past_all}
use Rattle.search.proofs.right_prefix_neighbor.Goals as goal

pub returns : goal.returns
returns c t a = past_all _ (record { tells = λ i b w q p. search rules }) t a (c.descend.ensures t a)
