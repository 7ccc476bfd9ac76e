use Rattle.std.proofs.Common.{[]}
use Rattle.text.proofs.Fews.{few-short, pairs-short}
use Rattle.text.proofs.hex.value.Goals as goal

pub returns-then-is-clause-len_bound : goal.returns-then-is-clause-len_bound
returns-then-is-clause-len_bound c = few-short [] _ c.none.ensures

pub returns-clause-len_bound : goal.returns-clause-len_bound
returns-clause-len_bound c = pairs-short _ _ c.pairs.ensures
