use Rattle.sha256.specs.Hash.{hash_value}
use Rattle.std.proofs.Common.{refl}
use Rattle.sha256.proofs.Sha256.new.Goals as goal

pub returns : goal.returns
unfolding hash_value
returns c = record { blocks = c.start.ensures; rest = refl; count = refl }
