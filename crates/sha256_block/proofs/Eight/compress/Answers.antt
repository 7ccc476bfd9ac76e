use Rattle.sha256_block.specs.Rounds.{Compress}
use Rattle.sha256_block.proofs.Eight.compress.Goals as goal

pub returns : goal.returns
unfolding Compress
returns c = cc
