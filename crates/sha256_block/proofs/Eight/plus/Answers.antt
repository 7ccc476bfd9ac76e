use Rattle.sha256_block.specs.Rounds.{plus}
use Rattle.sha256_words.specs.Words.{ADD}
use Rattle.sha256_block.proofs.Eight.plus.Goals as goal

pub returns : goal.returns
unfolding ADD plus
returns c = cc
