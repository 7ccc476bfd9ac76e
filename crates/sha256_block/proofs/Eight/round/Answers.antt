use Rattle.sha256_words.specs.Words.{ADD}
use Rattle.sha256_block.specs.Rounds.{T₁, T₂, Round}
use Rattle.sha256_block.proofs.Eight.round.Goals as goal

pub returns : goal.returns
unfolding ADD T₁ T₂ Round
returns c = cc
