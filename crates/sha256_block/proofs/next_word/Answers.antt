use Rattle.sha256_words.specs.Words.{ADD}
use Rattle.sha256_block.proofs.next_word.Goals as goal

pub returns : goal.returns
unfolding ADD
returns c = cc
