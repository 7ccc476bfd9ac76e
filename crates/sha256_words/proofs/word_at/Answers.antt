use native.Mathlib.Omega.{arith}
use Rattle.sha256_words.specs.Words.{word_at}
use Rattle.sha256_words.proofs.word_at.Goals as goal

pub returns : goal.returns
unfolding word_at
returns c = omega (arith, c.from_be_bytes.ensures)
