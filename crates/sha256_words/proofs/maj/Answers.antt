use mathlib.Core.Path.{refl}
use Rattle.sha256_words.specs.Words.{AND, XOR, Maj}
use Rattle.sha256_words.proofs.maj.Goals as goal

pub returns : goal.returns
unfolding AND XOR Maj
returns c = refl
