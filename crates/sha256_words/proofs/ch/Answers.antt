use mathlib.Core.Path.{refl}
use Rattle.sha256_words.specs.Words.{AND, XOR, NOT, Ch}
use Rattle.sha256_words.proofs.ch.Goals as goal

pub returns : goal.returns
unfolding AND XOR NOT Ch
returns c = refl
