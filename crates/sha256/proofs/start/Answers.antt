use Rattle.sha256_words.specs.Constants.{H⁰}
use Rattle.sha256.specs.Hash.{initial}
use Rattle.std.proofs.Common.{rules}
use Rattle.sha256.proofs.start.Goals as goal

pub returns : goal.returns
unfolding initial H⁰
returns c = search rules
