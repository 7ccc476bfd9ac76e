use Rattle.sha256_words.specs.Words.{XOR, OR, SHL, SHR, ROTR, Σ₀}
use Rattle.sha256_words.proofs.big_sigma0.Goals as goal

pub returns : goal.returns
unfolding XOR OR SHL SHR ROTR Σ₀
returns c = rw (c.rotate_right.ensures, c.rotate_right-2.ensures, c.rotate_right-3.ensures)
