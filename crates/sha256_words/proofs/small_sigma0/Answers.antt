use Rattle.sha256_words.specs.Words.{XOR, OR, SHL, SHR, ROTR, σ₀}
use Rattle.sha256_words.proofs.small_sigma0.Goals as goal

pub returns : goal.returns
unfolding XOR OR SHL SHR ROTR σ₀
returns c = rw (c.rotate_right.ensures, c.rotate_right-2.ensures)
