use Rattle.sha256_words.specs.Words.{XOR, OR, SHL, SHR, ROTR, σ₁}
use Rattle.sha256_words.proofs.small_sigma1.Goals as goal

pub returns : goal.returns
unfolding XOR OR SHL SHR ROTR σ₁
returns c = rw (c.rotate_right.ensures, c.rotate_right-2.ensures)
