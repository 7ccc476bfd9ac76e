use Rattle.sha256_words.specs.Words.{XOR, OR, SHL, SHR, ROTR, Σ₁}
use Rattle.sha256_words.proofs.big_sigma1.Goals as goal

pub returns : goal.returns
unfolding XOR OR SHL SHR ROTR Σ₁
returns c = rw (c.rotate_right.ensures, c.rotate_right-2.ensures, c.rotate_right-3.ensures)
