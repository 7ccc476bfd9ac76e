use Rattle.sha256.specs.Hash.{digest}
use Rattle.sha256_words.specs.Words.{bytes_of}
use Rattle.sha256.proofs.bytes.Goals as goal

pub returns : goal.returns
unfolding bytes_of digest
returns c = rw (c.put_word-8.ensures, c.put_word-7.ensures, c.put_word-6.ensures, c.put_word-5.ensures, c.put_word-4.ensures, c.put_word-3.ensures, c.put_word-2.ensures, c.put_word.ensures)
