use Rattle.sha256_block.specs.Rounds.{block_words}
use Rattle.std.proofs.Common.{◌≡◌, length, take}
use Rattle.sha256_block.proofs.words.Given as goal

abbrev pub invariant-loop-t : goal.invariant-loop-t
invariant-loop-t l = (length l.w ≡ 16) × (take l.t l.w ≡ block_words l.t l.block)
