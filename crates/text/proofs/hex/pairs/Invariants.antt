use Rattle.std.specs.Slice.Iter.{chunks_rest, chunks_size}
use Rattle.std.proofs.Common.{◌≡◌}
use Rattle.text.proofs.Pairs.{Upto}
use Rattle.text.proofs.hex.pairs.Given as goal

abbrev pub invariant-loop-pair : goal.invariant-loop-pair
invariant-loop-pair l = record { pairs : chunks_size l.pair-iterator ≡ 2; so_far : Upto l.word l.few (chunks_rest l.pair-iterator) }
