use Rattle.sha256.specs.Hash.{hash_value}
use Rattle.std.proofs.Common.{◌≡◌, ℕ, List, length}
use Rattle.std.specs.Simd.{first_chunks}
use Rattle.sha256.proofs.absorb.Given as goal

abbrev pub invariant-loop-block : goal.invariant-loop-block
invariant-loop-block l =
    (p : List ℕ) → l.blocks ≡ first_chunks 64 (length l.blocks) p → l.s ≡ hash_value l.initial.s l.block-index p
