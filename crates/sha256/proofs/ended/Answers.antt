use Rattle.sha256.specs.Hash.{digest}
use Rattle.sha256.proofs.Blocks.{some-blocks}
use Rattle.std.proofs.Common.{ap, ◌∙◌, arith}
use Rattle.sha256.proofs.ended.Goals as goal

pub returns : goal.returns
returns c =
    let last = c.args.last.now in
    let cut = c.as_chunks.ensures in
    c.bytes.ensures
    ∙ ap digest (some-blocks c.args.value c.absorb.result _ _ last _ (omega (arith, c.requires, c.told-last)) cut.front_len cut.front (c.absorb.ensures last))
