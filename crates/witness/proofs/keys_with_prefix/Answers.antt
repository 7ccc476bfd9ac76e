use Rattle.witness.proofs.Saving.{low-in, past-in, can-range, prefix-answer}
use Rattle.witness.proofs.keys_with_prefix.Goals as goal

pub range_witness-requires : goal.range_witness-requires
range_witness-requires c =
    let p = c.requires.sound in
    let e = c.root_of-root.ensures.is in
    can-range p e _ _ (low-in p e c.args.prefix.now c.lower_bound-lo.ensures) (past-in p e c.args.prefix.now c.right_prefix_neighbor-hi.ensures)

pub returns : goal.returns
returns c =
    prefix-answer c.requires.sound c.root_of-root.ensures.is c.args.out.now _ _ c.args.prefix.now c.lower_bound-lo.ensures c.right_prefix_neighbor-hi.ensures c.requires.prefix_bound c.range_witness.ensures
