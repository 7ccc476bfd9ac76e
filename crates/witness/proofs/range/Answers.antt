use Rattle.witness.proofs.Saving.{low-in, high-in, can-range, range-answer, range-crossed}
use Rattle.witness.proofs.range.Goals as goal

pub crossed-requires-clause-left_bound : goal.crossed-requires-clause-left_bound
crossed-requires-clause-left_bound c =
    low-in c.requires.sound c.root_of-root.ensures.is c.args.first.now c.lower_bound-lo.ensures

pub crossed-requires-clause-right_bound : goal.crossed-requires-clause-right_bound
crossed-requires-clause-right_bound c =
    high-in c.requires.sound c.root_of-root.ensures.is c.args.last.now c.upper_bound-hi.ensures

pub returns-then-crossed : goal.returns-then-crossed
returns-then-crossed c =
    λ w f. range-crossed c.requires.sound c.root_of-root.ensures.is c.args.first.now c.args.last.now c.lower_bound-lo.ensures c.upper_bound-hi.ensures c.requires.key_bounds.0 c.requires.key_bounds.1 c.crossed.ensures w c.args.out.now c.if-crossed.true

pub range_witness-requires : goal.range_witness-requires
range_witness-requires c =
    let p = c.requires.sound in
    let e = c.root_of-root.ensures.is in
    can-range p e _ _ (low-in p e c.args.first.now c.lower_bound-lo.ensures) (high-in p e c.args.last.now c.upper_bound-hi.ensures)

pub returns : goal.returns
returns c =
    λ w f. range-answer c.requires.sound c.root_of-root.ensures.is c.args.first.now c.args.last.now c.lower_bound-lo.ensures c.upper_bound-hi.ensures c.requires.key_bounds.0 c.requires.key_bounds.1 c.crossed.ensures w c.args.out.now _ _ c.if-crossed.false (rw f at c.range_witness.ensures)
