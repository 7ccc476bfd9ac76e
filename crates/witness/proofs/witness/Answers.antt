use mathlib.Core.Path.{sym, ◌∙◌}
use Rattle.witness.proofs.Saving.{at-hand, low-in, high-in, can-range, can-lookup, absent-answer, present-answer}
use Rattle.witness.proofs.witness.Goals as goal

pub save-requires : goal.save-requires
save-requires c =
    let p = c.requires.sound in
    let e = c.root_of-root.ensures.is in
    can-lookup p e c.args.key.now c.in-Some.i (sym (c.get.ensures p.0.tree (at-hand p e).lies) ∙ c.in-Some.is)

pub range_witness-requires : goal.range_witness-requires
range_witness-requires c =
    let p = c.requires.sound in
    let e = c.root_of-root.ensures.is in
    can-range p e _ _ (low-in p e c.args.key.now c.lower_bound-lo.ensures) (high-in p e c.args.key.now c.upper_bound-hi.ensures)

pub returns-in-Some : goal.returns-in-Some
returns-in-Some c =
    let p = c.requires.sound in
    let e = c.root_of-root.ensures.is in
    present-answer p e c.args.out.now _ _ c.args.key.now c.in-Some.i (sym (c.get.ensures p.0.tree (at-hand p e).lies) ∙ c.in-Some.is) c.requires.key_bound c.save.ensures

pub returns-in-None : goal.returns-in-None
returns-in-None c =
    let p = c.requires.sound in
    let e = c.root_of-root.ensures.is in
    absent-answer p e c.args.out.now _ _ c.args.key.now (sym (c.get.ensures p.0.tree (at-hand p e).lies) ∙ c.in-None.is) c.lower_bound-lo.ensures c.upper_bound-hi.ensures c.requires.key_bound c.range_witness.ensures
