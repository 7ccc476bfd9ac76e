use mathlib.Core.Path.{ap, ◌∙◌}
use Rattle.answers.specs.Answers.{changed_of}
use Rattle.whole_store.proofs.Answering.{none-asked, many-asked, other_length, created}
use Rattle.whole_store.proofs.create.Goals as goal
use Rattle.whole_store.proofs.create.Goals.{then-capacity-eq0-via-then-capacity-eq0, then-capacity-eq0-via-else-capacity-eq0+then-capacity}

pub returns-then-capacity-eq0 : goal.returns-then-capacity-eq0
returns-then-capacity-eq0 c =
    elim c.then-capacity-eq0.branch [
      | then-capacity-eq0-via-then-capacity-eq0 w ↦ none-asked c.args.capacity c.args.s.now w.if-capacity-eq0.true
      | then-capacity-eq0-via-else-capacity-eq0+then-capacity w ↦ many-asked c.args.capacity c.args.s.now w.if-capacity.true
    ]

pub returns-then-s-store_length : goal.returns-then-s-store_length
returns-then-s-store_length c =
    other_length c.args.capacity c.args.s.now (rw c.store_length.ensures at c.if-s-store_length.true)

pub returns : goal.returns
returns c =
    ap (changed_of 0) c.lay.ensures
    ∙ created c.args.capacity c.args.s.now c.if-capacity-eq0.false c.if-capacity.false (c.if-s-store_length.false ∙ c.store_length.ensures)
