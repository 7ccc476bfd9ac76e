use Rattle.std.proofs.Common.{arith, refl, rules, sym, ◌∙◌}
use Rattle.witness_reader.proofs.Fitting.{fits, whole, ends}
use Rattle.witness_reader.proofs.RecordsIterator.next.Goals as goal

pub overflow_add-from : goal.overflow_add-from
overflow_add-from c = let s = c.args.self.now in omega (arith, fits s.src.now s.at _ _ c.in_ok-kind.ensures)

pub overflow_add-result : goal.overflow_add-result
overflow_add-result c = let s = c.args.self.now in omega (arith, fits s.src.now s.at _ _ c.in_ok-kind.ensures)

pub slice_bounds-result-end : goal.slice_bounds-result-end
slice_bounds-result-end c = let s = c.args.self.now in omega (arith, fits s.src.now s.at _ _ c.in_ok-kind.ensures)

pub returns-clause-steps : goal.returns-clause-steps
returns-clause-steps c = let s = c.args.self.now in (
  refl,
  record {
    at = refl;
    whole = whole s.src.now s.at _ _ c.in_ok-kind.ensures;
    bytes = rw (c.place_after-end.ensures ∙ sym (ends s.src.now s.at _ _ c.in_ok-kind.ensures)) refl;
    labeled = refl;
    end = c.place_after-end.ensures;
    after = refl;
    under = search rules;
  },
)

pub returns-clause-goes : goal.returns-clause-goes
returns-clause-goes c = let s = c.args.self.now in
    record { on = λ f. (tt, tt, omega (arith, fits s.src.now s.at _ _ c.in_ok-kind.ensures, ends s.src.now s.at _ _ c.in_ok-kind.ensures, c.place_after-end.ensures)); keeps = tt; rests = λ f. tt }
