use Rattle.std.proofs.Common.{arith}
use Rattle.replay.proofs.Reading.{fits}
use Rattle.regmap_log.proofs.EntriesIterator.next.Goals as goal

pub overflow_add-end : goal.overflow_add-end
overflow_add-end c = let s = c.args.self.now in omega (arith, fits s.log.now s.at (omega arith) c.in-Ok.ensures)

pub slice_bounds-result-end : goal.slice_bounds-result-end
slice_bounds-result-end c = let s = c.args.self.now in omega (arith, fits s.log.now s.at (omega arith) c.in-Ok.ensures)

pub slice_bounds-result-end-in-Ok : goal.slice_bounds-result-end-in-Ok
slice_bounds-result-end-in-Ok c = let s = c.args.self.now in omega (arith, fits s.log.now s.at (omega arith) c.in-Ok.ensures)
