use mathlib.Core.Path.{sym, ◌∙◌}
use native.Mathlib.Omega.{arith}
use Rattle.cbor.proofs.Reading.{record-within, record-lies}
use Rattle.cbor.proofs.item_at.Goals as goal

pub overflow_add-result : goal.overflow_add-result
overflow_add-result c =
    omega (arith, record-within c.args.s.now c.args.at _ _ (sym c.record_at.ensures ∙ c.in_ok-r-in-Writing.was))

pub returns-in_ok-r-in-Writing : goal.returns-in_ok-r-in-Writing
returns-in_ok-r-in-Writing c =
    rw c.in-Writing.is (record-lies c.args.s.now c.args.at _ _ (sym c.record_at.ensures ∙ c.in_ok-r-in-Writing.was))
