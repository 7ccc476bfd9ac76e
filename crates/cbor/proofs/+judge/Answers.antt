use mathlib.Core.Path.{refl, ap, ◌∙◌}
use native.Mathlib.Omega.{arith}
use lib.ListN.{length, drop}
use Rattle.hash_tree.specs.Record.{kind_number}
use Rattle.hash_tree.specs.Form.{parse_by}
use Rattle.hash_tree.proofs.RecordLaws.{is_fork, is_labeled}
use Rattle.cbor.specs.Walks.{source, target, room_of}
use Rattle.cbor.proofs.Judging.{met-bad, parse-none, parse-shut, lies-most, judged-fork-bad, judged-fork, judged-labeled, judged-single}
use Rattle.cbor.proofs.+judge.Goals as goal

pub returns-in_err-item : goal.returns-in_err-item
returns-in_err-item t c =
    c.from_residual.ensures ∙ (met-bad (length c.args.s.now) (target c.args.way) (room_of c.loop-below.left) (parse_by (source c.args.way) c.loop-below.below (drop c.loop-below.at c.args.s.now)) (parse-shut (source c.args.way) c.loop-below.below _ c.in_err-item.ensures)) ∙ c.loop-below.invariant

pub put_len-requires : goal.put_len-requires
put_len-requires t c =
    lies-most c.args.s.now (kind_number c.in_ok-item.item.kind) c.in_ok-item.item.start c.in_ok-item.item.len _ c.in_ok-item.ensures

pub returns-in_err-l-in-Fork : goal.returns-in_err-l-in-Fork
returns-in_err-l-in-Fork t c =
    c.from_residual-in_err-l-in-Fork.ensures ∙ (judged-fork-bad c.args.way c.args.s.now c.loop-below.at c.loop-below.below (kind_number c.in_ok-item.item.kind) c.in_ok-item.item.start c.in_ok-item.item.len c.put_len.result (room_of c.loop-below.left) (λ e. omega arith) c.in_ok-item.ensures c.put_len.ensures (ap kind_number c.in-Fork.is) c.less-left.result c.in_err-l-in-Fork.ensures) ∙ c.loop-below.invariant

pub loop-below-preserved-in-Fork : goal.loop-below-preserved-in-Fork
loop-below-preserved-in-Fork t c =
    judged-fork c.args.way c.args.s.now c.loop-below.at c.loop-below.below (kind_number c.in_ok-item.item.kind) c.in_ok-item.item.start c.in_ok-item.item.len c.put_len.result (room_of c.loop-below.left) (λ e. omega arith) c.in_ok-item.ensures c.put_len.ensures (ap kind_number c.in-Fork.is) (λ i. omega (arith, c.type_inv.s i)) c.less-left.result c.in_ok-l-in-Fork.l _ c.less-left.ensures c.in_ok-l-in-Fork.ensures refl ∙ c.loop-below.invariant

pub loop-below-preserved : goal.loop-below-preserved
loop-below-preserved t c =
    judged-labeled c.args.way c.args.s.now c.loop-below.at c.loop-below.below (kind_number c.in_ok-item.item.kind) c.in_ok-item.item.start c.in_ok-item.item.len c.put_len.result (room_of c.loop-below.left) (λ e. omega arith) c.in_ok-item.ensures c.put_len.ensures (ap kind_number c.in-Labeled.is) _ _ c.less-left.ensures refl ∙ c.loop-below.invariant

pub returns-in_default : goal.returns-in_default
returns-in_default t c =
    judged-single c.args.way c.args.s.now c.loop-below.at c.loop-below.below (kind_number c.in_ok-item.item.kind) c.in_ok-item.item.start c.in_ok-item.item.len c.put_len.result (room_of c.loop-below.left) (λ e. omega arith) c.in_ok-item.ensures c.put_len.ensures (λ e. c.in_default.not-Fork (is_fork _ e)) (λ e. c.in_default.not-Labeled (is_labeled _ e)) _ c.less-left.ensures ∙ c.loop-below.invariant

pub returns : goal.returns
returns t c =
    (met-bad (length c.args.s.now) (target c.args.way) (room_of c.loop-below.left) (parse_by (source c.args.way) c.loop-below.below (drop c.loop-below.at c.args.s.now)) (parse-none (source c.args.way) c.loop-below.below _ (omega arith))) ∙ c.loop-below.invariant
