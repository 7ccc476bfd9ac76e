use borrow.Author.Rules.{rules}
use mathlib.Core.Path.{◌≡◌, sym, ◌∙◌}
use native.Mathlib.Omega.{arith}
use Rattle.std.specs.Prelude.{Some, None, Err}
use Rattle.answers.specs.declared.Refusal.TheVariants.{Unlike, NoRoom}
use Rattle.hash_tree.specs.Written.{max_depth}
use Rattle.hash_tree.specs.Parse.{parse}
use Rattle.merge.specs.Answer.{merge_answer}
use Rattle.merge.proofs.Answering.{first-bad, second-bad, unlike-answer, short-answer, can_write, merged-answer}
use Rattle.merge.proofs.merge.Goals as goal
use Rattle.merge.proofs.merge.Goals.{then-not-is_whole-via-then-not-is_whole, then-not-is_whole-via-else-not-is_whole+then-not-is_whole-2}

pub returns-then-not-is_whole : goal.returns-then-not-is_whole
unfolding merge_answer
returns-then-not-is_whole c =
    elim c.then-not-is_whole.branch [
      | then-not-is_whole-via-then-not-is_whole w ↦ first-bad c.args.out.now _ (parse max_depth c.args.one.now) (parse max_depth c.args.other.now) c.is_whole.ensures w.if-not-is_whole.true
      | then-not-is_whole-via-else-not-is_whole+then-not-is_whole-2 w ↦ second-bad c.args.out.now _ (parse max_depth c.args.one.now) (parse max_depth c.args.other.now) w.is_whole-else-not-is_whole.ensures w.if-not-is_whole-2.true
    ]

pub returns-in_err-met : goal.returns-in_err-met
unfolding merge_answer
returns-in_err-met c =
    let e : c.from_residual.result ≡ Err Unlike = search rules in
    let n : c.agree.result ≡ None = search rules in
    rw e (unlike-answer c.args.out.now _ _ (parse max_depth c.args.one.now) (parse max_depth c.args.other.now) c.is_whole.ensures c.if-not-is_whole.false c.is_whole-else-not-is_whole.ensures c.if-not-is_whole-2.false (sym n ∙ c.agree.ensures))

pub returns-in_err-ok_or : goal.returns-in_err-ok_or
unfolding merge_answer
returns-in_err-ok_or c =
    let e : c.from_residual-in_err-ok_or.result ≡ Err NoRoom = search rules in
    let m : c.agree.result ≡ Some c.in_ok-met.met = search rules in
    let r : c.in_ok-met.met.room ≡ None = search rules in
    rw e (short-answer c.args.out.now _ _ c.in_ok-met.met (parse max_depth c.args.one.now) (parse max_depth c.args.other.now) c.is_whole.ensures c.if-not-is_whole.false c.is_whole-else-not-is_whole.ensures c.if-not-is_whole-2.false (sym m ∙ c.agree.ensures) r)

pub write_merged-requires : goal.write_merged-requires
write_merged-requires c =
    let m : c.agree.result ≡ Some c.in_ok-met.met = search rules in
    let r : c.in_ok-met.met.room ≡ Some c.in_ok-ok_or.field-0 = search rules in
    (can_write c.args.out.now c.is_whole.result c.is_whole-else-not-is_whole.result c.in_ok-met.met _ (parse max_depth c.args.one.now) (parse max_depth c.args.other.now) (sym m ∙ c.agree.ensures) r, omega arith)

pub returns : goal.returns
unfolding merge_answer
returns c =
    let m : c.agree.result ≡ Some c.in_ok-met.met = search rules in
    let r : c.in_ok-met.met.room ≡ Some c.in_ok-ok_or.field-0 = search rules in
    merged-answer c.args.out.now _ _ c.in_ok-met.met _ _ _ (parse max_depth c.args.one.now) (parse max_depth c.args.other.now) c.is_whole.ensures c.if-not-is_whole.false c.is_whole-else-not-is_whole.ensures c.if-not-is_whole-2.false (sym m ∙ c.agree.ensures) r c.write_merged.ensures
