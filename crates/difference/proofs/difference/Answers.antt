use Rattle.std.proofs.Common.{◌≤◌, length, arith}
use Rattle.std.proofs.lemmas.Grind.{common_steps}
use Rattle.store.specs.Difference.{lines_bytes}
use Rattle.difference.specs.Walking.{all_lines}
use Rattle.difference.proofs.Saving.{short-answer, empty-answer, put-answer}
use Rattle.difference.proofs.difference.Goals as goal
use Rattle.difference.proofs.difference.Goals.{then-not-is_ample+in_ok-left+else-left-out, else-not-is_ample}

pub returns-in_err-left : goal.returns-in_err-left
returns-in_err-left c =
    let n = rw (rw c.in_err-left.was at c.ok_or.ensures.ok_part) at c.fit.ensures in
    let e = short-answer c.requires.0 c.requires.1 c.args.out.now n in
    grind (arith, common_steps, e)

pub returns-then-left-out : goal.returns-then-left-out
returns-then-left-out c =
    let h = rw (rw c.in_ok-left.was at c.ok_or.ensures.ok_part) at c.fit.ensures in
    empty-answer c.requires.0 c.requires.1 c.args.out.now (omega arith)

pub returns : goal.returns
returns c =
    let h : length (lines_bytes (all_lines c.args.old.now c.args.new.now)) ≤ length c.args.out.now =
    elim c.if-not-is_ample.branch [
      | then-not-is_ample+in_ok-left+else-left-out w ↦ (rw (rw w.in_ok-left.was at w.ok_or.ensures.ok_part) at w.fit.ensures).0
      | else-not-is_ample w ↦ c.is_ample.ensures w.if-not-is_ample.false
    ] in
    put-answer c.requires.0 c.requires.1 c.args.out.now h c.put_lines.ensures
