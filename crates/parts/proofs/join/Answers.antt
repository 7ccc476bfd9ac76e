use Rattle.parts.proofs.Climbing.{join-under, join-right}
use mathlib.Core.Path.{sym, ◌∙◌}
use native.Mathlib.Omega.{arith}
use Rattle.parts.proofs.join.Goals as goal

pub returns-then-tag-lt49 : goal.returns-then-tag-lt49
returns-then-tag-lt49 c =
    c.labeled_hash.ensures ∙ sym (join-under c.args.s.now c.args.i _ _ c.args.d.now c.level_at-at.ensures c.wide-tag.ensures.0 (omega arith))

pub returns : goal.returns
returns c =
    c.fork_hash.ensures ∙ sym (join-right c.args.s.now c.args.i _ _ c.args.d.now c.level_at-at.ensures c.wide-tag.ensures.0 (omega arith))
