use native.Mathlib.Omega.{arith}
use Rattle.runs.proofs.Testing.{decides-no, decides-yes}
use Rattle.judge.proofs.Chaining.{along-next, no_more, is_free}
use Rattle.judge.proofs.Store.chain_ok.Goals as goal
use Rattle.judge.proofs.Store.chain_ok.Goals.{then-more-eq0-via-then-more-eq0, then-more-eq0-via-else-more-eq0+then-self-at, then-more-eq0-via-else-more-eq0+else-self-at+then-not-is_free}

pub returns-then-more-eq0 : goal.returns-then-more-eq0
returns-then-more-eq0 c h =
    let here = c.loop-at.invariant.on h in
    elim c.then-more-eq0.branch [
      | then-more-eq0-via-then-more-eq0 w ↦ no_more c.loop-at-test.true w.if-more-eq0.true here
      | then-more-eq0-via-else-more-eq0+then-self-at w ↦ omega (arith, w.if-self-at.true, (is_free c.loop-at-test.true here).high)
      | then-more-eq0-via-else-more-eq0+else-self-at+then-not-is_free w ↦ decides-no w.is_free.result w.if-not-is_free.true w.is_free.ensures (is_free c.loop-at-test.true here).free
    ]

pub loop-at-preserved : goal.loop-at-preserved
loop-at-preserved c =
    along-next c.loop-at.invariant c.loop-at-test.true c.if-more-eq0.false (record { high = c.if-self-at.false; free = decides-yes c.is_free.result c.if-not-is_free.false c.is_free.ensures }) c.left-at.ensures
