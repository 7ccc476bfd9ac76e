use mathlib.Core.Path.{refl}
use native.Mathlib.Omega.{arith}
use Rattle.runs.proofs.Testing.{decides-no, decides-yes}
use Rattle.judge.proofs.Judging.{header-says, walk_none, left_over, chain-says}
use Rattle.judge.proofs.Deciding.{decides_eqb}
use Rattle.judge.proofs.judge_in.Goals as goal

pub returns-then-not-header_ok : goal.returns-then-not-header_ok
returns-then-not-header_ok c =
    λ x. decides-no c.header_ok.result c.if-not-header_ok.true c.header_ok.ensures (header-says c.args.s.now c.header_of-h.ensures x)

pub invariant_of-store : goal.invariant_of-store
invariant_of-store c =
    record { sized = (decides-yes c.header_ok.result c.if-not-header_ok.false c.header_ok.ensures).sized }

pub walk-requires : goal.walk-requires
walk-requires c =
    record { depth_bound = omega arith; met = record { within = omega arith; short = λ n. absurd (n refl) } }

pub returns-in_default : goal.returns-in_default
returns-in_default c =
    walk_none c.args.s.now c.header_of-h.ensures c.in_default.ensures

pub returns-else-trail-eq0 : goal.returns-else-trail-eq0
returns-else-trail-eq0 c =
    decides_eqb _ 0 (λ e. absurd (c.if-trail-eq0.false e)) (λ h. absurd (left_over c.args.s.now c.header_of-h.ensures c.in-Some.ensures c.if-trail-eq0.false h))

pub returns-then-trail-eq0 : goal.returns-then-trail-eq0
returns-then-trail-eq0 c =
    let k = decides-yes c.header_ok.result c.if-not-header_ok.false c.header_ok.ensures in
    chain-says c.args.s.now c.header_of-h.ensures c.in-Some.ensures k c.if-trail-eq0.true c.chain_ok.result c.chain_ok.ensures
