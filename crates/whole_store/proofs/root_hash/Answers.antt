use mathlib.Core.Path.{◌≡◌, ap, ◌∙◌}
use native.Mathlib.Omega.{arith}
use lib.ListN.{length}
use Rattle.std.proofs.lemmas.Grind.{common_steps}
use Rattle.whole_store.proofs.Answering.{root_none, root-some, root-there, root-length}
use Rattle.whole_store.proofs.root_hash.Goals as goal

pub returns-then-root-eq0 : goal.returns-then-root-eq0
returns-then-root-eq0 c =
    root_none c.args.s.now c.requires c.header_of-root.ensures c.if-root-eq0.true c.empty_hash.ensures

pub digest-requires : goal.digest-requires
digest-requires c =
    root-there c.args.s.now c.requires c.header_of-root.ensures c.if-root-eq0.false

pub unwrap-requires : goal.unwrap-requires
unwrap-requires c =
    let e : length c.digest.result.now ≡ 32 = ap length c.digest.ensures ∙ root-length c.args.s.now c.requires c.header_of-root.ensures c.if-root-eq0.false in
    grind (arith, common_steps, e)

pub returns-else-root-eq0 : goal.returns-else-root-eq0
returns-else-root-eq0 c =
    let e : length c.digest.result.now ≡ 32 = ap length c.digest.ensures ∙ root-length c.args.s.now c.requires c.header_of-root.ensures c.if-root-eq0.false in
    let d : c.unwrap.result ≡ c.digest.result.now = grind (arith, common_steps, e) in
    root-some c.args.s.now c.requires c.header_of-root.ensures c.if-root-eq0.false (d ∙ c.digest.ensures)
