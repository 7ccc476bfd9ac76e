use Rattle.sha256.specs.State.{end_blocks}
use Rattle.sha256.proofs.Rows.{fill}
use Rattle.std.proofs.Common.{ℕ, ◌*◌, [], take, replicate, sym, refl, ap, ◌∙◌, arith, rules}
use Rattle.sha256.proofs.tail.Goals as goal

pub returns : goal.returns
returns c =
    let rest = c.args.rest.now in
    let row = c.copy.ensures ∙ fill (replicate 128 0) [] rest 0 refl refl in
    (search rules, ap (λ (k : ℕ). take (64 * end_blocks k) c.sealed.result) (sym c.requires) ∙ c.sealed.ensures rest refl (omega (arith, c.requires)) row)
