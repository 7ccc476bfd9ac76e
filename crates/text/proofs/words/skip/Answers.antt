use Rattle.std.proofs.Common.{◌≡◌, ◌≢◌, ◌+◌, ap, sym, ◌∙◌, rules}
use Rattle.std.proofs.lemmas.Iterator.{YieldsList-from_slice, IsFirst-from_position}
use borrow.Author.Tests.{tests}
use Rattle.text.specs.Words.{zeros_before}
use Rattle.text.proofs.Lines.{from_on, zeros_found}
use Rattle.text.proofs.words.skip.Goals as goal

pub returns-clause-value : goal.returns-clause-value
returns-clause-value c =
    ap (λ r. c.args.from + r) (c.unwrap_or.ensures ∙ sym (zeros_found _ _ (IsFirst-from_position _ _ _ (λ x. x ≢ 0) (λ x. x ≡ 0) c.position.ensures.ran (YieldsList-from_slice _ c.iter.ensures.rest) (λ x q k. search (rules, tests)) (λ x q k. search (rules, tests))))
    ∙ ap zeros_before (from_on c.args.s.now c.args.from))
