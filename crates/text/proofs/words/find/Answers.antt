use Rattle.std.proofs.Common.{◌≡◌, ◌≢◌, ◌+◌, ap, sym, ◌∙◌, rules}
use Rattle.std.proofs.lemmas.Iterator.{YieldsList-from_slice, IsFirst-from_position}
use borrow.Author.Tests.{tests}
use Rattle.text.specs.Words.{index_of}
use Rattle.text.proofs.Lines.{from_on, index_found}
use Rattle.text.proofs.words.find.Goals as goal

pub returns-clause-value : goal.returns-clause-value
returns-clause-value c =
    ap (λ r. c.args.from + r) (c.unwrap_or.ensures ∙ sym (index_found c.args.b _ _ (IsFirst-from_position _ _ _ (λ x. x ≡ c.args.b) (λ x. x ≢ c.args.b) c.position.ensures.ran (YieldsList-from_slice _ c.iter.ensures.rest) (λ x q k. search (rules, tests)) (λ x q k. search (rules, tests))))
    ∙ ap (index_of c.args.b) (from_on c.args.s.now c.args.from))
