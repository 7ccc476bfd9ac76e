use Rattle.std.proofs.Common.{◌∙◌, rules}
use Rattle.std.proofs.lemmas.Iterator.{YieldsList-from_slice}
use Rattle.std.proofs.lemmas.Iterator.Search.{all_from_yields_List}
use borrow.Author.Tests.{tests}
use Rattle.text.specs.Hex.{between}
use Rattle.text.proofs.Names.{each-printable}
use Rattle.text.proofs.print.all_printable.Goals as goal

pub returns : goal.returns
returns c =
    all_from_yields_List (between 33 126) _ _ _ c.all.ensures.ran (YieldsList-from_slice _ c.iter.ensures.rest) (λ x b q k. search (rules, tests)) ∙ each-printable c.args.s.now
