use Rattle.std.proofs.Common.{◌≡◌, true, false, rules, arith}
use Rattle.std.proofs.lemmas.Iterator.{first_from_Range}
use borrow.Author.Tests.{tests}
use Rattle.text.specs.Words.{same_bytes, word_of}
use Rattle.text.proofs.Lines.{index_first}
use Rattle.text.proofs.words.index.Goals as goal

pub returns-clause-value : goal.returns-clause-value
returns-clause-value c =
    index_first c.args.table.now c.args.name.now 0 c.args.count c.args.count (omega arith) _ (first_from_Range _ _ _ _ (λ i. same_bytes (word_of c.args.table.now i) c.args.name.now ≡ true) (λ i. same_bytes (word_of c.args.table.now i) c.args.name.now ≡ false) c.find.ensures.ran (λ x q k. search (rules, tests)) (λ x q k. search (rules, tests)))
