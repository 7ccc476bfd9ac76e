use Rattle.text.proofs.Lines.{word_cut}
use Rattle.text.proofs.words.word.Goals as goal

pub returns : goal.returns
returns c =
    word_cut c.args.line.now c.args.k _ _ c.start-a.ensures.value c.find-e.ensures.value
