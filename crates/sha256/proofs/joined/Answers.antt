use Rattle.sha256.specs.Hash.{sha256}
use Rattle.std.proofs.Common.{ap, ◌∙◌, append_assoc}
use Rattle.sha256.proofs.joined.Goals as goal

pub returns : goal.returns
returns c =
    c.finish.ensures _ (c.update-3.ensures _ (c.update-2.ensures _ (c.update.ensures _ c.new.ensures)))
    ∙ ap sha256 (append_assoc c.args.a.now c.args.b.now c.args.c.now)
