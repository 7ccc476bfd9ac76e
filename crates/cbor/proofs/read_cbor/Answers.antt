use mathlib.Core.Path.{◌∙◌}
use Rattle.cbor.proofs.Answering.{reading-is}
use Rattle.cbor.proofs.read_cbor.Goals as goal

pub returns : goal.returns
returns c =
    c.exchange.ensures ∙ reading-is c.args.cbor.now c.args.out.now
