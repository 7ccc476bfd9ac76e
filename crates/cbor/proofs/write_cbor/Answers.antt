use mathlib.Core.Path.{◌∙◌}
use Rattle.cbor.proofs.Answering.{writing-is}
use Rattle.cbor.proofs.write_cbor.Goals as goal

pub returns : goal.returns
returns c =
    c.exchange.ensures ∙ writing-is c.args.witness.now c.args.out.now
