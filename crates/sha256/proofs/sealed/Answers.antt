use Rattle.sha256.proofs.Rows.{sealed-is}
use Rattle.std.proofs.Common.{arith}
use Rattle.sha256.proofs.sealed.Goals as goal

pub returns : goal.returns
returns c m h same e =
    sealed-is m c.args.row _ _ c.args.r c.args.n _ h c.requires same (omega arith) e c.to_be_bytes.ensures c.copy.ensures
