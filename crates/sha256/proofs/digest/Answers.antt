use Rattle.std.proofs.Common.{[]}
use Rattle.sha256.proofs.digest.Goals as goal

pub returns : goal.returns
returns c =
    c.finish.ensures c.args.msg.now (c.update.ensures [] c.new.ensures)
