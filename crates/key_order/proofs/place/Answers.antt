-- `key_order::place` meets its contract: the zeros at the front of the difference, eight to a byte.
use Rattle.std.proofs.Common.{refl}
use Rattle.key_order.proofs.Words.{parts_in}
use Rattle.key_order.proofs.place.Goals as goal

pub returns : goal.returns
returns c = parts_in c.args.p c.args.q c.ranges.p.fits c.ranges.q.fits c.requires _ refl
