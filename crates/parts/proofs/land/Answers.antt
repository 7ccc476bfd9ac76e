use Rattle.parts.proofs.Doing.{land-top, land-level}
use Rattle.parts.proofs.land.Goals as goal

pub returns-then-n-eq0 : goal.returns-then-n-eq0
returns-then-n-eq0 c =
    land-top c.args.s.now c.put_heading.new.s _ c.args.n c.args.d.now c.if-n-eq0.true c.put_heading.ensures c.put_bytes.ensures.bytes

pub returns-else-n-eq0 : goal.returns-else-n-eq0
returns-else-n-eq0 c =
    land-level c.args.s.now c.put_bytes-else-n-eq0.new.out _ c.args.n c.args.d.now _ c.if-n-eq0.false c.level_at-at.ensures c.put_bytes-else-n-eq0.ensures.bytes c.put_heading-else-n-eq0.ensures
