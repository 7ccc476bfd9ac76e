use Rattle.runs.proofs.Runs.{filled}
use Rattle.slots.proofs.Copying.{digest-set}
use borrow.Author.Rules.{rules}
use Rattle.slots.proofs.set_digest.Goals as goal

pub returns : goal.returns
returns c =
    digest-set _ _ _ _ _ c.digest_at-b.ensures.0 (filled c.args.s.now c.args.d.now _ _ 32 c.digest_at-b.ensures.1 (search rules) c.copy_from_slice.ensures.after)
