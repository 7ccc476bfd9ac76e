use Rattle.sha256.specs.Hashed.{hashed}
use Rattle.std.proofs.Common.{le-leb}
use borrow.Author.Tests.{lt-leb}
use Rattle.sha256.proofs.hash.Goals as goal

pub returns-then-msg-gt-MAX_MESSAGE : goal.returns-then-msg-gt-MAX_MESSAGE
unfolding hashed
returns-then-msg-gt-MAX_MESSAGE c =
    simp (lt-leb _ _ c.if-msg-gt-MAX_MESSAGE.true)

pub returns : goal.returns
unfolding hashed
returns c =
    simp (le-leb _ _ c.if-msg-gt-MAX_MESSAGE.false, c.digest.ensures)
