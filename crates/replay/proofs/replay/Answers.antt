use mathlib.Core.Path.{sym}
use Rattle.store.proofs.Replaying.{replay-malformed}
use Rattle.replay.proofs.Reading.{is-no-log, is-a-log}
use Rattle.replay.proofs.replay.Goals as goal

pub returns-then-not-is_log : goal.returns-then-not-is_log
returns-then-not-is_log c =
    sym (replay-malformed _ c.requires (is-no-log _ c.is_log.result c.if-not-is_log.true c.is_log.ensures))

pub run-requires : goal.run-requires
run-requires c =
    (c.requires, is-a-log _ c.is_log.result c.if-not-is_log.false c.is_log.ensures)
