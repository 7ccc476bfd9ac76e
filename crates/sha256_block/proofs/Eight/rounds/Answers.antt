use Rattle.sha256_block.proofs.Ring.{begin}
use Rattle.std.proofs.Common.{arith}
use Rattle.sha256_block.proofs.Eight.rounds.Goals as goal

pub returns : goal.returns
returns c =
    let m = c.args.m in
    let s = c.args.self in
    let d = c.sixteen.ensures m s (begin m s (omega (arith, c.well_formed))) in
    let e = c.sixteen-2.ensures m s d in
    let f = c.sixteen-3.ensures m s e in
    (c.last_sixteen.ensures m s f).state
