use borrow.Author.Rules.{rules}
use Prim.Native.Nat.{◌<◌, ◌≤◌}
use native.Mathlib.Omega.{arith}
use Rattle.hash_tree.specs.Record.{kind_number}
use Rattle.hash_tree.proofs.ParseLaws.{length-piece}
use Rattle.cbor.proofs.Sizes.{length_none, length-short, length-long}
use Rattle.cbor.proofs.put_len.Goals as goal

pub returns-then-is_bare : goal.returns-then-is_bare
returns-then-is_bare c =
    let b : kind_number c.args.kind < 2 = search rules in
    rw c.in-Writing.is (λ b' e. length_none _ b' b)

pub returns-then-len-lt-SHORT : goal.returns-then-len-lt-SHORT
returns-then-len-lt-SHORT c =
    let b : 2 ≤ kind_number c.args.kind = search rules in
    rw c.in-Writing.is (λ b' e. length-short _ _ b' b c.if-len-lt-SHORT.true e)

pub returns-else-len-lt-SHORT : goal.returns-else-len-lt-SHORT
returns-else-len-lt-SHORT c =
    let b : 2 ≤ kind_number c.args.kind = search rules in
    rw c.in-Writing.is (λ b' e. length-long _ _ b' b c.if-len-lt-SHORT.false e)

pub returns-in-Reading : goal.returns-in-Reading
returns-in-Reading c =
    rw c.in-Reading.is (λ b e. omega (arith, length-piece (kind_number c.args.kind) b))
