use borrow.Author.Rules.{rules}
use Prim.Native.Nat.{◌<◌, ◌≤◌}
use native.Mathlib.Omega.{arith}
use Rattle.hash_tree.specs.Record.{kind_number}
use Rattle.cbor.proofs.Sizes.{own-most, length_two, length_some, puts-opening, puts-record}
use Rattle.cbor.proofs.put_cbor.Goals as goal

pub put_opening-x-requires : goal.put_opening-x-requires
put_opening-x-requires c =
    omega (arith, c.requires.1, length_two (kind_number c.args.kind) c.args.src.now)

pub returns-then-is_bare : goal.returns-then-is_bare
returns-then-is_bare c =
    let b : kind_number c.args.kind < 2 = search rules in
    puts-opening (kind_number c.args.kind) c.args.src.now b c.put_opening-x.ensures

pub put_string_head-y-requires : goal.put_string_head-y-requires
put_string_head-y-requires c =
    let b : 2 ≤ kind_number c.args.kind = search rules in
    (omega (arith, c.requires.0.high, own-most (kind_number c.args.kind)), omega (arith, c.requires.1, c.put_opening-x.ensures.place, c.put_opening-x.auto.out, length_some (kind_number c.args.kind) c.args.src.now b))

pub put_bytes-requires : goal.put_bytes-requires
put_bytes-requires c =
    let b : 2 ≤ kind_number c.args.kind = search rules in
    omega (arith, c.requires.1, c.put_opening-x.ensures.place, c.put_opening-x.auto.out, c.put_string_head-y.ensures.place, c.put_string_head-y.auto.out, length_some (kind_number c.args.kind) c.args.src.now b)

pub returns : goal.returns
returns c =
    let b : 2 ≤ kind_number c.args.kind = search rules in
    puts-record (kind_number c.args.kind) c.args.src.now b c.put_opening-x.ensures c.put_string_head-y.ensures c.put_bytes.ensures
