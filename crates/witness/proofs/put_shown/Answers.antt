use native.Mathlib.Omega.{arith}
use Rattle.slots.specs.Layout.{slot, key_of, value_of}
use Rattle.hash_tree.specs.HashTree.{leaf_hash}
use Rattle.hash_tree.specs.Written.{piece}
use Rattle.hash_tree.proofs.DigestLaws.{leaf_hash-length}
use Rattle.witness.proofs.Lengths.{key-short, value-short, hide-bytes, label-bytes, show-bytes, data-length}
use Rattle.output.proofs.Putting.{puts_then}
use Rattle.witness.proofs.Stepping.{front, rest}
use Rattle.witness.proofs.put_shown.Goals as goal

pub put_piece-requires : goal.put_piece-requires
put_piece-requires c =
    let s = c.args.s.now in let n = c.args.n in
    let h = rw (c.in-Hide.is, hide-bytes s n) at c.requires.room in
    rw c.data_hash.ensures (omega (arith, data-length s n), h)

pub put_piece-x-requires : goal.put_piece-x-requires
put_piece-x-requires c =
    let s = c.args.s.now in let n = c.args.n in
    let h = rw (c.in-Label.is, label-bytes s n) at c.requires.room in
    rw c.key.ensures (omega (arith, key-short s n c.requires.entry_at), front _ _ (piece 2 (key_of (slot s n))) (piece 4 (leaf_hash (value_of (slot s n)))) h)

pub put_piece-requires-in-Label : goal.put_piece-requires-in-Label
put_piece-requires-in-Label c =
    let s = c.args.s.now in let n = c.args.n in
    let h = rw (c.in-Label.is, label-bytes s n) at c.requires.room in
    let p = rw c.key.ensures at c.put_piece-x.ensures in
    rw (c.leaf_hash.ensures, c.value.ensures) (omega (arith, leaf_hash-length (value_of (slot s n))), rest (piece 2 (key_of (slot s n))) (piece 4 (leaf_hash (value_of (slot s n)))) p h)

pub put_piece-x-requires-in-Show : goal.put_piece-x-requires-in-Show
put_piece-x-requires-in-Show c =
    let s = c.args.s.now in let n = c.args.n in
    let h = rw (c.in-Show.is, show-bytes s n) at c.requires.room in
    rw c.key-in-Show.ensures (omega (arith, key-short s n c.requires.entry_at), front _ _ (piece 2 (key_of (slot s n))) (piece 3 (value_of (slot s n))) h)

pub put_piece-requires-in-Show : goal.put_piece-requires-in-Show
put_piece-requires-in-Show c =
    let s = c.args.s.now in let n = c.args.n in
    let h = rw (c.in-Show.is, show-bytes s n) at c.requires.room in
    let p = rw c.key-in-Show.ensures at c.put_piece-x-in-Show.ensures in
    rw c.value-in-Show.ensures (omega (arith, value-short s n c.requires.entry_at), rest (piece 2 (key_of (slot s n))) (piece 3 (value_of (slot s n))) p h)

pub returns-in-Hide : goal.returns-in-Hide
returns-in-Hide c =
    let s = c.args.s.now in let n = c.args.n in
    rw (c.in-Hide.is, hide-bytes s n) (rw c.data_hash.ensures at c.put_piece.ensures)

pub returns-in-Label : goal.returns-in-Label
returns-in-Label c =
    let s = c.args.s.now in let n = c.args.n in
    rw (c.in-Label.is, label-bytes s n) (puts_then (rw c.key.ensures at c.put_piece-x.ensures) (rw (c.leaf_hash.ensures, c.value.ensures) at c.put_piece-in-Label.ensures))

pub returns-in-Show : goal.returns-in-Show
returns-in-Show c =
    let s = c.args.s.now in let n = c.args.n in
    rw (c.in-Show.is, show-bytes s n) (puts_then (rw c.key-in-Show.ensures at c.put_piece-x-in-Show.ensures) (rw c.value-in-Show.ensures at c.put_piece-in-Show.ensures))
