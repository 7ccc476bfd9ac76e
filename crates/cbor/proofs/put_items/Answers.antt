use mathlib.Core.Path.{refl}
use native.Mathlib.Omega.{arith}
use Rattle.cbor.proofs.Records.{going-begins, going-ends, going-some, going-asks, going_on, going-further}
use Rattle.cbor.proofs.put_items.Goals as goal

pub loop-at-init : goal.loop-at-init
loop-at-init c =
    (omega arith, refl, going-begins c.args.way c.args.s.now c.args.out.now (λ i. omega (arith, c.type_inv.s i)) c.requires)

pub unwrap-item-requires : goal.unwrap-item-requires
unwrap-item-requires c =
    going-some c.args.way c.args.s.now c.args.out.now c.loop-at.out c.loop-at.at c.loop-at.to _ c.loop-at.invariant.2 c.item_at.result c.item_at.ensures c.loop-at-test.true

pub put_item-to-requires : goal.put_item-to-requires
put_item-to-requires c =
    let h = rw c.unwrap-item.ensures at c.item_at.ensures in
    going-asks c.args.way c.args.s.now c.args.out.now c.loop-at.out c.loop-at.at c.loop-at.to _ _ _ _ h c.loop-at.invariant.2 c.loop-at-test.true

pub loop-at-smaller : goal.loop-at-smaller
loop-at-smaller c =
    let h = rw c.unwrap-item.ensures at c.item_at.ensures in
    omega (arith, h.within, going-further c.args.way c.args.s.now c.args.out.now c.loop-at.out c.loop-at.at c.loop-at.to _ _ _ _ h c.loop-at.invariant.2 c.loop-at-test.true)

pub loop-at-preserved : goal.loop-at-preserved
loop-at-preserved c =
    let h = rw c.unwrap-item.ensures at c.item_at.ensures in
    (h.within, omega (arith, c.put_item-to.auto.out, c.loop-at.invariant.1), going_on c.args.way c.args.s.now c.args.out.now c.loop-at.out c.loop-at.at c.loop-at.to _ _ _ _ h _ _ c.loop-at.invariant.2 c.loop-at-test.true c.put_item-to.ensures)

pub returns : goal.returns
returns c =
    going-ends c.args.way c.args.s.now c.args.out.now c.loop-at.out c.loop-at.at c.loop-at.to _ c.loop-at.invariant.2 c.loop-at-test.false
