use Rattle.std.proofs.Common.{◌≡◌, ◌+◌, ◌*◌, arith, subst, ◌∙◌}
use Rattle.key_order.proofs.Comparing.{Upto, at_same, parts_at, parts_here, ends, ends-agree, both}
use Rattle.key_order.proofs.Words.{says, unlike, unlike-order}
use Rattle.key_order.proofs.compare.Goals as goal

pub returns-then-p-q : goal.returns-then-p-q
returns-then-p-q c =
    let u = c.loop-k.invariant in
    let x = c.eight-p.ensures in
    let y = c.eight-q.ensures in
    both _ _
    (c.cmp.ensures ∙ unlike-order _ _ (λ k. omega (arith, c.type_inv.a k)) (λ k. omega (arith, c.type_inv.b k)) _ _ _ u (omega arith) (omega arith) x y c.if-p-q.true)
    (unlike _ _ (λ k. omega (arith, c.type_inv.a k)) (λ k. omega (arith, c.type_inv.b k)) _ _ _ _ u (omega arith) (omega arith) x y c.place.ensures)

pub loop-k-preserved : goal.loop-k-preserved
loop-k-preserved c =
    let e : 8 * c.loop-k.k + 8 ≡ 8 * (c.loop-k.k + 1) = omega arith in
    subst (Upto c.args.a.now c.args.b.now) e
    ((says _ _ (λ k. omega (arith, c.type_inv.a k)) (λ k. omega (arith, c.type_inv.b k)) _ c.loop-k.invariant 8 (omega arith) (omega arith)).same (omega (arith, c.eight-p.ensures, c.eight-q.ensures, c.if-p-q.false)))

pub returns-then-a-i : goal.returns-then-a-i
returns-then-a-i c =
    let u = c.loop-i.invariant in
    both _ _ (c.cmp-then-a-i.ensures ∙ parts_here u (omega arith) (omega arith) c.if-a-i.true) (parts_at u (omega arith) (omega arith) c.if-a-i.true)

pub loop-i-preserved : goal.loop-i-preserved
loop-i-preserved c = at_same c.loop-i.invariant (omega arith) (omega arith) (omega (arith, c.if-a-i.false)) (omega (arith, c.if-a-i.false))

pub returns : goal.returns
returns c =
    let e : c.loop-i.i ≡ c.min-n.result = omega arith in
    let u = subst (Upto c.args.a.now c.args.b.now) e c.loop-i.invariant in
    both _ _ (c.cmp-2.ensures ∙ ends u (λ l. omega arith) (λ l. omega arith)) (ends-agree u (λ l. omega arith) (λ l. omega arith))
