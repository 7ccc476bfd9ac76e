-- `whole_store::lay` meets its contract: each turn frees a slot, whatever its bytes were.
use Prim.Native.Nat.{◌+◌, ◌-◌}
use mathlib.Core.Path.{◌≡◌, refl, sym, subst}
use native.Mathlib.Omega.{arith}
use Rattle.whole_store.proofs.Fresh.{Chained, next-lt, chained-to, fresh-bytes}
use Rattle.whole_store.proofs.lay.Goals as goal
use Rattle.whole_store.proofs.lay.Goals.{else-loop-x-test, then-loop-x-test+else-x-cap}

pub clear_slot-requires-clause-next_bound : goal.clear_slot-requires-clause-next_bound
clear_slot-requires-clause-next_bound c =
    omega (arith, next-lt c.args.cap c.loop-x.x (omega arith))

pub loop-x-preserved : goal.loop-x-preserved
loop-x-preserved c =
    let q : c.loop-x.x ≡ c.loop-x.x + 1 - 1 = omega arith in
    subst (Chained c.args.cap c.clear_slot.new.s) q
    (chained-to c.requires.sized.most c.loop-x.invariant (omega arith) (omega arith) c.next.ensures c.clear_slot.ensures)

pub returns : goal.returns
returns c =
    let done : Chained c.args.cap c.loop-x-test.s c.args.cap =
    elim c.loop-x-test.branch [
      | else-loop-x-test w ↦
          let q : c.loop-x.x - 1 ≡ c.args.cap = omega arith in
          subst (λ s. Chained c.args.cap s c.args.cap) (sym w.s-is) (subst (Chained c.args.cap c.loop-x.s) q c.loop-x.invariant)
      | then-loop-x-test+else-x-cap w ↦
          let q : c.loop-x.x ≡ c.args.cap = omega arith in
          subst (λ s. Chained c.args.cap s c.args.cap) (sym w.s-is)
          (subst (Chained c.args.cap w.clear_slot.new.s) q
          (chained-to c.requires.sized.most c.loop-x.invariant (omega arith) (omega arith) w.next.ensures w.clear_slot.ensures))
    ] in
    fresh-bytes c.args.cap c.requires.cap_bound c.requires.sized.most done refl c.set_header.ensures
