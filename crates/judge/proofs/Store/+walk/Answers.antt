use mathlib.Core.Path.{sym, ap, subst}
use native.Mathlib.Omega.{arith}
use Rattle.slots.specs.declared.Head.{Head}
use Rattle.judge.specs.Steps.{WalkSays}
use Rattle.runs.proofs.Testing.{decides-no, decides-yes}
use Rattle.judge.proofs.Testing.{has-slot, entry_key, key-length-of}
use Rattle.judge.proofs.Walking.{seen-nil, deep_none, few-none, high-none, node-none, left-none, right-none, rise-none, join-says}
use Rattle.judge.proofs.Store.+walk.Goals as goal
use Rattle.judge.proofs.Store.+walk.Goals.{then-depth-eq0-via-then-depth-eq0, then-depth-eq0-via-else-depth-eq0+then-left-eq0, then-depth-eq0-via-else-depth-eq0+else-left-eq0+then-self-i}

pub returns-then-i-eq0 : goal.returns-then-i-eq0
returns-then-i-eq0 t c =
    seen-nil c.if-i-eq0.true c.requires.met

pub returns-then-depth-eq0 : goal.returns-then-depth-eq0
returns-then-depth-eq0 t c =
    elim c.then-depth-eq0.branch [
      | then-depth-eq0-via-then-depth-eq0 w ↦ deep_none c.if-i-eq0.false w.if-depth-eq0.true
      | then-depth-eq0-via-else-depth-eq0+then-left-eq0 w ↦ few-none c.if-i-eq0.false w.if-left-eq0.true
      | then-depth-eq0-via-else-depth-eq0+else-left-eq0+then-self-i w ↦ high-none c.if-i-eq0.false w.if-self-i.true
    ]

pub returns-then-not-node_ok : goal.returns-then-not-node_ok
returns-then-not-node_ok t c =
    node-none c.if-i-eq0.false (decides-no c.node_ok.result c.if-not-node_ok.true c.node_ok.ensures)

pub returns-in_err-lower : goal.returns-in_err-lower
returns-in_err-lower t c =
    let e = c.head_of-h.ensures in
    rw c.from_residual.ensures
    (left-none record { some = c.if-i-eq0.false; high = c.if-self-i.false; depth = c.if-depth-eq0.false; more = c.if-left-eq0.false; ok = decides-yes c.node_ok.result c.if-not-node_ok.false c.node_ok.ensures } (ap (λ (z : Head). z.left) e) (ap (λ (z : Head). z.red) e) c.in_err-lower.ensures)

pub returns-in_err-upper : goal.returns-in_err-upper
returns-in_err-upper t c =
    let e = c.head_of-h.ensures in
    rw c.from_residual-in_err-upper.ensures
    (right-none record { some = c.if-i-eq0.false; high = c.if-self-i.false; depth = c.if-depth-eq0.false; more = c.if-left-eq0.false; ok = decides-yes c.node_ok.result c.if-not-node_ok.false c.node_ok.ensures } (ap (λ (z : Head). z.left) e) (ap (λ (z : Head). z.red) e) c.in_ok-lower.ensures (ap (λ (z : Head). z.right) e) c.in_err-upper.ensures)

pub rises-requires : goal.rises-requires
rises-requires t c =
    let k = decides-yes c.node_ok.result c.if-not-node_ok.false c.node_ok.ensures in
    let p = has-slot c.args.self.now.sized (omega (arith, c.if-i-eq0.false)) c.if-self-i.false in
    let e = key-length-of c.args.self.now.s.now c.args.self.now.cap c.args.i c.args.black c.head_of-h.ensures in
    let x = c.in_ok-lower.ensures in
    record { met = x.1.met; has_slot = p; n_value = (e, omega (arith, e, entry_key c.args.self.now.s.now c.args.i p k.entry)) }

pub returns-then-not-rises : goal.returns-then-not-rises
returns-then-not-rises t c =
    let e = c.head_of-h.ensures in
    let x = c.in_ok-lower.ensures in
    rise-none record { some = c.if-i-eq0.false; high = c.if-self-i.false; depth = c.if-depth-eq0.false; more = c.if-left-eq0.false; ok = decides-yes c.node_ok.result c.if-not-node_ok.false c.node_ok.ensures } (ap (λ (z : Head). z.left) e) (ap (λ (z : Head). z.red) e) x (decides-no c.rises.result c.if-not-rises.true c.rises.ensures)

pub walk-requires-2 : goal.walk-requires-2
walk-requires-2 t c =
    let k = decides-yes c.node_ok.result c.if-not-node_ok.false c.node_ok.ensures in
    let p = has-slot c.args.self.now.sized (omega (arith, c.if-i-eq0.false)) c.if-self-i.false in
    (omega (arith, c.decreases, c.if-depth-eq0.false), (omega (arith, c.requires.depth_bound), record { within = c.if-self-i.false; short = λ n. entry_key c.args.self.now.s.now c.args.i p k.entry }))

pub returns : goal.returns
returns t c =
    let e = c.head_of-h.ensures in
    let x = c.in_ok-lower.ensures in
    subst (WalkSays c.args.self.now.s.now c.args.self.now.cap c.args.depth c.args.i c.args.prev c.args.left c.args.black) (sym c.join.ensures)
    (join-says record { some = c.if-i-eq0.false; high = c.if-self-i.false; depth = c.if-depth-eq0.false; more = c.if-left-eq0.false; ok = decides-yes c.node_ok.result c.if-not-node_ok.false c.node_ok.ensures } (ap (λ (z : Head). z.left) e) (ap (λ (z : Head). z.red) e) x (ap (λ (z : Head). z.right) e) (decides-yes c.rises.result c.if-not-rises.false c.rises.ensures) c.in_ok-upper.upper c.in_ok-upper.ensures)
