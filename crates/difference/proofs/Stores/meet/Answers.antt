use Rattle.difference.proofs.Stepping.{there-old, there-new, meets-end, meets-new, meets-gone, meets-less, meets-greater, meets-other, meets-same}
use Rattle.difference.proofs.Stores.meet.Goals as goal

pub key-requires : goal.key-requires
key-requires c =
    let w = there-old c.requires c.in-Some-Some.is-0 in
    record { has_slot = w.inside; length_bound = w.key }

pub key-requires-in-Some-Some : goal.key-requires-in-Some-Some
key-requires-in-Some-Some c =
    let w = there-new c.requires c.in-Some-Some.is-1 in
    record { has_slot = w.inside; length_bound = w.key }

pub value-requires : goal.value-requires
value-requires c =
    let w = there-old c.requires c.in-Some-Some.is-0 in
    record { has_slot = w.inside; length_bound = w.value }

pub value-requires-in-Equal : goal.value-requires-in-Equal
value-requires-in-Equal c =
    let w = there-new c.requires c.in-Some-Some.is-1 in
    record { has_slot = w.inside; length_bound = w.value }

pub returns-in-None-None : goal.returns-in-None-None
returns-in-None-None c =
    meets-end c.requires c.in-None-None.is-0 c.in-None-None.is-1

pub returns-in-None-Some : goal.returns-in-None-Some
returns-in-None-Some c =
    rw c.line_at.ensures (meets-new c.in-None-Some.is-0 c.in-None-Some.is-1 c.requires c.after.ensures)

pub returns-in-Some-None : goal.returns-in-Some-None
returns-in-Some-None c =
    rw c.line_at-in-Some-None.ensures (meets-gone c.in-Some-None.is-0 c.in-Some-None.is-1 c.requires c.after-in-Some-None.ensures)

pub returns-in-Less : goal.returns-in-Less
returns-in-Less c =
    rw c.line_at-in-Less.ensures (meets-less c.in-Some-Some.is-0 c.in-Some-Some.is-1 c.key.ensures c.key-in-Some-Some.ensures c.order.ensures c.in-Less.is c.requires c.after-in-Less.ensures)

pub returns-in-Greater : goal.returns-in-Greater
returns-in-Greater c =
    rw c.line_at-in-Greater.ensures (meets-greater c.in-Some-Some.is-0 c.in-Some-Some.is-1 c.key.ensures c.key-in-Some-Some.ensures c.order.ensures c.in-Greater.is c.requires c.after-in-Greater.ensures)

pub returns-then-same : goal.returns-then-same
returns-then-same c =
    meets-same c.in-Some-Some.is-0 c.in-Some-Some.is-1 c.key.ensures c.key-in-Some-Some.ensures c.order.ensures c.value.ensures c.value-in-Equal.ensures c.same.ensures c.in-Equal.is c.if-same.true c.requires c.after-in_old.ensures c.after-in_new.ensures

pub returns-else-same : goal.returns-else-same
returns-else-same c =
    rw c.line_at-else-same.ensures (meets-other c.in-Some-Some.is-0 c.in-Some-Some.is-1 c.key.ensures c.key-in-Some-Some.ensures c.order.ensures c.value.ensures c.value-in-Equal.ensures c.same.ensures c.in-Equal.is c.if-same.false c.requires c.after-in_old.ensures c.after-in_new.ensures)
