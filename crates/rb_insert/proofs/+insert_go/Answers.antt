use Rattle.rb_nodes.proofs.Heap.{has-len, full-in, full-some}
use Rattle.rb_insert.proofs.Inserting.{new-slot, new-done, less-call, less-link, less-can, less_done, greater-call, greater-link, greater-can, greater-done, equal-can, equal-done}
use Rattle.rb_insert.proofs.+insert_go.Goals as goal

pub put_entry-requires : goal.put_entry-requires
put_entry-requires t c =
    record { has_slot = new-slot c.if-h-eq0.true c.requires.0 c.requires.1 c.requires.2; length_bounds = (c.requires.2.key, c.requires.2.value) }

pub mark_stale-requires : goal.mark_stale-requires
mark_stale-requires t c =
    has-len c.put_entry.auto.s (new-slot c.if-h-eq0.true c.requires.0 c.requires.1 c.requires.2)

pub returns-then-h-eq0 : goal.returns-then-h-eq0
returns-then-h-eq0 t c =
    new-done c.put_entry.ensures c.if-h-eq0.true c.mark_stale.ensures

pub set_value-requires : goal.set_value-requires
set_value-requires t c =
    record { has_slot = full-in c.requires.0 c.requires.1 (full-some c.if-h-eq0.false c.requires.0 c.requires.1); value_len_bound = c.requires.2.value }

pub update_and_balance-requires : goal.update_and_balance-requires
update_and_balance-requires t c =
    equal-can _ _ _ c.if-h-eq0.false c.compare_key.ensures c.in-Equal.is c.set_value.ensures c.requires.0 c.requires.1 c.requires.2

pub left-l-requires : goal.left-l-requires
left-l-requires t c =
    full-in c.requires.0 c.requires.1 (full-some c.if-h-eq0.false c.requires.0 c.requires.1)

pub insert_go-p-requires : goal.insert_go-p-requires
insert_go-p-requires t c =
    less-call _ _ _ c.if-h-eq0.false c.compare_key.ensures c.in-Less.is c.left-l.ensures c.requires.0 c.requires.1 c.requires.2 c.decreases

pub set_left-requires : goal.set_left-requires
set_left-requires t c =
    let parts = less-link _ _ _ c.if-h-eq0.false c.compare_key.ensures c.in-Less.is c.left-l.ensures c.insert_go-p.ensures c.requires.0 c.requires.1 c.requires.2 in
    record { has_slot = parts.0; x_bound = parts.1 }

pub update_and_balance-requires-in-Less : goal.update_and_balance-requires-in-Less
update_and_balance-requires-in-Less t c =
    less-can _ _ _ c.if-h-eq0.false c.compare_key.ensures c.in-Less.is c.left-l.ensures c.insert_go-p.ensures c.set_left.ensures c.requires.0 c.requires.1 c.requires.2

pub right-r-requires : goal.right-r-requires
right-r-requires t c =
    full-in c.requires.0 c.requires.1 (full-some c.if-h-eq0.false c.requires.0 c.requires.1)

pub insert_go-p-requires-in-Greater : goal.insert_go-p-requires-in-Greater
insert_go-p-requires-in-Greater t c =
    greater-call _ _ _ c.if-h-eq0.false c.compare_key.ensures c.in-Greater.is c.right-r.ensures c.requires.0 c.requires.1 c.requires.2 c.decreases

pub set_right-requires : goal.set_right-requires
set_right-requires t c =
    let parts = greater-link _ _ _ c.if-h-eq0.false c.compare_key.ensures c.in-Greater.is c.right-r.ensures c.insert_go-p-in-Greater.ensures c.requires.0 c.requires.1 c.requires.2 in
    record { has_slot = parts.0; x_bound = parts.1 }

pub update_and_balance-requires-in-Greater : goal.update_and_balance-requires-in-Greater
update_and_balance-requires-in-Greater t c =
    greater-can _ _ _ c.if-h-eq0.false c.compare_key.ensures c.in-Greater.is c.right-r.ensures c.insert_go-p-in-Greater.ensures c.set_right.ensures c.requires.0 c.requires.1 c.requires.2

pub returns-in-Equal : goal.returns-in-Equal
returns-in-Equal t c =
    equal-done _ _ _ c.if-h-eq0.false c.compare_key.ensures c.in-Equal.is c.set_value.ensures c.update_and_balance.ensures

pub returns-in-Less : goal.returns-in-Less
returns-in-Less t c =
    less_done _ _ _ c.if-h-eq0.false c.compare_key.ensures c.in-Less.is c.left-l.ensures c.insert_go-p.ensures c.set_left.ensures c.update_and_balance-in-Less.ensures

pub returns-in-Greater : goal.returns-in-Greater
returns-in-Greater t c =
    greater-done _ _ _ c.if-h-eq0.false c.compare_key.ensures c.in-Greater.is c.right-r.ensures c.insert_go-p-in-Greater.ensures c.set_right.ensures c.update_and_balance-in-Greater.ensures
