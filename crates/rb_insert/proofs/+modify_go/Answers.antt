use mathlib.Core.Path.{◌∙◌}
use Rattle.rb_nodes.proofs.Heap.{has-len, full-in, full-some}
use Rattle.rb_insert.proofs.Modifying.{modify-none, less-go, less-made, greater-go, greater-made, equal-made}
use Rattle.rb_insert.proofs.+modify_go.Goals as goal

pub returns-then-h-eq0 : goal.returns-then-h-eq0
returns-then-h-eq0 t c =
    modify-none _ _ c.if-h-eq0.true

pub compare_key-requires : goal.compare_key-requires
compare_key-requires t c =
    (c.requires.0, c.requires.1, full-some c.if-h-eq0.false c.requires.0 c.requires.1)

pub set_value-requires : goal.set_value-requires
set_value-requires t c =
    record { has_slot = full-in c.requires.0 c.requires.1 (full-some c.if-h-eq0.false c.requires.0 c.requires.1); value_len_bound = c.requires.2 }

pub mark_stale-requires : goal.mark_stale-requires
mark_stale-requires t c =
    has-len c.set_value.auto.s (full-in c.requires.0 c.requires.1 (full-some c.if-h-eq0.false c.requires.0 c.requires.1))

pub left-l-requires : goal.left-l-requires
left-l-requires t c =
    full-in c.requires.0 c.requires.1 (full-some c.if-h-eq0.false c.requires.0 c.requires.1)

pub modify_go-requires : goal.modify_go-requires
modify_go-requires t c =
    less-go c.args.key.now c.args.value.now c.if-h-eq0.false c.compare_key.ensures c.in-Less.is c.left-l.ensures c.requires.0 c.requires.1 c.requires.2 c.requires.3 c.decreases

pub mark_stale-requires-in-Less : goal.mark_stale-requires-in-Less
mark_stale-requires-in-Less t c =
    has-len c.modify_go.auto.s (full-in c.requires.0 c.requires.1 (full-some c.if-h-eq0.false c.requires.0 c.requires.1))

pub right-r-requires : goal.right-r-requires
right-r-requires t c =
    full-in c.requires.0 c.requires.1 (full-some c.if-h-eq0.false c.requires.0 c.requires.1)

pub modify_go-requires-in-Greater : goal.modify_go-requires-in-Greater
modify_go-requires-in-Greater t c =
    greater-go c.args.key.now c.args.value.now c.if-h-eq0.false c.compare_key.ensures c.in-Greater.is c.right-r.ensures c.requires.0 c.requires.1 c.requires.2 c.requires.3 c.decreases

pub mark_stale-requires-in-Greater : goal.mark_stale-requires-in-Greater
mark_stale-requires-in-Greater t c =
    has-len c.modify_go-in-Greater.auto.s (full-in c.requires.0 c.requires.1 (full-some c.if-h-eq0.false c.requires.0 c.requires.1))

pub shape_of-s-in-Equal : goal.shape_of-s-in-Equal
shape_of-s-in-Equal t c =
    c.mark_stale.auto.s ∙ c.set_value.auto.s

pub returns-in-Equal : goal.returns-in-Equal
returns-in-Equal t c =
    equal-made _ _ c.if-h-eq0.false c.compare_key.ensures c.in-Equal.is c.set_value.ensures c.mark_stale.ensures

pub shape_of-s-in-Less : goal.shape_of-s-in-Less
shape_of-s-in-Less t c =
    c.mark_stale-in-Less.auto.s ∙ c.modify_go.auto.s

pub returns-in-Less : goal.returns-in-Less
returns-in-Less t c =
    less-made _ _ c.if-h-eq0.false c.compare_key.ensures c.in-Less.is c.left-l.ensures c.modify_go.ensures c.mark_stale-in-Less.ensures

pub shape_of-s-in-Greater : goal.shape_of-s-in-Greater
shape_of-s-in-Greater t c =
    c.mark_stale-in-Greater.auto.s ∙ c.modify_go-in-Greater.auto.s

pub returns-in-Greater : goal.returns-in-Greater
returns-in-Greater t c =
    greater-made _ _ c.if-h-eq0.false c.compare_key.ensures c.in-Greater.is c.right-r.ensures c.modify_go-in-Greater.ensures c.mark_stale-in-Greater.ensures
