use mathlib.Core.Path.{◌∙◌, refl}
use Rattle.rb_nodes.proofs.Heap.{full-in, full-some}
use Rattle.rb_nodes.proofs.Refreshing.{told-no, fresh-none, fresh-right, left-call, left_in, right-call, top-links, fresh-done}
use Rattle.rb_nodes.proofs.+refresh.Goals as goal

pub returns-then-h-eq0 : goal.returns-then-h-eq0
returns-then-h-eq0 t c =
    fresh-none c.if-h-eq0.true

pub is_stale-requires : goal.is_stale-requires
is_stale-requires t c =
    full-in c.requires.0 c.requires.1 (full-some c.if-h-eq0.false c.requires.0 c.requires.1)

pub left-l-requires : goal.left-l-requires
left-l-requires t c =
    full-in c.requires.0 c.requires.1 (full-some c.if-h-eq0.false c.requires.0 c.requires.1)

pub refresh-requires : goal.refresh-requires
refresh-requires t c =
    left-call c.if-h-eq0.false c.left-l.ensures c.requires.0 c.requires.1 c.decreases

pub right-r-requires : goal.right-r-requires
right-r-requires t c =
    full-in c.requires.0 (left_in c.if-h-eq0.false c.left-l.ensures c.refresh.ensures c.requires.0 c.requires.1) (full-some c.if-h-eq0.false c.requires.0 c.requires.1)

pub refresh-requires-then-is_stale : goal.refresh-requires-then-is_stale
refresh-requires-then-is_stale t c =
    right-call c.if-h-eq0.false c.left-l.ensures c.refresh.ensures c.right-r.ensures c.requires.0 c.requires.1 c.decreases

pub update_subtree_hash-requires : goal.update_subtree_hash-requires
update_subtree_hash-requires t c =
    top-links c.if-h-eq0.false c.left-l.ensures c.refresh.ensures c.right-r.ensures c.refresh-then-is_stale.ensures c.requires.0 c.requires.1

pub shape_of-s-then-is_stale : goal.shape_of-s-then-is_stale
shape_of-s-then-is_stale t c =
    c.update_subtree_hash.auto.s ∙ c.refresh-then-is_stale.auto.s ∙ c.refresh.auto.s

pub returns-then-is_stale : goal.returns-then-is_stale
returns-then-is_stale t c =
    fresh-done c.if-h-eq0.false c.left-l.ensures c.refresh.ensures c.right-r.ensures c.refresh-then-is_stale.ensures c.update_subtree_hash.ensures

pub shape_of-s-else-is_stale : goal.shape_of-s-else-is_stale
shape_of-s-else-is_stale t c =
    refl

pub returns-else-is_stale : goal.returns-else-is_stale
returns-else-is_stale t c =
    fresh-right (told-no c.is_stale.ensures c.if-is_stale.false)
