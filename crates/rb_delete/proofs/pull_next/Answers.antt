use Rattle.rb_nodes.proofs.Heap.{full-in}
use Rattle.rb_delete.proofs.Cutting.{next-tree, next-facts, next-can, next-link, next-bal, next-done}
use Rattle.rb_delete.proofs.pull_next.Goals as goal

pub right-r-requires : goal.right-r-requires
right-r-requires c =
    full-in c.requires.0 c.requires.1 c.requires.2

pub min-m-requires : goal.min-m-requires
min-m-requires c =
    next-tree c.right-r.ensures c.requires.0 c.requires.4 c.requires.3 c.requires.1 c.requires.2 c.requires.5

pub move_entry-requires : goal.move_entry-requires
move_entry-requires c =
    let w = next-facts c.right-r.ensures c.min-m.ensures c.requires.0 c.requires.4 c.requires.3 c.requires.1 c.requires.2 c.requires.5 in
    record { has_slot = w.0; has_other = w.1.0; apart = w.1.1 }

pub delete_min-p-requires : goal.delete_min-p-requires
delete_min-p-requires c =
    next-can c.right-r.ensures c.min-m.ensures c.move_entry.ensures c.requires.0 c.requires.4 c.requires.3 c.requires.1 c.requires.2 c.requires.5

pub set_right-requires : goal.set_right-requires
set_right-requires c =
    let parts = next-link c.right-r.ensures c.min-m.ensures c.move_entry.ensures c.delete_min-p.ensures c.requires.0 c.requires.4 c.requires.3 c.requires.1 c.requires.2 c.requires.5 in
    record { has_slot = parts.0; x_bound = parts.1 }

pub update_and_balance-top-requires : goal.update_and_balance-top-requires
update_and_balance-top-requires c =
    next-bal c.right-r.ensures c.min-m.ensures c.move_entry.ensures c.delete_min-p.ensures c.requires.0 c.requires.4 c.requires.3 c.requires.1 c.requires.2 c.requires.5 c.set_right.ensures

pub returns : goal.returns
returns c =
    λ t y n a f w. next-done c.right-r.ensures c.min-m.ensures c.move_entry.ensures c.delete_min-p.ensures t y n a f w c.set_right.ensures c.update_and_balance-top.ensures
