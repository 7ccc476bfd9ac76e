use Rattle.rb_nodes.proofs.Heap.{full-in, key-length}
use Rattle.rb_nodes.proofs.compare_key.Goals as goal

pub compare_key-requires : goal.compare_key-requires
compare_key-requires c =
    let p = c.requires in
    record { has_slot = full-in p.0 p.1 p.2; key_bound = key-length p.0 p.1 p.2 }

pub returns : goal.returns
returns c = c.compare_key.ensures
