use lib.Dec.{lit<}
use Rattle.rb_nodes.proofs.Hashing.{mark_set}
use Rattle.rb_nodes.proofs.update_subtree_hash.Goals as goal

pub set_count-requires : goal.set_count-requires
set_count-requires c =
    record { has_slot = c.requires.here; x_bound = lit< tt }

pub returns : goal.returns
returns c =
    mark_set _ _ _ _ _ c.set_count.ensures c.compute_subtree_hash-digest.ensures c.set_digest.ensures
