use Rattle.rb_nodes.proofs.Heap.{full-in}
use Rattle.rb_insert.proofs.Putting.{put_full, put-done}
use Rattle.rb_insert.proofs.put.Goals as goal

pub set_red-requires : goal.set_red-requires
set_red-requires c =
    let w = put_full _ _ _ c.insert_go-top.ensures c.requires.0 c.requires.1 c.requires.2 in full-in w.0 w.1 w.2

pub returns : goal.returns
returns c =
    put-done _ _ _ c.insert_go-top.ensures c.set_red.ensures
