use Rattle.rb_delete.proofs.Deleting.{found-full, cut-can, cut-tree, cut-done}
use Rattle.rb_delete.proofs.cut_out.Goals as goal

pub ready-requires : goal.ready-requires
ready-requires c =
    (c.requires.0, c.requires.1, found-full c.args.key.now c.requires.0 c.requires.3 c.requires.4)

pub delete_go-c-requires : goal.delete_go-c-requires
delete_go-c-requires c =
    cut-can c.args.key.now c.ready.ensures c.requires

pub paint_black-requires : goal.paint_black-requires
paint_black-requires c =
    cut-tree c.args.key.now c.ready.ensures _ c.delete_go-c.ensures c.requires

pub returns : goal.returns
returns c =
    cut-done c.args.key.now c.ready.ensures _ c.delete_go-c.ensures c.paint_black.ensures
