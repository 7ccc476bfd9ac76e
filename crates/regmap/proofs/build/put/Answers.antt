use Rattle.rb_tree.proofs.Asking.{tree-at, entry_at}
use Rattle.regmap.proofs.build.put.Goals as goal

pub get-requires : goal.get-requires
get-requires c =
    tree-at c.header_of-root.ensures c.requires.sound.1

pub again-requires : goal.again-requires
again-requires c =
    entry_at c.header_of-root.ensures c.args.key.now c.get.ensures c.in-Some.is c.requires.sound.1
