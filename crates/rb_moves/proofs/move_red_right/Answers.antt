use Rattle.llrb.specs.Panic.{move_red_right₂_p}
use Rattle.rb_moves.proofs.Lending.{flip-next, flip-done}
use Rattle.rb_moves.proofs.move_red_right.Goals as goal

pub move_red_right_2-requires : goal.move_red_right_2-requires
move_red_right_2-requires c =
    flip-next move_red_right₂_p c.flip_colors.ensures c.requires

pub returns : goal.returns
returns c =
    flip-done move_red_right₂_p c.flip_colors.ensures c.move_red_right_2.ensures
