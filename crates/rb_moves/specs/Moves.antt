-- The Rust's two moves of delete with their panics: a flip first, then the `if`.
use Rattle.std.proofs.Math.Option.{Option}
use Rattle.llrb.specs.Tree.{Tree}
use Rattle.llrb.specs.Panic.{and_then, flip_colors_p, move_red_left₂_p, move_red_right₂_p}

-- the Rust's two moves: a flip first
abbrev pub move_red_left_p : Tree → Option Tree
move_red_left_p t = and_then (flip_colors_p t) move_red_left₂_p

abbrev pub move_red_right_p : Tree → Option Tree
move_red_right_p t = and_then (flip_colors_p t) move_red_right₂_p
