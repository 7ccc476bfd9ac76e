-- The walk between two bounds (`range_witness`); the Rust's bounds are named by the slots of their entries.
use Rattle.std.specs.Prelude.{Some, None}
use Rattle.std.specs.Prelude as code
use Rattle.std.proofs.Math.Option.{Option, none, some}
use Rattle.witness_trees.specs.Witness as bounds
use Rattle.search.specs.declared.KeyBound.{KeyBound}
use Rattle.search.specs.Search.{key_bound_slot}
use Rattle.witness_walks.specs.declared.Walk.{Walk}
use Rattle.witness_walks.specs.declared.Walk.TheVariants.{Full, Above, Below, Between}

abbrev pub walk_between : (left right : code.Option KeyBound) → Walk
walk_between None None = Full
walk_between (Some lo) None = Above lo
walk_between None (Some hi) = Below hi
walk_between (Some lo) (Some hi) = Between lo hi

-- the same of the bounds on paper
abbrev pub range_walk : Option bounds.KeyBound → Option bounds.KeyBound → Walk
range_walk none none = Full
range_walk (some lo) none = Above (key_bound_slot lo)
range_walk none (some hi) = Below (key_bound_slot hi)
range_walk (some lo) (some hi) = Between (key_bound_slot lo) (key_bound_slot hi)
