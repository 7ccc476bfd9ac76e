-- How the parts of a node join, before any of them is written: `three_way_fork` by the kinds of its parts, and the node's records in order.
use Rattle.std.specs.Prelude.{Bool, true, false, cond, ◌&&◌}
use Rattle.witness_walks.specs.declared.What.{What}
use Rattle.witness_walks.specs.declared.What.TheVariants.{Hide, Label, Show}
use Rattle.witness_walks.specs.declared.Part.{Part}
use Rattle.witness_walks.specs.declared.Part.TheVariants.{Nothing, Hidden, Walked}
use Rattle.witness_walks.specs.declared.Arm.{Arm}
use Rattle.witness_walks.specs.declared.Kind.{Kind}
use Rattle.witness_walks.specs.declared.Kind.TheVariants.{Empty, Pruned, Other}
use Rattle.witness_walks.specs.declared.Shape.{Shape}
use Rattle.witness_walks.specs.declared.Shape.TheVariants.{M, ForkLM, ForkMR, ForkLPrunedMR, ForkLForkMR}
use Rattle.witness_walks.specs.declared.Middle.TheVariants.{Entry, Both}
use Rattle.witness_walks.specs.declared.Records.{Records}

abbrev pub is_empty : Kind → Bool
is_empty Empty = true
is_empty Pruned = false
is_empty Other = false

abbrev pub is_pruned : Kind → Bool
is_pruned Empty = false
is_pruned Pruned = true
is_pruned Other = false

-- `three_way_fork`: the first rule that fits. Its fourth, for three Pruned, is left out: they are never met (proofs/Never)
abbrev pub shape_of : (l m r : Kind) → Shape
shape_of l m r =
    cond (is_empty l && is_empty r) M
    (cond (is_empty r) ForkLM
    (cond (is_empty l) ForkMR
    (cond (is_pruned m && is_pruned r) ForkLPrunedMR
    ForkLForkMR)))

-- of a side: Empty where there is no child; Pruned where it is hidden; a side walked into is never Pruned
abbrev pub kind_of_part : (missing : Bool) → Part → Kind
kind_of_part true p = Empty
kind_of_part false Nothing = Empty
kind_of_part false Hidden = Pruned
kind_of_part false (Walked w) = Other

abbrev pub kind_of_what : What → Kind
kind_of_what Hide = Pruned
kind_of_what Label = Other
kind_of_what Show = Other

-- the records of a node that joins in this shape, in order
abbrev pub records_of : Shape → (left : Part) (middle : What) (right : Part) → Records
records_of M l m r = record { outer = false; left = Nothing; inner = false; middle = Entry m; right = Nothing }
records_of ForkLM l m r = record { outer = true; left = l; inner = false; middle = Entry m; right = Nothing }
records_of ForkMR l m r = record { outer = true; left = Nothing; inner = false; middle = Entry m; right = r }
records_of ForkLPrunedMR l m r = record { outer = true; left = l; inner = false; middle = Both; right = Nothing }
records_of ForkLForkMR l m r = record { outer = true; left = l; inner = true; middle = Entry m; right = r }

-- the records of a node at an arm: are the children missing?
abbrev pub records_at : Arm → (no_left no_right : Bool) → Records
records_at a no_left no_right =
    records_of (shape_of (kind_of_part no_left a.left) (kind_of_what a.middle) (kind_of_part no_right a.right)) a.left a.middle a.right
