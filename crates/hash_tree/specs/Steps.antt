-- The answers of the functions below `rebuild`, as values.
use Rattle.std.specs.Prelude.{ℕ, ◌+◌, ◌-◌, cond, List, Option, Some, None, length, eqb}
use Rattle.hash_tree.specs.declared.Step.{Step}
use Rattle.hash_tree.specs.HashTree.{Digest, digest, empty_hash, leaf_hash}
use Rattle.hash_tree.specs.Written.{size}
use Rattle.hash_tree.specs.Parse.{Parsed, Got, Bad}

-- the answer to a parse that started somewhere in s: the tree's digest, and the place after the tree
abbrev pub step_of : List ℕ → Parsed → Option Step
step_of s (Got t rest) = Some (record { next = length s - length rest; digest = digest t })
step_of s Bad = None

-- a record with no children
abbrev pub single_digest : ℕ → List ℕ → Digest
single_digest k b = cond (eqb k 3) (leaf_hash b) (cond (eqb k 4) b empty_hash)

-- the place after the tree at a place
abbrev pub place_of : ℕ → Parsed → Option ℕ
place_of at (Got t rest) = Some (at + size t)
place_of at Bad = None
