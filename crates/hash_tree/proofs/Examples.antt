-- The tables of specs/Examples hold, each under one claim that antt computes. Digests stay shut.
use Prim.Native.Nat.{◌-◌}
use mathlib.Core.Path.{◌≡◌, refl}
use Rattle.hash_tree.specs.HashTree.{digest}
use Rattle.hash_tree.specs.Written.{piece, write, max_depth}
use Rattle.hash_tree.specs.Record.{record_of, least, most}
use Rattle.hash_tree.specs.Parse.{parse}
use Rattle.hash_tree.specs.Whole.{rebuilt, accepted, refused}
use Rattle.hash_tree.specs.Examples.{Each, Holds, examples, faulty, deep}

pub examples-hold : Each Holds examples
unfolding examples write piece rebuilt parse record_of least most
examples-hold = ((refl, refl), ((refl, refl), ((refl, refl), ((refl, refl), ((refl, refl), ((refl, refl), tt))))))

pub faulty-refused : Each (λ s. rebuilt s ≡ refused) faulty
unfolding faulty rebuilt parse record_of least most
faulty-refused = (refl, (refl, (refl, (refl, (refl, (refl, (refl, (refl, tt))))))))

-- as deep as is allowed, and one record deeper
pub deep-enough : rebuilt (write (deep (max_depth - 1))) ≡ accepted (digest (deep (max_depth - 1)))
unfolding deep write piece rebuilt parse record_of least most
deep-enough = refl

pub too-deep : rebuilt (write (deep max_depth)) ≡ refused
unfolding deep write piece rebuilt parse record_of least most
too-deep = refl
