-- Keys that rise strictly from one entry to the next, as a walk in order meets them: the bound is the key met before, if there is one.
use Rattle.std.specs.Prelude.{◌≡◌, List, [], ◌∷◌}
use Rattle.key_order.specs.Order.{Key, cmp}
use Rattle.std.specs.declared.cmp.Ordering.TheVariants.{Less}
use Rattle.llrb.specs.Tree.{Entry}

pub data Bound : Type 0 where
  none : Bound
  over : Key → Bound

-- the key is above the bound
abbrev pub Past : Bound → Key → Type 0
Past none k = Unit {0}
Past (over b) k = cmp b k ≡ Less

abbrev pub Rising : Bound → List Entry → Type 0
Rising b [] = Unit {0}
Rising b (e ∷ L) = Past b e.key × Rising (over e.key) L

-- the bound after the entries
abbrev pub last_of : Bound → List Entry → Bound
last_of b [] = b
last_of b (e ∷ L) = last_of (over e.key) L
