-- Keys that rise from one entry to the next are sorted, and back; rising over a subtree in order.
use mathlib.Core.Path.{◌≡◌, refl}
use mathlib.Core.List.{List, [], ◌∷◌, ◌++◌}
use Rattle.key_order.specs.Order.{Key, cmp}
use Rattle.std.specs.declared.cmp.Ordering.TheVariants.{Less}
use Rattle.key_order.proofs.Laws.{cmp-trans}
use Rattle.llrb.specs.Tree.{Entry}
use Rattle.llrb.specs.Sorted.{Above, Sorted}
use Rattle.judge.specs.Rising.{Bound, none, over, Past, Rising, last_of}

pub rising-join : (b : Bound) (L : List Entry) (e : Entry) (R : List Entry) → Rising b L → Past (last_of b L) e.key → Rising (over e.key) R → Rising b (L ++ (e ∷ R))
rising-join b [] e R p q r = (q, r)
rising-join b (x ∷ L) e R p q r = (p.0, rising-join (over x.key) L e R p.1 q r)

pub rising-split : (b : Bound) (L : List Entry) (e : Entry) (R : List Entry) → Rising b (L ++ (e ∷ R)) → Rising b L × Past (last_of b L) e.key × Rising (over e.key) R
rising-split b [] e R p = (tt, p.0, p.1)
rising-split b (x ∷ L) e R p =
    let i = rising-split (over x.key) L e R p.1 in
    ((p.0, i.0), i.1, i.2)

pub last-join : (b : Bound) (L : List Entry) (e : Entry) (R : List Entry) → last_of b (L ++ (e ∷ R)) ≡ last_of (over e.key) R
last-join b [] e R = refl
last-join b (x ∷ L) e R = last-join (over x.key) L e R

-- ---- sorted

above : (k : Key) (b : Key) (L : List Entry) → cmp k b ≡ Less → Rising (over b) L → Above k L
above k b [] h p = tt
above k b (e ∷ L) h p = let g = cmp-trans k b e.key h p.0 in (g, above k e.key L g p.1)

beyond : (b : Key) (L : List Entry) → Rising (over b) L → Above b L
beyond b [] p = tt
beyond b (e ∷ L) p = (p.0, above b e.key L p.0 p.1)

pub rising-sorted : (b : Bound) (L : List Entry) → Rising b L → Sorted L
rising-sorted b [] p = tt
rising-sorted b (e ∷ L) p = (beyond e.key L p.1, rising-sorted (over e.key) L p.1)

from : (b : Key) (L : List Entry) → Above b L → Sorted L → Rising (over b) L
from b [] a p = tt
from b (e ∷ L) a p = (a.0, from e.key L p.0 p.1)

pub sorted-rising : (L : List Entry) → Sorted L → Rising none L
sorted-rising [] p = tt
sorted-rising (e ∷ L) p = (tt, from e.key L p.0 p.1)
