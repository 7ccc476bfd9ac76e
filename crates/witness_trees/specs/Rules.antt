-- What each call is to show, in the words of document 01 and from the list of keys alone.
use Rattle.std.specs.Prelude.{◌≡◌, Bool, true, false, not, cond, ◌&&◌, ◌||◌, List, [], ◌∷◌, ◌+◌, ◌*◌, ◌≤◌}
use Rattle.std.proofs.Math.Option.{Option, none, some}
use Rattle.std.specs.declared.cmp.Ordering.TheVariants.{Less}
use Rattle.key_order.specs.Order.{Key, cmp, pick, is_prefix_of}
use Rattle.hash_tree.specs.HashTree.{HashTree, digest}
use Rattle.llrb.specs.Tree.{Value, Entry, Tree}
use Rattle.llrb.specs.Map.{Pair, pairs}
use Rattle.llrb.specs.Shape.{height}
use Rattle.llrb.specs.Digests.{root_hash}
use Rattle.witness_trees.specs.Reading.{labels, leaves, Told, says, depth}
use Rattle.witness_trees.specs.Shown.{What, Hide, Label}
use Rattle.witness_trees.specs.Witness.{Form, seen, KeyBound, Exact, Neighbor, at}

-- ---- what a bound is

pub data In : Entry → List Entry → Type 0 where
  here : {e : Entry} {L : List Entry} → In e (e ∷ L)
  there : {e x : Entry} {L : List Entry} → In e L → In e (x ∷ L)

abbrev pub Lt : Key → Key → Type 0
Lt a b = cmp a b ≡ Less

-- a is not above b
abbrev pub Le : Key → Key → Type 0
Le a b = cmp b a ≡ Less → ⊥

-- the greatest key not above k: Exact if equal, else Neighbor
abbrev pub IsLow : Key → List Entry → Option KeyBound → Type 0
IsLow k L none = (x : Entry) → In x L → Lt k x.key
IsLow k L (some (Exact b)) = In b L × (b.key ≡ k)
IsLow k L (some (Neighbor b)) = In b L × Lt b.key k × ((x : Entry) → In x L → Lt b.key x.key → Lt k x.key)

-- the least key not below k: Exact if equal, else Neighbor
abbrev pub IsHigh : Key → List Entry → Option KeyBound → Type 0
IsHigh k L none = (x : Entry) → In x L → Lt x.key k
IsHigh k L (some (Exact b)) = In b L × (b.key ≡ k)
IsHigh k L (some (Neighbor b)) = In b L × Lt k b.key × ((x : Entry) → In x L → Lt x.key b.key → Lt x.key k)

-- above the prefix and not begun by it
abbrev pub passes : Key → Key → Bool
passes p k = pick (cmp p k) (not (is_prefix_of p k)) false false

-- the least key that is above the prefix and does not begin with it
abbrev pub IsPast : Key → List Entry → Option KeyBound → Type 0
IsPast p L none = (x : Entry) → In x L → passes p x.key ≡ false
IsPast p L (some (Exact b)) = ⊥
IsPast p L (some (Neighbor b)) = In b L × (passes p b.key ≡ true) × ((x : Entry) → In x L → Lt x.key b.key → passes p x.key ≡ false)

-- `debug_assert!(lo <= hi)`: where both bounds exist, the low one is not above the high one
abbrev pub InOrder : (low high : Option KeyBound) → Type 0
InOrder none hi = Unit {0}
InOrder (some lo) none = Unit {0}
InOrder (some lo) (some hi) = Le (at lo) (at hi)

-- ---- in the words of document 01, from the list of keys alone (`ks`: the keys of the map, in order)

abbrev pub upto : Key → Key → Bool
upto a b = pick (cmp a b) true true false

abbrev pub below : Key → Key → Bool
below a b = not (upto b a)

abbrev pub none_of : (Key → Bool) → List Key → Bool
none_of g [] = true
none_of g (x ∷ ks) = not (g x) && none_of g ks

-- k is below first, and no key of the map is above k and not above first: first is absent and k is the nearest key below it
abbrev pub next_below : Key → List Key → Key → Bool
next_below first ks k = below k first && none_of (λ x. below k x && upto x first) ks

-- k is above last, and no key of the map is below k and not below last: last is absent and k is the nearest key above it
abbrev pub next_above : Key → List Key → Key → Bool
next_above last ks k = below last k && none_of (λ x. upto last x && below x k) ks

-- k is above the prefix and does not begin with it, and no such key of the map is below k
abbrev pub next_past : Key → List Key → Key → Bool
next_past p ks k = passes p k && none_of (λ x. passes p x && below x k) ks

abbrev pub within : Key → Key → Key → Bool
within first last k = upto first k && upto k last

-- THE LABELS of a range: the keys from first to last, the nearest below if first is absent, the nearest above if last is absent
abbrev pub wanted : Key → Key → List Key → Key → Bool
wanted first last ks k = within first last k || (next_below first ks k || next_above last ks k)

-- THE LABELS of a prefix: the keys that begin with it, the nearest below if the prefix is no key, the next past it
abbrev pub wanted_prefix : Key → List Key → Key → Bool
wanted_prefix p ks k = is_prefix_of p k || (next_below p ks k || next_past p ks k)

-- what a range shows of an entry: within, the value too if asked for; a neighbour only its key
abbrev pub range_rule : Key → Key → List Key → Form → Entry → What
range_rule first last ks w e = cond (within first last e.key) (seen w) (cond (wanted first last ks e.key) Label Hide)

abbrev pub prefix_rule : Key → List Key → Entry → What
prefix_rule p ks e = cond (wanted_prefix p ks e.key) Label Hide

-- ---- request Q-7: first above last, and the found bounds not crossed

-- both bounds exist, and the low one is above the high one
abbrev pub crossed : (low high : Option KeyBound) → Bool
crossed none hi = false
crossed (some lo) none = false
crossed (some lo) (some hi) = below (at hi) (at lo)

abbrev pub same : Key → Key → Bool
same a b = pick (cmp a b) false true false

-- k is first or last
abbrev pub an_end : (first last : Key) → Key → Bool
an_end first last k = same first k || same k last

-- THE LABELS of such a range: the greatest key not above first (first itself, or the nearest below it) and the least key not below last
abbrev pub wanted_reversed : Key → Key → List Key → Key → Bool
wanted_reversed first last ks k = an_end first last k || (next_below first ks k || next_above last ks k)

-- what it shows of an entry: of first and last themselves the value too if asked for, of a neighbour only its key
abbrev pub reversed_rule : Key → Key → List Key → Form → Entry → What
reversed_rule first last ks w e = cond (an_end first last e.key) (seen w) (cond (wanted_reversed first last ks e.key) Label Hide)

-- ---- of a map: its keys, the values of the keys that pass, each label with the value beside it where that is shown

abbrev pub keys_in : List Pair → List Key
keys_in [] = []
keys_in (p ∷ P) = p.key ∷ keys_in P

abbrev pub keys_of : List Entry → List Key
keys_of L = keys_in (pairs L)

abbrev pub filter : (Key → Bool) → List Key → List Key
filter g [] = []
filter g (k ∷ ks) = cond (g k) (k ∷ filter g ks) (filter g ks)

abbrev pub values_in : (Key → Bool) → List Pair → List Value
values_in g [] = []
values_in g (p ∷ P) = cond (g p.key) (p.value ∷ values_in g P) (values_in g P)

abbrev pub tells : (Key → Bool) → (Key → Bool) → List Pair → List Told
tells label value [] = []
tells label value (p ∷ P) =
    cond (label p.key) (record { key = p.key; value = cond (value p.key) (some p.value) none } ∷ tells label value P) (tells label value P)

-- ---- THE LAW OF A WITNESS: u is of the tree t, which holds the map; it labels exactly the keys of the one test and shows
-- exactly the values of the other

pub record Witness (t : Tree) (map : List Pair) (label value : Key → Bool) (u : HashTree) : Type 0 where
  pub rebuilds : digest u ≡ root_hash t
  pub labelled : labels u ≡ filter label (keys_in map)
  pub valued : leaves u ≡ values_in value map
  pub told : says u ≡ tells label value map
  pub low : depth u ≤ 2 * height t + 2

-- tests that all keys pass, and that none does
abbrev pub every : Key → Bool
every k = true

abbrev pub nothing : Key → Bool
nothing k = false
