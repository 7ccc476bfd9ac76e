-- THE DIFFERENCE OF TWO MAPS (document 02, Q-3): only in the old, only in the new, or in both with another value; in key order, with no word
-- about trees, shapes or digests.
use Rattle.std.specs.Prelude.{◌≡◌, Bool, cond, ◌⊎◌, List, [], ◌∷◌}
use Rattle.std.proofs.Math.Option.{Option, none, some}
use Rattle.std.specs.declared.cmp.Ordering.TheVariants.{Less}
use Rattle.key_order.specs.Order.{Key, cmp, pick, is_same}
use Rattle.llrb.specs.Tree.{Value}
use Rattle.llrb.specs.Map.{PairOf, Pair, find}

-- only in the old, only in the new, in both with another value
pub data Change : Type 0 where
  Gone : Change
  New : Change
  Other : Change

-- a key with its change
abbrev pub Line : Type 0
Line = PairOf Change

abbrev pub line : Change → Key → Line
line c k = record { key = k; value = c }

-- another value is one of another length or with other bytes
abbrev pub same_value : Value → Value → Bool
same_value v w = is_same v w

-- what the values of one key in the two maps say
abbrev pub changed : (old new : Option Value) → Option Change
changed none none = none
changed (some v) none = some Gone
changed none (some w) = some New
changed (some v) (some w) = cond (same_value v w) none (some Other)

-- ---- both maps walked together

-- nothing is left of the old map
unfoldable pub added : (new : List Pair) → List Line
added [] = []
added (q ∷ new) = line New q.key ∷ added new

-- one key in both maps, and the lines after it
abbrev pub with_both : (p q : Pair) → List Line → List Line
with_both p q L = cond (same_value p.value q.value) L (line Other p.key ∷ L)

-- p is the first of the old map; rest is what the others of the old map give with a new map
unfoldable pub against : Pair → (rest : List Pair → List Line) → (new : List Pair) → List Line
against p rest [] = line Gone p.key ∷ rest []
against p rest (q ∷ new) =
    pick (cmp p.key q.key)
    (line Gone p.key ∷ rest (q ∷ new))
    (with_both p q (rest new))
    (line New q.key ∷ against p rest new)

unfoldable pub difference : (old new : List Pair) → List Line
unfolding added against
difference [] new = added new
difference (p ∷ old) new = against p (λ L. difference old L) new

-- ---- what is promised of it

module _ {Val : Type 0} where
  -- P of every key
  abbrev pub EachKey : (Key → Type 0) → List (PairOf Val) → Type 0
  EachKey P [] = Unit {0}
  EachKey P (p ∷ L) = P p.key × EachKey P L

  -- every key is above k
  abbrev pub Over : Key → List (PairOf Val) → Type 0
  Over k = EachKey (λ (j : Key). cmp k j ≡ Less)

  -- the keys rise strictly: in key order, each once
  abbrev pub Rising : List (PairOf Val) → Type 0
  Rising [] = Unit {0}
  Rising (p ∷ L) = Over p.key L × Rising L

  abbrev pub In : PairOf Val → List (PairOf Val) → Type 0
  In x [] = ⊥
  In x (p ∷ L) = (x ≡ p) ⊎ In x L

-- The lines are exactly the differing keys, each once, in key order.
pub record Difference (old new : List Pair) (L : List Line) : Type 0 where
  pub rising : Rising L
  pub listed : (k : Key) (c : Change) → changed (find k old) (find k new) ≡ some c → In (line c k) L
  pub only : (k : Key) (c : Change) → In (line c k) L → changed (find k old) (find k new) ≡ some c
