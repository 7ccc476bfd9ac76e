-- THE CALL `difference` of document 02 (Q-3): two stores in, one list out. The list on maps is crate llrb's; here are its bytes and the call.
use Rattle.std.specs.Prelude.{◌≡◌, List, [], ◌∷◌, ◌++◌, ℕ, ◌+◌, ◌*◌, ◌≤◌, length, drop}
use Rattle.std.proofs.Math.Option.{some}
use Rattle.key_order.specs.Order.{Key}
use Rattle.answers.specs.Answers.{fitted}
use Rattle.llrb.specs.Tree.{entries}
use Rattle.llrb.specs.Map.{PairOf, Pair, pairs}
use Rattle.llrb.specs.Difference.{Change, Gone, New, Other, Line, line, changed, difference, EachKey, Rising, In}
use Rattle.store.specs.Numbers.{NotSound, refused, done}
use Rattle.store.specs.Model.{Model}
use Rattle.store.specs.Decide.{on_sound}
use Rattle.store.specs.Answers.{Written, written}
use Rattle.store.specs.History.{Edit, last_value}

-- ---- a list of lines as bytes

abbrev pub kind_of : Change → ℕ
kind_of Gone = 1
kind_of New = 2
kind_of Other = 3

-- 2 bits of kind, 6 bits of key length, then the key
abbrev pub line_bytes : Line → List ℕ
line_bytes l = (kind_of l.value * 64 + length l.key) ∷ l.key

unfoldable pub lines_bytes : List Line → List ℕ
lines_bytes [] = []
lines_bytes (l ∷ L) = line_bytes l ++ lines_bytes L

-- ---- the call

-- the map that a model holds
abbrev pub map_in : Model → List Pair
map_in m = pairs (entries m.tree)

-- 1 if the old store is not sound, 1 if the new one is not, 6 if the output is too short
unfoldable pub difference_answer : (old new out : List ℕ) → Written
difference_answer old new out =
    written out
    (fitted out
    (on_sound old (λ m.
    on_sound new (λ n.
    done (lines_bytes (difference (map_in m) (map_in n)))) (refused NotSound)) (refused NotSound)))

-- ---- what is promised of the bytes

-- every key has at most 48 bytes
abbrev pub ShortKeys : {Val : Type 0} → List (PairOf Val) → Type 0
ShortKeys = EachKey (λ k. length k ≤ 48)

-- After two histories, the accepted calls being these: the lines of the keys whose last values differ stand at the front of the output,
-- in key order, each once, and the rest of the output stays.
pub record LastDiffer (old new : List Edit) (out : List ℕ) (w : Written) : Type 0 where
  pub lines : List Line
  pub rising : Rising lines
  pub listed : (k : Key) (c : Change) → changed (last_value k old) (last_value k new) ≡ some c → In (line c k) lines
  pub only : (k : Key) (c : Change) → In (line c k) lines → changed (last_value k old) (last_value k new) ≡ some c
  pub answer : w ≡ record { number = 0; size = length (lines_bytes lines); output = lines_bytes lines ++ drop (length (lines_bytes lines)) out }
