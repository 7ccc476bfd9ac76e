-- Parts of a text, and the words of a line: parted by zero bytes, which stand for blanks.
use Rattle.std.specs.Prelude.{Bool, true, false, cond, ◌||◌, List, [], ◌∷◌, ◌++◌, map, ℕ, zero, suc, ◌+◌, ◌-◌, leb, eqb, length, get_or, take, drop, Option, Some, None}
use Rattle.key_order.specs.Order.{cmp, pick}

-- ---- parts

-- n, where s has that many bytes
abbrev pub within_of : ℕ → List ℕ → ℕ
within_of n s = cond (leb n (length s)) n 0

-- the bytes from one place up to another; none, where they are not all there
abbrev pub part_of : List ℕ → ℕ → ℕ → List ℕ
part_of s from to = cond (leb to (length s)) (take (to - from) (drop from s)) []

-- so many bytes from a place on; none, where they are not all there
abbrev pub piece_of : List ℕ → ℕ → ℕ → List ℕ
piece_of s from len = cond (leb (from + len) (length s)) (take len (drop from s)) []

abbrev pub same_bytes : List ℕ → List ℕ → Bool
same_bytes a b = pick (cmp a b) false true false

-- ---- blanks

-- a zero for space, tab and carriage return
abbrev pub unblank_of : ℕ → ℕ
unblank_of b = cond (eqb b 32 || eqb b 9 || eqb b 13) 0 b

abbrev pub blanked_of : List ℕ → List ℕ
blanked_of s = map unblank_of s

-- ---- places

-- how many zeros stand in front
unfoldable pub zeros_before : List ℕ → ℕ
zeros_before [] = 0
zeros_before (x ∷ xs) = cond (eqb x 0) (suc (zeros_before xs)) 0

-- one more than n, or 0 where a search is at its end
unfoldable pub index_after : Bool → ℕ → ℕ
index_after true n = 0
index_after false n = suc n

-- how many bytes stand in front of the first b; all of them, where there is none
unfoldable pub index_of : ℕ → List ℕ → ℕ
index_of b [] = 0
index_of b (x ∷ xs) = index_after (eqb x b) (index_of b xs)

-- the first place from one on where b stands, or the end
abbrev pub place_of : List ℕ → ℕ → ℕ → ℕ
place_of s from b = from + index_of b (drop from s)

-- the first place from one on where no zero stands, or the end
abbrev pub skip_of : List ℕ → ℕ → ℕ
skip_of s from = from + zeros_before (drop from s)

-- ---- words, counted from 0

-- a word in front of others, if it has bytes
abbrev pub closed : List ℕ → List (List ℕ) → List (List ℕ)
closed [] ws = ws
closed (a ∷ w) ws = (a ∷ w) ∷ ws

-- the words of a line, w the bytes of its first word that came before
unfoldable pub words_from : List ℕ → List ℕ → List (List ℕ)
words_from w [] = closed w []
words_from w (x ∷ xs) = cond (eqb x 0) (closed w (words_from [] xs)) (words_from (w ++ (x ∷ [])) xs)

abbrev pub words_of : List ℕ → List (List ℕ)
words_of line = words_from [] line

-- word k; no bytes, if there are fewer
abbrev pub word_of : List ℕ → ℕ → List ℕ
word_of line k = get_or (words_of line) k []

-- there are exactly n words
abbrev pub has_words : List ℕ → ℕ → Bool
has_words line n = eqb (length (words_of line)) n

-- where word k begins, or the end
unfoldable pub start_of : List ℕ → ℕ → ℕ
start_of line zero = skip_of line 0
start_of line (suc k) = skip_of line (place_of line (start_of line k) 0)

-- the line from word k on
abbrev pub rest_of : List ℕ → ℕ → List ℕ
rest_of line k = drop (start_of line k) line

-- the first of n words from word i on that is the name
unfoldable pub index_from : List ℕ → List ℕ → ℕ → ℕ → Option ℕ
index_from table name i zero = None
index_from table name i (suc n) = cond (same_bytes (word_of table i) name) (Some i) (index_from table name (suc i) n)

-- which of the first `count` words is the name
abbrev pub index_in : List ℕ → List ℕ → ℕ → Option ℕ
index_in table name count = index_from table name 0 count
