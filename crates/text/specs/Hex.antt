-- Names and values as a person writes them, decimal numbers, and what can be printed as it is.
use Rattle.std.specs.Prelude.{Bool, true, cond, not, ◌&&◌, List, [], ◌∷◌, ℕ, zero, suc, ◌+◌, ◌*◌, ◌-◌, ◌%◌, ◌^◌, ltb, leb, eqb, length, get_or, take, drop, set, Option, Some, None, option_map, option_and_then}
use Rattle.text.specs.Words.{part_of, same_bytes}
use Rattle.text.specs.declared.hex.Few.{Few}

-- from the first to the last of a row of letters
abbrev pub between : ℕ → ℕ → ℕ → Bool
between first last b = leb first b && leb b last

-- what a hex digit stands for: 0 to 9, a to f, A to F
unfoldable pub digit_of : ℕ → Option ℕ
digit_of b =
    cond (between 48 57 b) (Some (b - 48)) (cond (between 97 102 b) (Some (b - 97 + 10)) (cond (between 65 70 b) (Some (b - 65 + 10)) None))

-- f of both, where both are there
abbrev pub of_both : {A B C : Type 0} → (A → B → C) → Option A → Option B → Option C
of_both f (Some a) (Some b) = Some (f a b)
of_both f (Some a) None = None
of_both f None y = None

-- the byte of two digits
unfoldable pub joined_of : ℕ → ℕ → Option ℕ
joined_of high low = of_both (λ h l. h * 16 + l) (digit_of high) (digit_of low)

-- ---- a few bytes

-- the first n of them, with zeros after them to make n
unfoldable pub padded : ℕ → List ℕ → List ℕ
padded zero xs = []
padded (suc n) [] = 0 ∷ padded n []
padded (suc n) (x ∷ xs) = x ∷ padded n xs

unfoldable pub few_of : List ℕ → Few
few_of xs = record { len = length (take 65 xs); bytes = padded 65 xs }

-- one byte more, if there is room for it
unfoldable pub with_byte : Few → ℕ → Few
with_byte few b =
    cond (ltb few.len 65) (record { len = few.len + 1; bytes = set few.bytes few.len b }) few

-- the bytes that pairs of hex digits stand for, where there is nothing else
unfoldable pub joined_all : List ℕ → Option (List ℕ)
joined_all [] = Some []
joined_all (a ∷ []) = None
joined_all (a ∷ b ∷ word) = of_both (λ x xs. x ∷ xs) (joined_of a b) (joined_all word)

unfoldable pub pairs_of : List ℕ → Option Few
pairs_of word = option_map few_of (joined_all word)

-- ---- values and names

-- hex, or `-` for no byte
unfoldable pub value_of : List ℕ → Option Few
value_of word =
    cond (same_bytes word (45 ∷ [])) (Some (few_of [])) (cond (eqb (length word) 0) None (pairs_of word))

-- the word begins with `hex:`
unfoldable pub says_hex : List ℕ → Bool
says_hex word = same_bytes (part_of word 0 4) (104 ∷ 101 ∷ 120 ∷ 58 ∷ [])

-- as it is, or `hex:` and hex
unfoldable pub name_of : List ℕ → Option Few
name_of word =
    cond (says_hex word) (pairs_of (drop 4 word)) (cond (eqb (length word) 0) None (Some (few_of word)))

-- ---- numbers

-- the number with one decimal digit more, if it is a digit and the number needs no more than 64 bits
unfoldable pub appended_to : ℕ → ℕ → Option ℕ
appended_to n b =
    cond (between 48 57 b && ltb (n * 10 + (b - 48)) (2 ^ 64)) (Some (n * 10 + (b - 48))) None

-- the number n with the digits after it
unfoldable pub number_from : ℕ → List ℕ → Option ℕ
number_from n [] = Some n
number_from n (b ∷ word) = option_and_then (λ m. number_from m word) (appended_to n b)

-- at least one digit
unfoldable pub decimal_of : List ℕ → Option ℕ
decimal_of [] = None
decimal_of (b ∷ word) = number_from 0 (b ∷ word)

-- ---- printing

-- the digit for a number below 16
unfoldable pub glyph_of : ℕ → ℕ
glyph_of n = cond (ltb n 10) (48 + n) (97 + (n - 10) % 16)

-- no blank, and nothing that a screen does not show
unfoldable pub all_printable : List ℕ → Bool
all_printable [] = true
all_printable (b ∷ word) = between 33 126 b && all_printable word

-- a name that stands for itself: it has bytes, begins neither with `#` nor with `hex:`, and can be printed
unfoldable pub is_plain : List ℕ → Bool
is_plain s = not (eqb (length s) 0) && not (eqb (get_or s 0 0) 35) && not (says_hex s) && all_printable s
