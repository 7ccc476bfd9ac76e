-- Runs of bits, most significant first (document 01, "Store layout"): a number seen as fields of given widths.
use Rattle.std.specs.Prelude.{Bool, true, false, List, [], ◌∷◌, ℕ, ◌+◌, ◌*◌, ◌/◌, ◌%◌, ◌^◌, ◌<◌, eqb, get_or, replicate}

-- the bits that fields of the widths ws take together
abbrev pub total : List ℕ → ℕ
total [] = 0
total (w ∷ ws) = w + total ws

-- the number whose fields are vs
unfoldable pub joined : (ws vs : List ℕ) → ℕ
joined [] vs = 0
joined (w ∷ ws) [] = 0
joined (w ∷ ws) (v ∷ vs) = v * 2 ^ total ws + joined ws vs

-- the fields of the number h
unfoldable pub fields : (ws : List ℕ) → ℕ → List ℕ
fields [] h = []
fields (w ∷ ws) h = h / 2 ^ total ws % 2 ^ w ∷ fields ws h

-- the same bits, cut by the widths us in place of ws
unfoldable pub recut : (ws us : List ℕ) → List ℕ → List ℕ
recut ws us vs = fields us (joined ws vs)

-- the values vs fit into fields of the widths ws, one each
abbrev pub Fit : (ws vs : List ℕ) → Type 0
Fit [] [] = Unit {0}
Fit [] (v ∷ vs) = ⊥
Fit (w ∷ ws) [] = ⊥
Fit (w ∷ ws) (v ∷ vs) = (v < 2 ^ w) × Fit ws vs

-- n bytes, as widths
abbrev pub octets : ℕ → List ℕ
octets n = replicate n 8

-- all are bytes
abbrev pub Bytes : List ℕ → Type 0
Bytes s = (k : ℕ) → get_or s k 0 < 256

-- one bit as a number, and a number as one bit
abbrev pub bit : Bool → ℕ
bit true = 1
bit false = 0

abbrev pub flag : ℕ → Bool
flag n = eqb n 1
