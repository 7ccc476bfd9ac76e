-- THE FORGED FILE of docs/WITNESS.md, examples/forged.witness, which rebuilds to the root digest of the sample release and hides 00c.BAUD
-- between 008.CTRL and 014.IRQ_ENABLE: what lookup reads in its bytes, computed. (That it rebuilds is run, by the tool; SHA-256 is not
-- computed here.)
use Prim.Native.Nat.{ℕ}
use mathlib.Core.Path.{◌≡◌, refl}
use mathlib.Core.List.{List, [], ◌∷◌}
use Rattle.key_order.specs.Order.{cmp}
use Rattle.hash_tree.specs.Record.{record_of, least, most}
use Rattle.hash_tree.specs.Parse.{parse}
use Rattle.lookup.specs.declared.Looked.TheVariants.{Found, Absent, Unknown}
use Rattle.lookup.specs.Answer.{lookup_in, lookup_answer, answered}

-- the file's bytes
unfoldable pub forged : List ℕ
forged =
    32 ∷ 0 ∷ 32 ∷ 0 ∷ 32 ∷ 0 ∷ 128 ∷ 32 ∷ 54 ∷ 19 ∷ 37 ∷ 214 ∷ 36 ∷ 178 ∷ 46 ∷ 247 ∷ 189 ∷ 255 ∷ 252 ∷ 25
    ∷ 60 ∷ 224 ∷ 48 ∷ 86 ∷ 231 ∷ 27 ∷ 161 ∷ 37 ∷ 91 ∷ 10 ∷ 182 ∷ 204 ∷ 8 ∷ 85 ∷ 180 ∷ 40 ∷ 77 ∷ 195 ∷ 50 ∷ 158
    ∷ 32 ∷ 0 ∷ 64 ∷ 10 ∷ 48 ∷ 48 ∷ 52 ∷ 46 ∷ 83 ∷ 84 ∷ 65 ∷ 84 ∷ 85 ∷ 83 ∷ 96 ∷ 8 ∷ 0 ∷ 4 ∷ 32 ∷ 1
    ∷ 0 ∷ 0 ∷ 0 ∷ 144 ∷ 64 ∷ 8 ∷ 48 ∷ 48 ∷ 56 ∷ 46 ∷ 67 ∷ 84 ∷ 82 ∷ 76 ∷ 96 ∷ 8 ∷ 0 ∷ 8 ∷ 32 ∷ 3
    ∷ 0 ∷ 0 ∷ 0 ∷ 0 ∷ 32 ∷ 0 ∷ 128 ∷ 32 ∷ 116 ∷ 61 ∷ 215 ∷ 135 ∷ 225 ∷ 204 ∷ 13 ∷ 39 ∷ 130 ∷ 178 ∷ 188 ∷ 146
    ∷ 75 ∷ 248 ∷ 117 ∷ 86 ∷ 202 ∷ 40 ∷ 55 ∷ 158 ∷ 185 ∷ 168 ∷ 141 ∷ 71 ∷ 42 ∷ 78 ∷ 6 ∷ 29 ∷ 98 ∷ 11 ∷ 195 ∷ 8
    ∷ 32 ∷ 0 ∷ 64 ∷ 14 ∷ 48 ∷ 49 ∷ 52 ∷ 46 ∷ 73 ∷ 82 ∷ 81 ∷ 95 ∷ 69 ∷ 78 ∷ 65 ∷ 66 ∷ 76 ∷ 69 ∷ 96 ∷ 8
    ∷ 0 ∷ 20 ∷ 8 ∷ 3 ∷ 0 ∷ 0 ∷ 0 ∷ 0 ∷ 32 ∷ 0 ∷ 64 ∷ 14 ∷ 48 ∷ 49 ∷ 56 ∷ 46 ∷ 73 ∷ 82 ∷ 81 ∷ 95
    ∷ 83 ∷ 84 ∷ 65 ∷ 84 ∷ 85 ∷ 83 ∷ 96 ∷ 8 ∷ 0 ∷ 24 ∷ 8 ∷ 7 ∷ 0 ∷ 0 ∷ 0 ∷ 0 ∷ 128 ∷ 32 ∷ 16 ∷ 235
    ∷ 184 ∷ 232 ∷ 69 ∷ 220 ∷ 200 ∷ 38 ∷ 142 ∷ 238 ∷ 93 ∷ 4 ∷ 148 ∷ 78 ∷ 87 ∷ 118 ∷ 201 ∷ 145 ∷ 207 ∷ 138 ∷ 27 ∷ 212
    ∷ 90 ∷ 111 ∷ 32 ∷ 230 ∷ 232 ∷ 0 ∷ 120 ∷ 184 ∷ 184 ∷ 233 ∷ 128 ∷ 32 ∷ 217 ∷ 98 ∷ 236 ∷ 28 ∷ 173 ∷ 217 ∷ 8 ∷ 103
    ∷ 63 ∷ 171 ∷ 86 ∷ 238 ∷ 42 ∷ 46 ∷ 235 ∷ 248 ∷ 85 ∷ 191 ∷ 213 ∷ 87 ∷ 128 ∷ 252 ∷ 233 ∷ 38 ∷ 148 ∷ 42 ∷ 187 ∷ 15
    ∷ 134 ∷ 237 ∷ 239 ∷ 27
    ∷ []

-- of 00c.BAUD, which it hides, it says nothing
pub forged-hides : lookup_answer (48 ∷ 48 ∷ 99 ∷ 46 ∷ 66 ∷ 65 ∷ 85 ∷ 68 ∷ []) forged ≡ answered Unknown
unfolding forged lookup_answer lookup_in parse record_of least most cmp
forged-hides = refl

-- 008.CTRL is there, and its child is the Leaf at 74
pub forged-shows : lookup_answer (48 ∷ 48 ∷ 56 ∷ 46 ∷ 67 ∷ 84 ∷ 82 ∷ 76 ∷ []) forged ≡ answered (Found 74 10)
unfolding forged lookup_answer lookup_in parse record_of least most cmp
forged-shows = refl

-- between 014.IRQ_ENABLE and 018.IRQ_STATUS nothing is hidden
pub forged-between : lookup_answer (48 ∷ 49 ∷ 54 ∷ []) forged ≡ answered Absent
unfolding forged lookup_answer lookup_in parse record_of least most cmp
forged-between = refl
