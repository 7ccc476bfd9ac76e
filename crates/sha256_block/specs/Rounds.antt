-- FIPS 180-4, section 6.2.2: the message schedule and the sixty-four rounds, on one block.
use Rattle.std.specs.Prelude.{ℕ, zero, suc, ◌-◌, ◌*◌, List, [], ◌∷◌, ◌++◌, length, slice_index}
use Rattle.sha256_words.specs.Words.{ADD, Ch, Maj, Σ₀, Σ₁, σ₀, σ₁, word_at}
use Rattle.sha256_words.specs.Constants.{K}
use Rattle.sha256_block.specs.declared.Eight.{Eight}

-- Eight, which the code declares, has eight words, a to h: the working variables, and a hash value.

-- step 3: the two sums
unfoldable pub T₁ : ℕ → ℕ → Eight → ℕ
T₁ k w s = ADD (ADD (ADD (ADD s.h (Σ₁ s.e)) (Ch s.e s.f s.g)) k) w

unfoldable pub T₂ : Eight → ℕ
T₂ s = ADD (Σ₀ s.a) (Maj s.a s.b s.c)

-- step 3: one round, at the constant k and the schedule's word w
unfoldable pub Round : ℕ → ℕ → Eight → Eight
Round k w s =
    record { a = ADD (T₁ k w s) (T₂ s); b = s.a; c = s.b; d = s.c; e = ADD s.d (T₁ k w s); f = s.e; g = s.f; h = s.g }

-- the first t rounds
unfoldable pub Rounds : ℕ → List ℕ → Eight → Eight
Rounds zero w s = s
Rounds (suc t) w s = Round (slice_index K t) (slice_index w t) (Rounds t w s)

-- section 5.2.1: the first n words of a block of bytes
unfoldable pub block_words : ℕ → List ℕ → List ℕ
block_words zero bs = []
block_words (suc n) bs = block_words n bs ++ (word_at bs (4 * n) ∷ [])

-- step 1: the schedule's word after the words w, W_t for t = length w
unfoldable pub next : List ℕ → ℕ
next w =
    ADD (ADD (ADD (σ₁ (slice_index w (length w - 2))) (slice_index w (length w - 7))) (σ₀ (slice_index w (length w - 15))))
    (slice_index w (length w - 16))

-- the words m, and n words after them
unfoldable pub schedule : ℕ → List ℕ → List ℕ
schedule zero m = m
schedule (suc n) m = schedule n m ++ (next (schedule n m) ∷ [])

-- step 4: the sum, word by word
unfoldable pub plus : Eight → Eight → Eight
plus s t =
    record { a = ADD s.a t.a; b = ADD s.b t.b; c = ADD s.c t.c; d = ADD s.d t.d; e = ADD s.e t.e; f = ADD s.f t.f; g = ADD s.g t.g; h = ADD s.h t.h }

-- the hash value after a block, from the one before it
unfoldable pub Compress : Eight → List ℕ → Eight
Compress s block = plus s (Rounds 64 (schedule 48 (block_words 16 block)) s)
