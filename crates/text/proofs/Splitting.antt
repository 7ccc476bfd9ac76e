-- The words of a line, found one after the other, are the words that it is split into.
use mathlib.Core.Path.{◌≡◌, refl, sym, ap, ap₂, ◌∙◌}
use mathlib.Core.Bool.{Bool, true, false, cond}
use mathlib.Core.List.{List, [], ◌∷◌, ◌++◌, append-nil, append_assoc}
use Prim.Native.Nat.{ℕ, zero, suc, ◌-◌, ◌≤◌, ◌<◌}
use native.Mathlib.Nat.{zero-add, add-zero}
use native.Mathlib.Numerals.{add-one}
use native.Mathlib.Omega.{arith}
use lib.Dec.{eqb}
use lib.ListN.{length, get_or, take, drop, length-drop}
use lib.Seq.{drop-drop, get_or-drop}
use Rattle.text.specs.Words.{closed, words_from, words_of, zeros_before, index_of, index_after, place_of, start_of, rest_of}

-- ---- zeros in front

zeros-fit : (xs : List ℕ) → zeros_before xs ≤ length xs
unfolding zeros_before
zeros-fit [] = omega arith
zeros-fit (x ∷ xs) = at (eqb x 0) (zeros-fit xs)
  where
    at : (b : Bool) → zeros_before xs ≤ length xs → cond b (suc (zeros_before xs)) 0 ≤ suc (length xs)
    at true h = omega arith
    at false h = omega arith

no-more-zeros : (xs : List ℕ) → zeros_before (drop (zeros_before xs) xs) ≡ 0
unfolding zeros_before
no-more-zeros [] = refl
no-more-zeros (x ∷ xs) = at (eqb x 0) refl (no-more-zeros xs)
  where
    at : (b : Bool) → eqb x 0 ≡ b → zeros_before (drop (zeros_before xs) xs) ≡ 0 → zeros_before (drop (cond b (suc (zeros_before xs)) 0) (x ∷ xs)) ≡ 0
    at true q h = h
    at false q h = unfold zeros_before in rw q refl

past-zeros : (xs : List ℕ) → words_from [] (drop (zeros_before xs) xs) ≡ words_from [] xs
unfolding zeros_before words_from
past-zeros [] = refl
past-zeros (x ∷ xs) = at (eqb x 0) refl (past-zeros xs)
  where
    at : (b : Bool) → eqb x 0 ≡ b → words_from [] (drop (zeros_before xs) xs) ≡ words_from [] xs → words_from [] (drop (cond b (suc (zeros_before xs)) 0) (x ∷ xs)) ≡ words_from [] (x ∷ xs)
    at true q h = h ∙ (unfold words_from in sym (rw q refl))
    at false q h = refl

-- ---- one word

index-fits : (xs : List ℕ) → index_of 0 xs ≤ length xs
unfolding index_of index_after
index-fits [] = omega arith
index-fits (x ∷ xs) = at (eqb x 0) (index-fits xs)
  where
    at : (b : Bool) → index_of 0 xs ≤ length xs → index_after b (index_of 0 xs) ≤ suc (length xs)
    at true h = unfold index_after in omega arith
    at false h = unfold index_after in omega arith

word_first : (w xs : List ℕ) → words_from w xs ≡ closed (w ++ take (index_of 0 xs) xs) (words_from [] (drop (index_of 0 xs) xs))
unfolding words_from index_of index_after
word_first w [] = ap (λ (v : List ℕ). closed v []) (sym (append-nil w))
word_first w (x ∷ xs) = at (eqb x 0) refl (word_first (w ++ (x ∷ [])) xs)
  where
    at : (b : Bool) → eqb x 0 ≡ b
        → words_from (w ++ (x ∷ [])) xs ≡ closed ((w ++ (x ∷ [])) ++ take (index_of 0 xs) xs) (words_from [] (drop (index_of 0 xs) xs))
        → cond b (closed w (words_from [] xs)) (words_from (w ++ (x ∷ [])) xs) ≡ closed (w ++ take (index_after b (index_of 0 xs)) (x ∷ xs)) (words_from [] (drop (index_after b (index_of 0 xs)) (x ∷ xs)))
    at true q h = unfold words_from index_after in ap₂ closed (sym (append-nil w)) (sym (rw q refl))
    at false q h = unfold index_after in h ∙ ap (λ (v : List ℕ). closed v (words_from [] (drop (index_of 0 xs) xs))) (append_assoc w (x ∷ []) (take (index_of 0 xs) xs))

-- what follows the first word
abbrev after : List ℕ → List ℕ
after xs = drop (index_of 0 xs) xs

-- what does not begin with a zero is nothing, or a word and what follows
record Cut (xs : List ℕ) : Type 0 where
  tail : words_from [] (after xs) ≡ drop 1 (words_from [] xs)
  head : take (index_of 0 xs) xs ≡ get_or (words_from [] xs) 0 []
  none : length xs ≡ 0 → length (words_from [] xs) ≡ 0
  some : (length xs ≡ 0 → ⊥) → length (words_from [] xs) ≡ 0 → ⊥

cut : (xs : List ℕ) → zeros_before xs ≡ 0 → Cut xs
unfolding zeros_before index_of index_after words_from
cut [] z = record { tail = refl; head = refl; none = λ e. refl; some = λ h e. h refl }
cut (x ∷ xs) z = at (eqb x 0) refl (word_first [] (x ∷ xs))
  where
    at : (b : Bool) → eqb x 0 ≡ b → words_from [] (x ∷ xs) ≡ closed ([] ++ take (index_of 0 (x ∷ xs)) (x ∷ xs)) (words_from [] (after (x ∷ xs))) → Cut (x ∷ xs)
    at true q h = let y : zeros_before (x ∷ xs) ≡ suc (zeros_before xs) = (unfold zeros_before in rw q refl) in absurd (omega (arith, y, z))
    at false q h =
        let i : index_of 0 (x ∷ xs) ≡ suc (index_of 0 xs) = (unfold index_of index_after in rw q refl) in
        let g : words_from [] (x ∷ xs) ≡ take (index_of 0 (x ∷ xs)) (x ∷ xs) ∷ words_from [] (after (x ∷ xs)) = h ∙ rw i refl in
        record {
          tail = sym (ap (drop 1) g);
          head = sym (ap (λ (ws : List (List ℕ)). get_or ws 0 []) g);
          none = λ e. absurd (omega (arith, e));
          some = λ _ e. let l = ap length g in omega (arith, l, e);
        }

-- ---- word after word

module _ (line : List ℕ) where
  rest-first : rest_of line 0 ≡ drop (zeros_before line) line
  unfolding start_of
  rest-first = ap (λ (n : ℕ). drop n line) (zero-add (zeros_before line))

  rest-next : (k : ℕ) → rest_of line (suc k) ≡ drop (zeros_before (after (rest_of line k))) (after (rest_of line k))
  unfolding start_of
  rest-next k =
      let a = start_of line k in
      let d : after (rest_of line k) ≡ drop (place_of line a 0) line = drop-drop (index_of 0 (drop a line)) a line in
      sym (ap (λ (l : List ℕ). drop (zeros_before l) l) d ∙ drop-drop (zeros_before (drop (place_of line a 0) line)) (place_of line a 0) line)

  rest-word : (k : ℕ) → zeros_before (rest_of line k) ≡ 0
  rest-word zero = ap zeros_before rest-first ∙ no-more-zeros line
  rest-word (suc k) = ap zeros_before (rest-next k) ∙ no-more-zeros (after (rest_of line k))

  rest-words : (k : ℕ) → words_of (rest_of line k) ≡ drop k (words_of line)
  rest-words zero = ap words_of rest-first ∙ past-zeros line
  rest-words (suc k) =
      ap words_of (rest-next k) ∙ past-zeros (after (rest_of line k)) ∙ (cut (rest_of line k) (rest-word k)).tail ∙ ap (drop 1) (rest-words k)
      ∙ drop-drop 1 k (words_of line)
      ∙ ap (λ (n : ℕ). drop n (words_of line)) (add-one k)

  start_fits : (k : ℕ) → start_of line k ≤ length line
  unfolding start_of
  start_fits zero = omega (arith, zeros-fit line)
  start_fits (suc k) =
      let a = start_of line k in
      let l = start_fits k in
      let p = place_of line a 0 in
      omega (arith, l, index-fits (drop a line), length-drop a line, zeros-fit (drop p line), length-drop p line)

  -- word k of the list is what stands up to the next zero
  pub word_split : (k : ℕ) → take (index_of 0 (rest_of line k)) (rest_of line k) ≡ get_or (words_of line) k []
  word_split k =
      (cut (rest_of line k) (rest-word k)).head ∙ ap (λ (ws : List (List ℕ)). get_or ws 0 []) (rest-words k) ∙ get_or-drop k (words_of line) 0 []
      ∙ ap (λ (n : ℕ). get_or (words_of line) n []) (add-zero k)

  left-words : (k : ℕ) → length (words_of (rest_of line k)) ≡ length (words_of line) - k
  left-words k = ap length (rest-words k) ∙ length-drop k (words_of line)

  -- the end is reached when there are no more words
  pub ends_by : (k : ℕ) → start_of line k ≡ length line → length (words_of line) ≤ k
  ends_by k e =
      let z : length (rest_of line k) ≡ 0 = omega (arith, length-drop (start_of line k) line) in
      omega (arith, left-words k, (cut (rest_of line k) (rest-word k)).none z)

  pub goes_on : (k : ℕ) → (start_of line k ≡ length line → ⊥) → k < length (words_of line)
  goes_on k ne =
      let l = start_fits k in
      let z : length (rest_of line k) ≡ 0 → ⊥ = λ e. ne (omega (arith, e, l, length-drop (start_of line k) line)) in
      let w : length (words_of (rest_of line k)) ≡ 0 → ⊥ = (cut (rest_of line k) (rest-word k)).some z in
      let m : length (words_of line) - k ≡ 0 → ⊥ = λ e. w (left-words k ∙ e) in
      omega (arith, m)
