-- The two releases differ as the table says.
use mathlib.Core.Path.{◌≡◌, refl, ◌∙◌}
use mathlib.Core.List.{List, [], ◌∷◌}
use Prim.Native.Nat.{ℕ, ◌≤◌}
use native.Mathlib.Omega.{arith}
use lib.Dec.{lit≤}
use lib.ListN.{length}
use borrow.Author.Tests.{lt-ltb}
use Rattle.key_order.specs.Order.{cmp}
use Rattle.llrb.specs.Tree.{balance, get, insert_go, insert}
use Rattle.llrb.specs.Difference.{added, against, difference}
use Rattle.store.specs.Model.{fresh, inserted}
use Rattle.store.specs.Calls.{insert_in}
use Rattle.store.specs.History.{Edit, Insert, store_after, model_after}
use Rattle.store.specs.Difference.{map_in, lines_bytes, difference_answer}
use Rattle.store.proofs.Running.{store-holds}
use Rattle.store.proofs.Difference.{difference-of, difference-room, equal-silent}
use Rattle.examples.specs.Examples.{d, abc, dcba, filled}
use Rattle.examples.specs.Difference.{before, after, Differences}

-- of two histories, from stores of one to 1,024 slots
abbrev lines : (i j : ℕ) (h g : List Edit) → List ℕ
lines i j h g = lines_bytes (difference (map_in (model_after i h)) (map_in (model_after j g)))

module _ (i j : ℕ) (i₁ : 1 ≤ i) (i₂ : i ≤ 1024) (j₁ : 1 ≤ j) (j₂ : j ≤ 1024) (h g : List Edit) (w out : List ℕ) (e : lines i j h g ≡ w) where
  fits : length w ≤ length out → difference_answer (store_after i h) (store_after j g) out ≡ filled w out
  fits r = difference-room (store-holds i i₁ i₂ h) (store-holds j j₁ j₂ g) out (rw e r) ∙ rw e

  short : length out ≡ 5 → length w ≡ 6 → difference_answer (store_after i h) (store_after j g) out ≡ record { number = 6; size = 0; output = out }
  short r n = difference-of (store-holds i i₁ i₂ h) (store-holds j j₁ j₂ g) out ∙ rw (e, lt-ltb (length out) (length w) (omega arith))

each-is : lines 2 3 before after ≡ 0x41 ∷ 0x61 ∷ 0xc1 ∷ 0x62 ∷ 0x81 ∷ 0x63 ∷ []
unfolding model_after fresh insert_in inserted insert insert_go balance get cmp difference against added lines_bytes
each-is = refl

alike_is : map_in (model_after 4 (Insert d (4 ∷ []) ∷ abc)) ≡ map_in (model_after 4 dcba)
unfolding model_after fresh insert_in inserted insert insert_go balance get cmp
alike_is = refl

gone-is : lines 1 1 (Insert [] [] ∷ []) [] ≡ 0x40 ∷ []
unfolding model_after fresh insert_in inserted insert insert_go balance get cmp difference against added lines_bytes
gone-is = refl

new_is : lines 1 1 [] (Insert [] [] ∷ []) ≡ 0x80 ∷ []
unfolding model_after fresh insert_in inserted insert insert_go balance get cmp difference against added lines_bytes
new_is = refl

other-is : lines 1 1 (Insert [] [] ∷ []) (Insert [] (0 ∷ []) ∷ []) ≡ 0xc0 ∷ []
unfolding model_after fresh insert_in inserted insert insert_go balance get cmp difference against added lines_bytes
other-is = refl

pub differences : Differences
differences =
    record {
      each = λ out r. fits 2 3 (lit≤ tt) (lit≤ tt) (lit≤ tt) (lit≤ tt) before after _ out each-is r;
      tight = λ out r. short 2 3 (lit≤ tt) (lit≤ tt) (lit≤ tt) (lit≤ tt) before after _ out each-is r refl;
      alike = λ out. equal-silent (store-holds 4 (lit≤ tt) (lit≤ tt) (Insert d (4 ∷ []) ∷ abc)) (store-holds 4 (lit≤ tt) (lit≤ tt) dcba) out alike_is;
      gone = λ out r. fits 1 1 (lit≤ tt) (lit≤ tt) (lit≤ tt) (lit≤ tt) (Insert [] [] ∷ []) [] _ out gone-is r;
      new = λ out r. fits 1 1 (lit≤ tt) (lit≤ tt) (lit≤ tt) (lit≤ tt) [] (Insert [] [] ∷ []) _ out new_is r;
      other = λ out r. fits 1 1 (lit≤ tt) (lit≤ tt) (lit≤ tt) (lit≤ tt) (Insert [] [] ∷ []) (Insert [] (0 ∷ []) ∷ []) _ out other-is r;
    }
