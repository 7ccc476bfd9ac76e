-- The rule of depth: a tree nested too deep is refused; and so is a Fork or a Labeled as the last record that the depth allows, whatever
-- follows it.
use Prim.Native.Nat.{ℕ, zero, suc, ◌<◌, ◌≤◌, max}
use mathlib.Core.Path.{◌≡◌, refl, ◌∙◌}
use mathlib.Core.Bool.{Bool, true, false}
use mathlib.Core.List.{List, [], ◌++◌, append_assoc}
use native.Mathlib.Omega.{arith}
use native.Mathlib.Nat.{max-le}
use lib.ListN.{length}
use lib.Dec.{leb}
use borrow.Author.Tests.{leb-true, leb-false}
use Rattle.hash_tree.specs.HashTree.{HashTree, Empty, Fork, Labeled, Leaf, Pruned}
use Rattle.hash_tree.specs.Written.{write, piece, depth, Lengths, max_label}
use Rattle.hash_tree.specs.Parse.{Bad, parse, fork}
use Rattle.hash_tree.specs.Deep.{Reaches, here, below, on_left, on_right}
use Rattle.hash_tree.proofs.ParseLaws.{parse-write, parse-fork, parse-labeled}

parse-zero : (xs : List ℕ) → parse 0 xs ≡ Bad
unfolding parse
parse-zero xs = refl

-- a maximum above d is not the first of the two, so it is the second
over_by : (d a b : ℕ) (t : Bool) → leb b d ≡ t → a ≤ d → suc d < suc (max a b) → d < b
over_by d a b true e h g = absurd (omega (arith, g, max-le h (leb-true b d e)))
over_by d a b false e h g = leb-false b d e

max-over : (d a b : ℕ) → a ≤ d → suc d < suc (max a b) → d < b
max-over d a b = over_by d a b (leb b d) refl

-- a tree of lawful lengths, however deep, comes back where the depth allows it, and else nothing does
module _ (d : ℕ) (deep : (t : HashTree) → Lengths t → d < depth t → (rest : List ℕ) → parse d (write t ++ rest) ≡ Bad) where
  fork-either : (l : HashTree) (rest : List ℕ) (t : Bool) → leb (depth l) d ≡ t → Lengths l → (depth l ≤ d → parse d rest ≡ Bad) → fork (parse d) (parse d (write l ++ rest)) ≡ Bad
  fork-either l rest true e h f =
      let g = leb-true (depth l) d e in
      rw (parse-write d l (h, g) rest, f g)
  fork-either l rest false e h f = rw (deep l h (leb-false (depth l) d e) rest)

pub too-deep : (d : ℕ) (t : HashTree) → Lengths t → d < depth t → (rest : List ℕ) → parse d (write t ++ rest) ≡ Bad
unfolding write
too-deep zero t h g rest = parse-zero (write t ++ rest)
too-deep (suc d) Empty h g rest = absurd (omega (arith, g))
too-deep (suc d) (Fork l r) h g rest =
    rw (append_assoc (piece 1 []) (write l ++ write r) rest, append_assoc (write l) (write r) rest, parse-fork d (write l ++ (write r ++ rest)))
    (fork-either d (λ t h' g' ys. too-deep d t h' g' ys) l (write r ++ rest) (leb (depth l) d) refl h.0 (λ f. too-deep d r h.1 (max-over d (depth l) (depth r) f g) rest))
too-deep (suc d) (Labeled b t) h g rest =
    rw (append_assoc (piece 2 b) (write t) rest, parse-labeled d b (write t ++ rest) h.0, too-deep d t h.1 (omega (arith, g)) rest)
too-deep (suc d) (Leaf b) h g rest = absurd (omega (arith, g))
too-deep (suc d) (Pruned b) h g rest = absurd (omega (arith, g))

-- what is refused one record deep is refused n records further up, n records deeper
up : (n : ℕ) (xs ys : List ℕ) → parse 1 ys ≡ Bad → Reaches n xs ys → parse (suc n) xs ≡ Bad
up zero xs ys e (here _) = e
up (suc n) xs ys e (below {xs = zs} b h r) = rw (parse-labeled (suc n) b zs h, up n zs ys e r)
up (suc n) xs ys e (on_left {xs = zs} r) = rw (parse-fork (suc n) zs, up n zs ys e r)
up (suc n) xs ys e (on_right {xs = zs} l h r) =
    parse-fork (suc n) (write l ++ zs) ∙ fork-either (suc n) (λ t h' g' rest. too-deep (suc n) t h' g' rest) l zs (leb (depth l) (suc n)) refl h (λ f. up n zs ys e r)

-- a Fork as the last record that the depth allows
pub last-fork : (n : ℕ) (xs rest : List ℕ) → Reaches n xs (piece 1 [] ++ rest) → parse (suc n) xs ≡ Bad
last-fork n xs rest = up n xs (piece 1 [] ++ rest) (parse-fork 0 rest ∙ rw (parse-zero rest))

-- a Labeled as the last record that the depth allows
pub last-labeled : (n : ℕ) (xs b rest : List ℕ) → length b ≤ max_label → Reaches n xs (piece 2 b ++ rest) → parse (suc n) xs ≡ Bad
last-labeled n xs b rest h = up n xs (piece 2 b ++ rest) (parse-labeled 0 b rest h ∙ rw (parse-zero rest))
