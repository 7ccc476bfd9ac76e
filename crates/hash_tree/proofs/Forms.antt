-- What holds of every form that puts a record as it takes it off: a tree written and then parsed comes back, with the rest; what parses
-- is what was written, and is lawful; so no tree's bytes are the front of another's.
use Prim.Native.Nat.{ℕ, zero, suc, ◌<◌, ◌≤◌, max}
use mathlib.Core.Path.{◌≡◌, ap}
use mathlib.Core.List.{List, [], ◌∷◌, ◌++◌, append_assoc}
use native.Mathlib.Omega.{arith}
use native.Mathlib.Nat.{not-suc-le-zero, le-max_left, le-max_right}
use lib.ListN.{length}
use lib.Dec.{lit<}
use Rattle.hash_tree.specs.HashTree.{HashTree, Empty, Fork, Labeled, Leaf, Pruned}
use Rattle.hash_tree.specs.Written.{depth, Lengths, Lawful, max_label, max_value, digest_len}
use Rattle.hash_tree.specs.Record.{least, most}
use Rattle.hash_tree.specs.Parse.{Parsed, Got, Bad, by_kind, labeled, forked, fork, Bytes}
use Rattle.hash_tree.specs.Form.{Front, Taken, Shut, Form, Fits, write_by, grow_by, parse_by}
use Rattle.hash_tree.proofs.Lawfulness.{depth_pos, lawful-left, lawful-right, lawful-fork, lawful-below, lawful-labeled, bytes_rest}

-- what a front says of the bytes
abbrev pub Seen : Form → List ℕ → Front → Type 0
Seen f xs (Taken k b rest) = (xs ≡ f.put k b ++ rest) × Fits k b
Seen f xs Shut = Unit {0}

pub record Opening (f : Form) : Type 0 where
  pub back : (k : ℕ) (b rest : List ℕ) → Fits k b → f.front (f.put k b ++ rest) ≡ Taken k b rest
  pub seen : (xs : List ℕ) → Bytes xs → Seen f xs (f.front xs)

-- the five kinds
pub empty-fits : Fits 0 []
unfolding least most
empty-fits = record { kind = lit< tt; low = omega arith; high = omega arith }

pub fork-fits : Fits 1 []
unfolding least most
fork-fits = record { kind = lit< tt; low = omega arith; high = omega arith }

pub label-fits : (b : List ℕ) → length b ≤ max_label → Fits 2 b
unfolding least most
label-fits b h = record { kind = lit< tt; low = omega arith; high = h }

pub leaf-fits : (b : List ℕ) → length b ≤ max_value → Fits 3 b
unfolding least most
leaf-fits b h = record { kind = lit< tt; low = omega arith; high = h }

pub pruned-fits : (b : List ℕ) → length b ≡ digest_len → Fits 4 b
unfolding least most
pruned-fits b h = record { kind = lit< tt; low = omega arith; high = omega arith }

-- what a parse says of the bytes
abbrev pub ReadBy : Form → ℕ → List ℕ → Parsed → Type 0
ReadBy f d xs (Got t rest) = (xs ≡ write_by f t ++ rest) × Lawful d t
ReadBy f d xs Bad = Unit {0}

module _ (f : Form) (o : Opening f) where
  parse-put : (d k : ℕ) (b rest : List ℕ) → Fits k b → parse_by f (suc d) (f.put k b ++ rest) ≡ by_kind (parse_by f d) k b rest
  unfolding parse_by
  parse-put d k b rest h = rw (o.back k b rest h)

  -- written, and then parsed
  pub written-parsed : (d : ℕ) (t : HashTree) → Lawful d t → (rest : List ℕ) → parse_by f d (write_by f t ++ rest) ≡ Got t rest
  written-parsed zero t h rest = absurd (omega (arith, h.1, depth_pos t))
  written-parsed (suc d) Empty h rest = parse-put d 0 [] rest empty-fits
  written-parsed (suc d) (Fork l r) h rest =
      rw (append_assoc (f.put 1 []) (write_by f l ++ write_by f r) rest, append_assoc (write_by f l) (write_by f r) rest, parse-put d 1 [] (write_by f l ++ (write_by f r ++ rest)) fork-fits, written-parsed d l (lawful-left d l r h) (write_by f r ++ rest), written-parsed d r (lawful-right d l r h) rest)
  written-parsed (suc d) (Labeled b t) h rest =
      rw (append_assoc (f.put 2 b) (write_by f t) rest, parse-put d 2 b (write_by f t ++ rest) (label-fits b h.0.0), written-parsed d t (lawful-below d b t h) rest)
  written-parsed (suc d) (Leaf b) h rest = parse-put d 3 b rest (leaf-fits b h.0)
  written-parsed (suc d) (Pruned b) h rest = parse-put d 4 b rest (pruned-fits b h.0)

  module _ (d : ℕ) (p : List ℕ → Parsed) (hp : (ys : List ℕ) → Bytes ys → ReadBy f d ys (p ys)) (xs : List ℕ) where
    forked-read : (l : HashTree) (r₁ : List ℕ) → xs ≡ f.put 1 [] ++ (write_by f l ++ r₁) → Lawful d l → (q : Parsed) → ReadBy f d r₁ q → ReadBy f (suc d) xs (forked l q)
    forked-read l r₁ e hl (Got r rest) h = (rw (e, h.0) (simp append_assoc), lawful-fork d l r hl h.1)
    forked-read l r₁ e hl Bad h = tt

    fork-read : (r₀ : List ℕ) → Bytes r₀ → xs ≡ f.put 1 [] ++ r₀ → (q : Parsed) → ReadBy f d r₀ q → ReadBy f (suc d) xs (fork p q)
    fork-read r₀ bs e (Got l r₁) h = forked-read l r₁ (rw h.0 at e) h.1 (p r₁) (hp r₁ (bytes_rest (write_by f l) r₁ (rw h.0 at bs)))
    fork-read r₀ bs e Bad h = tt

    labeled-read : (b r₀ : List ℕ) → length b ≤ max_label → xs ≡ f.put 2 b ++ r₀ → (q : Parsed) → ReadBy f d r₀ q → ReadBy f (suc d) xs (labeled b q)
    labeled-read b r₀ n e (Got t rest) h = (rw (e, h.0) (simp append_assoc), lawful-labeled d b t n h.1)
    labeled-read b r₀ n e Bad h = tt

    by-kind-read : (k : ℕ) (b r₀ : List ℕ) → k < 5 → least k ≤ length b → length b ≤ most k → Bytes r₀ → xs ≡ f.put k b ++ r₀ → ReadBy f (suc d) xs (by_kind p k b r₀)
    unfolding least most
    by-kind-read zero [] r₀ kind low high bs e = (e, (tt, omega arith))
    by-kind-read zero (x ∷ b) r₀ kind low high bs e = absurd (not-suc-le-zero high)
    by-kind-read (suc zero) [] r₀ kind low high bs e = fork-read r₀ bs e (p r₀) (hp r₀ bs)
    by-kind-read (suc zero) (x ∷ b) r₀ kind low high bs e = absurd (not-suc-le-zero high)
    by-kind-read (suc (suc zero)) b r₀ kind low high bs e = labeled-read b r₀ high e (p r₀) (hp r₀ bs)
    by-kind-read (suc (suc (suc zero))) b r₀ kind low high bs e = (e, (high, omega arith))
    by-kind-read (suc (suc (suc (suc zero)))) b r₀ kind low high bs e = (e, (omega arith, omega arith))
    by-kind-read (suc (suc (suc (suc (suc n))))) b r₀ kind low high bs e = absurd (omega arith)

    grow-read : Bytes xs → (r : Front) → Seen f xs r → ReadBy f (suc d) xs (grow_by p r)
    grow-read bs (Taken k b rest) h = by-kind-read k b rest h.1.kind h.1.low h.1.high (bytes_rest (f.put k b) rest (rw h.0 at bs)) h.0
    grow-read bs Shut h = tt

  -- parsed, and then written
  pub parsed-written : (d : ℕ) (xs : List ℕ) → Bytes xs → ReadBy f d xs (parse_by f d xs)
  unfolding parse_by
  parsed-written zero xs bs = tt
  parsed-written (suc d) xs bs = grow-read d (λ ys. parse_by f d ys) (λ ys h. parsed-written d ys h) xs bs (f.front xs) (o.seen xs bs)

  -- no tree's bytes are the front of another's
  pub prefix-free-by : (t u : HashTree) (x y : List ℕ) → Lengths t → Lengths u → write_by f t ++ x ≡ write_by f u ++ y → (t ≡ u) × (x ≡ y)
  prefix-free-by t u x y ht hu e =
      let d = max (depth t) (depth u) in
      let p : parse_by f d (write_by f t ++ x) ≡ Got t x = written-parsed d t (ht, le-max_left (depth t) (depth u)) x in
      let q : parse_by f d (write_by f u ++ y) ≡ Got u y = written-parsed d u (hu, le-max_right (depth t) (depth u)) y in
      let z : Got t x ≡ Got u y = cc in
      (cc, cc)

  pub unique-by : (t u : HashTree) → Lengths t → Lengths u → write_by f t ≡ write_by f u → t ≡ u
  unique-by t u ht hu e = (prefix-free-by t u [] [] ht hu (ap (λ (w : List ℕ). w ++ []) e)).0
