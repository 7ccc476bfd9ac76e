-- The laws of the parse. A tree written and then parsed comes back, with the rest; what parses is what was written, and is lawful; so no
-- written form is the front of another. Each is proofs/Forms' law, of document 01's form.
use Prim.Native.Nat.{ℕ, zero, suc, ◌+◌, ◌<◌, ◌≤◌}
use mathlib.Core.Path.{◌≡◌, refl, sym, ap, subst, fun_ext, ◌∙◌}
use mathlib.Core.List.{List, [], ◌++◌}
use native.Mathlib.Omega.{arith}
use lib.ListN.{length, length-append}
use lib.Seq.{take_at, drop_at}
use lib.Dec.{lit<}
use Rattle.hash_tree.specs.declared.Record.{Record}
use Rattle.std.specs.Prelude.{Option, Some, None}
use Rattle.hash_tree.specs.HashTree.{HashTree, Empty, Fork, Labeled, Leaf, Pruned}
use Rattle.hash_tree.specs.Written.{write, piece, size, Lengths, Lawful, max_label, max_value, digest_len}
use Rattle.hash_tree.specs.Record.{kind_of, record_of, least, most}
use Rattle.hash_tree.specs.Parse.{Parsed, Got, Bad, parse, grow, by_kind, labeled, fork, Bytes}
use Rattle.hash_tree.specs.Form.{Taken, Fits, write_by, grow_by, parse_by, front_of, written}
use Rattle.hash_tree.proofs.RecordLaws.{View, whole, bad, view, numbered, piece-opens, body-length, piece_back}
use Rattle.hash_tree.proofs.Forms.{Seen, Opening, ReadBy, written-parsed, parsed-written, prefix-free-by, unique-by}
pub use Rattle.hash_tree.proofs.Lawfulness.{depth_pos, lawful-left, lawful-right, lawful-fork, lawful-below, lawful-labeled, bytes_rest, bytes_drop}

-- how long a written form is
pub length-piece : (k : ℕ) (b : List ℕ) → length (piece k b) ≡ 2 + length b
unfolding piece
length-piece k b = omega arith

pub length-write : (t : HashTree) → length (write t) ≡ size t
unfolding write
length-write Empty = length-piece 0 []
length-write (Fork l r) = rw (length-append (piece 1 []) (write l ++ write r), length-append (write l) (write r), length-piece 1 [], length-write l, length-write r)
length-write (Labeled b t) = rw (length-append (piece 2 b) (write t), length-piece 2 b, length-write t) (omega arith)
length-write (Leaf b) = length-piece 3 b
length-write (Pruned b) = length-piece 4 b

-- a written record is parsed by its kind
pub parse-piece : (k : ℕ) (b rest : List ℕ) → k < 5 → least k ≤ length b → length b ≤ most k → (d : ℕ) → parse (suc d) (piece k b ++ rest) ≡ by_kind (parse d) k b rest
unfolding parse piece
parse-piece k b rest kind low high d = rw (piece-opens k b rest kind low high, numbered k kind, take_at b rest (length b) refl, drop_at b rest (length b) refl)

module _ (d : ℕ) where
  pub parse-empty : (rest : List ℕ) → parse (suc d) (piece 0 [] ++ rest) ≡ Got Empty rest
  unfolding least most
  parse-empty rest = parse-piece 0 [] rest (lit< tt) (omega arith) (omega arith) d

  pub parse-fork : (rest : List ℕ) → parse (suc d) (piece 1 [] ++ rest) ≡ fork (parse d) (parse d rest)
  unfolding least most
  parse-fork rest = parse-piece 1 [] rest (lit< tt) (omega arith) (omega arith) d

  pub parse-labeled : (b rest : List ℕ) → length b ≤ max_label → parse (suc d) (piece 2 b ++ rest) ≡ labeled b (parse d rest)
  unfolding least most
  parse-labeled b rest h = parse-piece 2 b rest (lit< tt) (omega arith) h d

  pub parse-leaf : (b rest : List ℕ) → length b ≤ max_value → parse (suc d) (piece 3 b ++ rest) ≡ Got (Leaf b) rest
  unfolding least most
  parse-leaf b rest h = parse-piece 3 b rest (lit< tt) (omega arith) h d

  pub parse-pruned : (b rest : List ℕ) → length b ≡ digest_len → parse (suc d) (piece 4 b ++ rest) ≡ Got (Pruned b) rest
  unfolding least most
  parse-pruned b rest h = parse-piece 4 b rest (lit< tt) (omega arith) (omega arith) d

-- document 01's form is one of the forms of specs/Form
by-record : (xs : List ℕ) → Bytes xs → (r : Option Record) → View xs r → Seen written xs (front_of xs r)
by-record xs bs r (whole o) =
    rw (numbered (kind_of xs) o.kind) (piece_back xs bs o, record { kind = o.kind; low = rw (body-length xs o) o.low; high = rw (body-length xs o) o.high })
by-record xs bs r (bad f) = tt

put_front : (k : ℕ) (b rest : List ℕ) → Fits k b → front_of (piece k b ++ rest) (record_of (piece k b ++ rest)) ≡ Taken k b rest
unfolding piece
put_front k b rest h =
    rw (piece-opens k b rest h.kind h.low h.high, numbered k h.kind, take_at b rest (length b) refl, drop_at b rest (length b) refl)

pub opening : Opening written
opening = record { back = put_front; seen = λ xs bs. by-record xs bs (record_of xs) (view xs) }

pub write-by : (t : HashTree) → write_by written t ≡ write t
unfolding write
write-by Empty = refl
write-by (Fork l r) = rw (write-by l, write-by r)
write-by (Labeled b t) = rw (write-by t)
write-by (Leaf b) = refl
write-by (Pruned b) = refl

grow-by : (p : List ℕ → Parsed) (xs : List ℕ) (r : Option Record) → grow_by p (front_of xs r) ≡ grow p xs r
grow-by p xs (Some r) = refl
grow-by p xs None = refl

pub parse-by : (d : ℕ) (xs : List ℕ) → parse_by written d xs ≡ parse d xs
unfolding parse parse_by
parse-by zero xs = refl
parse-by (suc d) xs =
    ap (λ (p : List ℕ → Parsed). grow_by p (front_of xs (record_of xs))) (fun_ext (λ ys. parse-by d ys)) ∙ grow-by (parse d) xs (record_of xs)

-- written, and then parsed
pub parse-write : (d : ℕ) (t : HashTree) → Lawful d t → (rest : List ℕ) → parse d (write t ++ rest) ≡ Got t rest
parse-write d t h rest =
    sym (parse-by d (write t ++ rest)) ∙ ap (λ (w : List ℕ). parse_by written d (w ++ rest)) (sym (write-by t)) ∙ written-parsed written opening d t h rest

-- what a parse says of the bytes, with no equation to take apart: the bytes are those of the tree and the rest, and the tree is lawful
abbrev pub Read : ℕ → List ℕ → Parsed → Type 0
Read d xs (Got t rest) = (xs ≡ write t ++ rest) × Lawful d t
Read d xs Bad = Unit {0}

read_by : (d : ℕ) (xs : List ℕ) (z : Parsed) → ReadBy written d xs z → Read d xs z
read_by d xs (Got t rest) h = (h.0 ∙ ap (λ (w : List ℕ). w ++ rest) (write-by t), h.1)
read_by d xs Bad h = tt

-- parsed, and then written
pub read : (d : ℕ) (xs : List ℕ) → Bytes xs → Read d xs (parse d xs)
read d xs bs = read_by d xs (parse d xs) (subst (λ (z : Parsed). ReadBy written d xs z) (parse-by d xs) (parsed-written written opening d xs bs))

-- what parses is what was written: the two halves with equations
pub write-parse : (d : ℕ) (xs : List ℕ) (t : HashTree) (rest : List ℕ) → Bytes xs → parse d xs ≡ Got t rest → (xs ≡ write t ++ rest) × Lawful d t
write-parse d xs t rest bs e = rw e at (read d xs bs)

-- no written form is the front of another
pub prefix-free : (t u : HashTree) (x y : List ℕ) → Lengths t → Lengths u → write t ++ x ≡ write u ++ y → (t ≡ u) × (x ≡ y)
prefix-free t u x y ht hu e = prefix-free-by written opening t u x y ht hu (rw (write-by t, write-by u) e)

-- a written form is that of one tree
pub unique : (t u : HashTree) → Lengths t → Lengths u → write t ≡ write u → t ≡ u
unique t u ht hu e = unique-by written opening t u ht hu (rw (write-by t, write-by u) e)

-- where nothing parses, no lawful tree stands
pub bad-none : (d : ℕ) (xs : List ℕ) → parse d xs ≡ Bad → (t : HashTree) (rest : List ℕ) → Lawful d t → xs ≡ write t ++ rest → ⊥
bad-none d xs e t rest h w =
    let p : parse d (write t ++ rest) ≡ Got t rest = parse-write d t h rest in
    let z : ◌≡◌ {A = ℕ} 0 1 = cc in
    omega arith
