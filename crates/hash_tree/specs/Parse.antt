-- The tree at the front of a list of bytes, with what is left of the list.
use Rattle.std.specs.Prelude.{ℕ, zero, suc, ◌<◌, List, Option, Some, None, take, drop, get_or}
use Rattle.hash_tree.specs.declared.Record.{Record}
use Rattle.hash_tree.specs.HashTree.{HashTree, Empty, Fork, Labeled, Leaf, Pruned}
use Rattle.hash_tree.specs.Record.{kind_number, record_of}

pub data Parsed : Type 0 where
  Got : HashTree → List ℕ → Parsed
  Bad : Parsed

abbrev pub labeled : List ℕ → Parsed → Parsed
labeled b (Got t rest) = Got (Labeled b t) rest
labeled b Bad = Bad

abbrev pub forked : HashTree → Parsed → Parsed
forked l (Got r rest) = Got (Fork l r) rest
forked l Bad = Bad

abbrev pub fork : (List ℕ → Parsed) → Parsed → Parsed
fork p (Got l rest) = forked l (p rest)
fork p Bad = Bad

-- by kind, with p for what stands one record deeper. b: the record's bytes; rest: what follows them
abbrev pub by_kind : (List ℕ → Parsed) → ℕ → List ℕ → List ℕ → Parsed
by_kind p zero b rest = Got Empty rest
by_kind p (suc zero) b rest = fork p (p rest)
by_kind p (suc (suc zero)) b rest = labeled b (p rest)
by_kind p (suc (suc (suc zero))) b rest = Got (Leaf b) rest
by_kind p (suc (suc (suc (suc n)))) b rest = Got (Pruned b) rest

abbrev pub grow : (List ℕ → Parsed) → List ℕ → Option Record → Parsed
grow p xs (Some r) = by_kind p (kind_number r.kind) (take r.len (drop 2 xs)) (drop r.len (drop 2 xs))
grow p xs None = Bad

-- at most d records deep
unfoldable pub parse : ℕ → List ℕ → Parsed
parse zero xs = Bad
parse (suc d) xs = grow (λ ys. parse d ys) xs (record_of xs)

-- the numbers of a list are bytes
abbrev pub Bytes : List ℕ → Type 0
Bytes xs = (i : ℕ) → get_or xs i 0 < 256
