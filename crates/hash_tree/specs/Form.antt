-- A form that trees may be written in: how a record and its bytes are put, and how the record at the front of a list is taken off.
-- Document 01's written form is one (specs/Written, specs/Parse); CBOR's is another.
use Rattle.std.specs.Prelude.{ℕ, zero, suc, ◌≤◌, ◌<◌, List, [], ◌++◌, Option, Some, None, length, take, drop}
use Rattle.hash_tree.specs.declared.Record.{Record}
use Rattle.hash_tree.specs.HashTree.{HashTree, Empty, Fork, Labeled, Leaf, Pruned}
use Rattle.hash_tree.specs.Written.{piece}
use Rattle.hash_tree.specs.Record.{kind_number, record_of, least, most}
use Rattle.hash_tree.specs.Parse.{Parsed, Bad, by_kind}

-- a record's kind, its bytes and what follows them; or no record
pub data Front : Type 0 where
  Taken : ℕ → List ℕ → List ℕ → Front
  Shut : Front

pub record Form : Type 0 where
  pub put : ℕ → List ℕ → List ℕ
  pub front : List ℕ → Front

-- a kind and bytes that a record may have
pub record Fits (k : ℕ) (b : List ℕ) : Type 0 where
  pub kind : k < 5
  pub low : least k ≤ length b
  pub high : length b ≤ most k

-- parent first, then the children from left to right
abbrev pub write_by : Form → HashTree → List ℕ
write_by f Empty = f.put 0 []
write_by f (Fork l r) = f.put 1 [] ++ (write_by f l ++ write_by f r)
write_by f (Labeled label t) = f.put 2 label ++ write_by f t
write_by f (Leaf value) = f.put 3 value
write_by f (Pruned d) = f.put 4 d

abbrev pub grow_by : (List ℕ → Parsed) → Front → Parsed
grow_by p (Taken k b rest) = by_kind p k b rest
grow_by p Shut = Bad

-- the tree at the front of a list, at most d records deep, with what is left of the list
unfoldable pub parse_by : Form → ℕ → List ℕ → Parsed
parse_by f zero xs = Bad
parse_by f (suc d) xs = grow_by (λ ys. parse_by f d ys) (f.front xs)

-- document 01's form
abbrev pub front_of : List ℕ → Option Record → Front
front_of xs (Some r) = Taken (kind_number r.kind) (take r.len (drop 2 xs)) (drop r.len (drop 2 xs))
front_of xs None = Shut

abbrev pub written : Form
written = record { put = piece; front = λ xs. front_of xs (record_of xs) }
