-- A tree's CBOR is read back; what is read as CBOR is the CBOR of a lawful tree; one CBOR for a tree and one tree for a CBOR.
use Prim.Native.Nat.{ℕ}
use mathlib.Core.Path.{◌≡◌}
use mathlib.Core.List.{List, ◌++◌}
use Rattle.hash_tree.specs.HashTree.{HashTree}
use Rattle.hash_tree.specs.Written.{Lengths, Lawful}
use Rattle.hash_tree.specs.Parse.{Got, Bytes}
use Rattle.hash_tree.specs.Form.{parse_by}
use Rattle.hash_tree.proofs.Forms.{written-parsed, parsed-written, prefix-free-by, unique-by}
use Rattle.cbor.specs.Cbor.{cbor_form, cbor}
use Rattle.cbor.proofs.Opens.{opening}

pub read_back : (d : ℕ) (t : HashTree) → Lawful d t → (rest : List ℕ) → parse_by cbor_form d (cbor t ++ rest) ≡ Got t rest
unfolding cbor
read_back d t h rest = written-parsed cbor_form opening d t h rest

pub was-written : (d : ℕ) (bytes : List ℕ) (t : HashTree) (rest : List ℕ) → Bytes bytes → parse_by cbor_form d bytes ≡ Got t rest
    → (bytes ≡ cbor t ++ rest) × Lawful d t
unfolding cbor
was-written d bytes t rest bs e = rw e at (parsed-written cbor_form opening d bytes bs)

pub no_front : (t u : HashTree) (x y : List ℕ) → Lengths t → Lengths u → cbor t ++ x ≡ cbor u ++ y → (t ≡ u) × (x ≡ y)
unfolding cbor
no_front = prefix-free-by cbor_form opening

pub one-tree : (t u : HashTree) → Lengths t → Lengths u → cbor t ≡ cbor u → t ≡ u
unfolding cbor
one-tree = unique-by cbor_form opening
