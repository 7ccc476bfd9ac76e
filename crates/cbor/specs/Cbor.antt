-- Hash trees in CBOR (RFC 8949), as the Interface Specification writes them: [0], [1, l, r], [2, label, t], [3, value], [4, digest], with
-- byte strings. Every array and string has its length, in the shortest head; no tag. 81 to 83 open an array of one to three.
use Rattle.std.specs.Prelude.{cond}
use Rattle.std.specs.Prelude.{ℕ, zero, suc, ◌+◌, ◌-◌, List, [], ◌∷◌, ◌++◌, length, take, drop, ltb, leb, eqb}
use Rattle.hash_tree.specs.HashTree.{HashTree}
use Rattle.hash_tree.specs.Record.{least, most}
use Rattle.hash_tree.specs.Form.{Front, Taken, Shut, Form, write_by}

-- what opens the array of a kind
abbrev pub array_of : ℕ → ℕ
array_of zero = 0x81
array_of (suc zero) = 0x83
array_of (suc (suc zero)) = 0x83
array_of (suc (suc (suc k))) = 0x82

-- the head of a byte string of n bytes: one byte below 24, else two
abbrev pub string_head : ℕ → List ℕ
string_head n = cond (ltb n 24) ((0x40 + n) ∷ []) (0x58 ∷ n ∷ [])

-- a record's own bytes: a byte string, but for Empty and Fork
abbrev pub own : ℕ → List ℕ → List ℕ
own zero b = []
own (suc zero) b = []
own (suc (suc k)) b = string_head (length b) ++ b

unfoldable pub put_cbor : ℕ → List ℕ → List ℕ
put_cbor k b = array_of k ∷ k ∷ own k b

-- a string of n bytes, of a length that the kind allows, at the front of r
unfoldable pub sized : ℕ → ℕ → List ℕ → Front
sized k n r =
    cond (leb (least k) n) (cond (leb n (most k)) (cond (leb n (length r)) (Taken k (take n r) (drop n r)) Shut) Shut) Shut

-- a head of two bytes: not where one does
abbrev pub long : ℕ → ℕ → List ℕ → Front
long k h [] = Shut
long k h (n ∷ r) = cond (eqb h 0x58) (cond (leb 24 n) (sized k n r) Shut) Shut

abbrev pub string : ℕ → List ℕ → Front
string k [] = Shut
string k (h ∷ r) = cond (ltb k 5) (cond (leb 0x40 h) (cond (ltb h 0x58) (sized k (h - 0x40) r) (long k h r)) Shut) Shut

abbrev pub own_front : ℕ → List ℕ → Front
own_front zero r = Taken 0 [] r
own_front (suc zero) r = Taken 1 [] r
own_front (suc (suc k)) r = string (suc (suc k)) r

-- the record at the front of a list
unfoldable pub cbor_front : List ℕ → Front
cbor_front [] = Shut
cbor_front (x ∷ []) = Shut
cbor_front (x ∷ y ∷ r) = cond (eqb x (array_of y)) (own_front y r) Shut

abbrev pub cbor_form : Form
cbor_form = record { put = put_cbor; front = cbor_front }

unfoldable pub cbor : HashTree → List ℕ
cbor t = write_by cbor_form t
