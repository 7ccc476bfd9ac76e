-- THE STARRED EXAMPLES of document 01, in its order, as one table: each line is said of the public calls.
use Rattle.std.specs.Prelude.{◌≡◌, true, false, List, [], ◌∷◌, ◌++◌, ℕ, ◌≤◌, length, drop}
use Rattle.key_order.specs.Order.{Key}
use Rattle.slots.specs.Layout.{header, zeros}
use Rattle.hash_tree.specs.HashTree.{HashTree, Fork, Labeled, Pruned, labeled_hash, leaf_hash}
use Rattle.hash_tree.specs.Written.{write}
use Rattle.llrb.specs.Tree.{Value, Tree, nil, node, entries}
use Rattle.llrb.specs.Map.{pairs}
use Rattle.witness_trees.specs.Reading.{labels}
use Rattle.store.specs.Decode.{decode}
use Rattle.store.specs.Answers.{Written}
use Rattle.store.specs.Calls.{create_answer, keys_answer, witness_answer, keys_with_prefix_answer, value_range_answer}
use Rattle.store.specs.History.{Edit, Insert, Delete, store_after}

abbrev pub a : Key
a = 0x61 ∷ []

abbrev pub b : Key
b = 0x62 ∷ []

abbrev pub c : Key
c = 0x63 ∷ []

abbrev pub d : Key
d = 0x64 ∷ []

abbrev pub aa : Key
aa = 0x61 ∷ 0x61 ∷ []

abbrev pub ba : Key
ba = 0x62 ∷ 0x61 ∷ []

abbrev pub bb : Key
bb = 0x62 ∷ 0x62 ∷ []

-- a black, a red node: its slot, key and value, and its children
abbrev pub black : ℕ → Key → Value → Tree → Tree → Tree
black slot key value l r = node false (record { slot = slot; key = key; value = value }) l r

abbrev pub red : ℕ → Key → Value → Tree → Tree → Tree
red slot key value l r = node true (record { slot = slot; key = key; value = value }) l r

-- histories; the last call stands first
abbrev pub abc : List Edit
abc = Insert c (3 ∷ []) ∷ Insert b (2 ∷ []) ∷ Insert a (1 ∷ []) ∷ []

abbrev pub dcba : List Edit
dcba = Insert a (1 ∷ []) ∷ Insert b (2 ∷ []) ∷ Insert c (3 ∷ []) ∷ Insert d (4 ∷ []) ∷ []

abbrev pub prefixes : List Edit
prefixes = Insert c [] ∷ Insert ba [] ∷ Insert b [] ∷ Insert a [] ∷ []

-- maps are equal when their keys and values are, whatever the shapes and so the root digests
abbrev pub SameMap : Tree → Tree → Type 0
SameMap t u = pairs (entries t) ≡ pairs (entries u)

-- 0, these bytes at the front of the output, and the rest of the output as found
abbrev pub filled : (witness out : List ℕ) → Written
filled witness out = record { number = 0; size = length witness; output = witness ++ drop (length witness) out }

-- a label whose value is Pruned
abbrev pub cut : Key → Value → HashTree
cut key value = Labeled key (Pruned (leaf_hash value))

abbrev pub whole : List ℕ
whole =
    0x20 ∷ 0x00 ∷ 0x40 ∷ 0x01 ∷ 0x61 ∷ 0x60 ∷ 0x01 ∷ 0x01 ∷ 0x20 ∷ 0x00 ∷ 0x40 ∷ 0x01 ∷ 0x62 ∷ 0x60 ∷ 0x01 ∷ 0x02 ∷ 0x40 ∷ 0x01 ∷ 0x63 ∷ 0x60 ∷ 0x01 ∷ 0x03 ∷ []

-- of the keys a, b, ba, c: b and what follows it; ba and what follows it
abbrev pub from_b : HashTree
from_b = Fork (Pruned (labeled_hash a (leaf_hash []))) (Fork (cut b []) (Fork (cut ba []) (cut c [])))

abbrev pub from_ba : HashTree
from_ba = Fork (Pruned (labeled_hash a (leaf_hash []))) (Fork (Pruned (labeled_hash b (leaf_hash []))) (Fork (cut ba []) (cut c [])))

pub record Examples : Type 0 where
  -- fresh store, capacity 1, in any buffer of its length
  pub fresh : (s : List ℕ) → length s ≡ 158
      → create_answer 1 s ≡ record { number = 0; store = (0x10 ∷ 0x02 ∷ 0x00 ∷ 0x00 ∷ 0x00 ∷ 0x01 ∷ 0x00 ∷ 0x00 ∷ []) ++ zeros 150 }
  -- empty map, `keys`
  pub empty : (out : List ℕ) → 2 ≤ length out → keys_answer (store_after 1 []) out ≡ filled (0x00 ∷ 0x00 ∷ []) out
  -- only a → 07, `witness` of a
  pub one : (out : List ℕ) → 6 ≤ length out
      → witness_answer a (store_after 1 (Insert a (0x07 ∷ []) ∷ [])) out ≡ filled (0x40 ∷ 0x01 ∷ 0x61 ∷ 0x60 ∷ 0x01 ∷ 0x07 ∷ []) out
  -- a → 01, b → 02, c → 03, `value_range` a to c: 22 bytes of output do; 21 answer 6
  pub range : (out : List ℕ) → length out ≡ 22 → value_range_answer a c (store_after 3 abc) out ≡ filled whole out
  pub tight : (out : List ℕ) → length out ≡ 21 → value_range_answer a c (store_after 3 abc) out ≡ record { number = 6; size = 0; output = out }
  -- insert a, b, c: b over a and c, all black
  pub three : (decode (store_after 4 abc)).tree ≡ black 2 b (2 ∷ []) (black 1 a (1 ∷ []) nil nil) (black 3 c (3 ∷ []) nil nil)
  -- then d: b over a and d, d black over red left c
  pub four : (decode (store_after 4 (Insert d (4 ∷ []) ∷ abc))).tree
      ≡ black 2 b (2 ∷ []) (black 1 a (1 ∷ []) nil nil) (black 4 d (4 ∷ []) (red 3 c (3 ∷ []) nil nil) nil)
  -- insert d, c, b, a: c over b and d, b black over red left a
  pub turned : (decode (store_after 4 dcba)).tree
      ≡ black 2 c (3 ∷ []) (black 3 b (2 ∷ []) (red 4 a (1 ∷ []) nil nil) nil) (black 1 d (4 ∷ []) nil nil)
  -- the same map as the line above, another shape
  pub same : SameMap (decode (store_after 4 dcba)).tree (decode (store_after 4 (Insert d (4 ∷ []) ∷ abc))).tree
  -- insert a, b, c, delete b: slot 2 is the root, holds c, with red a on its left; slot 3 heads the free chain
  pub deleted : decode (store_after 4 (Delete b ∷ abc))
      ≡ record { capacity = 4; tree = black 2 c (3 ∷ []) (red 1 a (1 ∷ []) nil nil) nil; free = 3 ∷ 4 ∷ [] }
  pub heads : (header (store_after 4 (Delete b ∷ abc))).free ≡ 3
  -- a, b, c, `witness` of aa: Fork(a, Fork(b, Pruned c)), values Pruned
  pub between : (out : List ℕ)
      → length (write (Fork (cut a (1 ∷ [])) (Fork (cut b (2 ∷ [])) (Pruned (labeled_hash c (leaf_hash (3 ∷ []))))))) ≤ length out
      → witness_answer aa (store_after 3 abc) out ≡ filled (write (Fork (cut a (1 ∷ [])) (Fork (cut b (2 ∷ [])) (Pruned (labeled_hash c (leaf_hash (3 ∷ []))))))) out
  -- keys a, b, ba, c: prefix b labels b, ba, c; prefix bb labels ba, c
  pub prefix-b : (out : List ℕ) → length (write from_b) ≤ length out → keys_with_prefix_answer b (store_after 4 prefixes) out ≡ filled (write from_b) out
  pub labels-b : labels from_b ≡ b ∷ ba ∷ c ∷ []
  pub prefix-bb : (out : List ℕ) → length (write from_ba) ≤ length out → keys_with_prefix_answer bb (store_after 4 prefixes) out ≡ filled (write from_ba) out
  pub labels-bb : labels from_ba ≡ ba ∷ c ∷ []
