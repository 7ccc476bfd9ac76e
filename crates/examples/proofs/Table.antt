-- The table of the starred examples holds. Digests stay shut: no example computes one.
use mathlib.Core.Path.{◌≡◌, refl, ap, sym, ◌∙◌}
use mathlib.Core.List.{List, [], ◌∷◌, ◌++◌}
use Prim.Native.Nat.{ℕ, ◌≤◌}
use native.Mathlib.Omega.{arith}
use lib.Dec.{lit≤}
use lib.ListN.{length}
use Rattle.key_order.specs.Order.{cmp, is_prefix_of}
use Rattle.slots.specs.declared.Header.{Header}
use Rattle.slots.specs.Bits.{joined, fields, recut}
use Rattle.slots.specs.Layout.{head_at, key_at, value_at, digest_at, place, zeros}
use Rattle.slots.specs.Setters.{put_room, set_header, set_slot_as, set_digest, with_slots, bytes_of}
use Rattle.hash_tree.specs.HashTree.{HashTree, Empty, Fork, Labeled, Leaf, Pruned, labeled_hash, leaf_hash}
use Rattle.hash_tree.specs.Written.{piece, write}
use Rattle.llrb.specs.Tree.{nil, balance, get, insert_go, insert, size, entries}
use Rattle.llrb.specs.Map.{pairs}
use Rattle.llrb.specs.Delete.{ready_left, ready_right, lean_right, delete_min, delete_go, ready, delete, freed}
use Rattle.llrb.specs.Digests.{subtree_digest}
use Rattle.llrb.specs.Path.{subtree_at}
use Rattle.witness_trees.specs.Shown.{three_way_fork}
use Rattle.witness_trees.specs.Witness.{lower_bound, upper_bound, right_prefix_neighbor, full_witness_tree, witness_range_above, witness_range_between, range_witness, lookup_and_build_witness, keys, value_range, keys_with_prefix, witness}
use Rattle.store.specs.Numbers.{Outcome, done}
use Rattle.store.specs.Model.{Model, head, fresh, inserted, deleted}
use Rattle.store.specs.Sound.{Represents}
use Rattle.store.specs.Encode.{encode_in, encode}
use Rattle.store.specs.Decode.{decode}
use Rattle.store.specs.Calls.{insert_in, delete_in, of_key, of_range, create_answer, keys_answer, witness_answer, keys_with_prefix_answer, value_range_answer}
use Rattle.store.specs.History.{Edit, Insert, Delete, store_after, model_after}
use Rattle.store.proofs.Running.{store-holds, store-decodes}
use Rattle.store.proofs.Witnessing.{has_room, no_room}
use Rattle.examples.specs.Examples.{a, b, c, d, aa, bb, black, red, abc, dcba, prefixes, SameMap, filled, cut, whole, from_b, from_ba, Examples}

-- the store after a history of n slots holds the model after it
held : (h : List Edit) → Represents (store_after 4 h) (model_after 4 h)
held h = store-holds 4 (lit≤ tt) (lit≤ tt) h

decoded : (h : List Edit) → decode (store_after 4 h) ≡ model_after 4 h
decoded h = store-decodes 4 (lit≤ tt) (lit≤ tt) h

fresh-bytes : encode (fresh 1) ≡ (0x10 ∷ 0x02 ∷ 0x00 ∷ 0x00 ∷ 0x00 ∷ 0x01 ∷ 0x00 ∷ 0x00 ∷ []) ++ zeros 150
unfolding encode_in fresh bytes_of with_slots set_header set_slot_as set_digest put_room place head_at key_at value_at digest_at recut joined fields subtree_at size zeros
fresh-bytes = refl

fresh-is : (s : List ℕ) → length s ≡ 158
    → create_answer 1 s ≡ record { number = 0; store = (0x10 ∷ 0x02 ∷ 0x00 ∷ 0x00 ∷ 0x00 ∷ 0x01 ∷ 0x00 ∷ 0x00 ∷ []) ++ zeros 150 }
unfolding create_answer
fresh-is s e = rw (e, fresh-bytes)

-- ---- shapes

three-is : model_after 4 abc ≡ record { capacity = 4; tree = black 2 b (2 ∷ []) (black 1 a (1 ∷ []) nil nil) (black 3 c (3 ∷ []) nil nil); free = 4 ∷ [] }
unfolding model_after fresh insert_in inserted insert insert_go balance get cmp
three-is = refl

four_is : (model_after 4 (Insert d (4 ∷ []) ∷ abc)).tree ≡ black 2 b (2 ∷ []) (black 1 a (1 ∷ []) nil nil) (black 4 d (4 ∷ []) (red 3 c (3 ∷ []) nil nil) nil)
unfolding model_after fresh insert_in inserted insert insert_go balance get cmp
four_is = refl

turned-is : (model_after 4 dcba).tree ≡ black 2 c (3 ∷ []) (black 3 b (2 ∷ []) (red 4 a (1 ∷ []) nil nil) nil) (black 1 d (4 ∷ []) nil nil)
unfolding model_after fresh insert_in inserted insert insert_go balance get cmp
turned-is = refl

same-is : SameMap (model_after 4 dcba).tree (model_after 4 (Insert d (4 ∷ []) ∷ abc)).tree
unfolding model_after fresh insert_in inserted insert insert_go balance get cmp
same-is = refl

map_of : (h : List Edit) → SameMap (decode (store_after 4 h)).tree (model_after 4 h).tree
map_of h = ap (λ (m : Model). pairs (entries m.tree)) (decoded h)

deleted-is : model_after 4 (Delete b ∷ abc) ≡ record { capacity = 4; tree = black 2 c (3 ∷ []) (red 1 a (1 ∷ []) nil nil) nil; free = 3 ∷ 4 ∷ [] }
unfolding model_after fresh insert_in inserted insert insert_go balance get cmp delete_in deleted delete delete_go delete_min ready ready_left ready_right lean_right size freed
deleted-is = refl

-- ---- witnesses

keys-is : (m : Model) → m ≡ model_after 1 [] → keys m.tree ≡ Empty
unfolding model_after fresh keys full_witness_tree
keys-is m e = rw e

empty-is : (out : List ℕ) → 2 ≤ length out → keys_answer (store_after 1 []) out ≡ filled (0x00 ∷ 0x00 ∷ []) out
unfolding keys_answer write piece
empty-is out r =
    has_room (λ m. done (keys m.tree)) Empty out (store-holds 1 (lit≤ tt) (lit≤ tt) []) (ap {B = Outcome HashTree} done (keys-is (model_after 1 []) refl)) r

one-is : of_key witness a (model_after 1 (Insert a (0x07 ∷ []) ∷ [])) ≡ done (Labeled a (Leaf (0x07 ∷ [])))
unfolding of_key model_after fresh insert_in inserted insert insert_go balance get cmp witness lookup_and_build_witness three_way_fork
one-is = refl

one-witness : (out : List ℕ) → 6 ≤ length out
    → witness_answer a (store_after 1 (Insert a (0x07 ∷ []) ∷ [])) out ≡ filled (0x40 ∷ 0x01 ∷ 0x61 ∷ 0x60 ∷ 0x01 ∷ 0x07 ∷ []) out
unfolding witness_answer write piece
one-witness out r = has_room (of_key witness a) (Labeled a (Leaf (0x07 ∷ []))) out (store-holds 1 (lit≤ tt) (lit≤ tt) (Insert a (0x07 ∷ []) ∷ [])) one-is r

abbrev shown : HashTree
shown = Fork (Labeled a (Leaf (1 ∷ []))) (Fork (Labeled b (Leaf (2 ∷ []))) (Labeled c (Leaf (3 ∷ []))))

range-is : of_range value_range a c (model_after 3 abc) ≡ done shown
unfolding of_range model_after fresh insert_in inserted insert insert_go balance get cmp value_range range_witness witness_range_between lower_bound upper_bound three_way_fork
range-is = refl

range-fits : (out : List ℕ) → length out ≡ 22 → value_range_answer a c (store_after 3 abc) out ≡ filled whole out
unfolding value_range_answer write piece
range-fits out r = has_room (of_range value_range a c) shown out (store-holds 3 (lit≤ tt) (lit≤ tt) abc) range-is (omega arith)

range-tight : (out : List ℕ) → length out ≡ 21 → value_range_answer a c (store_after 3 abc) out ≡ record { number = 6; size = 0; output = out }
unfolding value_range_answer write piece
range-tight out r = no_room (of_range value_range a c) shown out (store-holds 3 (lit≤ tt) (lit≤ tt) abc) range-is (omega arith)

abbrev gap : HashTree
gap = Fork (cut a (1 ∷ [])) (Fork (cut b (2 ∷ [])) (Pruned (labeled_hash c (leaf_hash (3 ∷ [])))))

gap_is : of_key witness aa (model_after 3 abc) ≡ done gap
unfolding of_key model_after fresh insert_in inserted insert insert_go balance get cmp witness lookup_and_build_witness range_witness witness_range_between lower_bound upper_bound three_way_fork subtree_digest
gap_is = refl

gap-witness : (out : List ℕ) → length (write gap) ≤ length out → witness_answer aa (store_after 3 abc) out ≡ filled (write gap) out
unfolding witness_answer
gap-witness out r = has_room (of_key witness aa) gap out (store-holds 3 (lit≤ tt) (lit≤ tt) abc) gap_is r

-- ---- prefixes

prefix-b-is : of_key keys_with_prefix b (model_after 4 prefixes) ≡ done from_b
unfolding of_key model_after fresh insert_in inserted insert insert_go balance get cmp keys_with_prefix range_witness witness_range_above witness_range_between lower_bound right_prefix_neighbor is_prefix_of three_way_fork full_witness_tree subtree_digest
prefix-b-is = refl

prefix-b-witness : (out : List ℕ) → length (write from_b) ≤ length out → keys_with_prefix_answer b (store_after 4 prefixes) out ≡ filled (write from_b) out
unfolding keys_with_prefix_answer
prefix-b-witness out r = has_room (of_key keys_with_prefix b) from_b out (held prefixes) prefix-b-is r

prefix-bb-is : of_key keys_with_prefix bb (model_after 4 prefixes) ≡ done from_ba
unfolding of_key model_after fresh insert_in inserted insert insert_go balance get cmp keys_with_prefix range_witness witness_range_above witness_range_between lower_bound right_prefix_neighbor is_prefix_of three_way_fork full_witness_tree subtree_digest
prefix-bb-is = refl

prefix-bb-witness : (out : List ℕ) → length (write from_ba) ≤ length out → keys_with_prefix_answer bb (store_after 4 prefixes) out ≡ filled (write from_ba) out
unfolding keys_with_prefix_answer
prefix-bb-witness out r = has_room (of_key keys_with_prefix bb) from_ba out (held prefixes) prefix-bb-is r

-- ---- the table

pub examples : Examples
examples =
    record {
      fresh = fresh-is;
      empty = empty-is;
      one = one-witness;
      range = range-fits;
      tight = range-tight;
      three = ap (λ (m : Model). m.tree) (decoded abc ∙ three-is);
      four = ap (λ (m : Model). m.tree) (decoded (Insert d (4 ∷ []) ∷ abc)) ∙ four_is;
      turned = ap (λ (m : Model). m.tree) (decoded dcba) ∙ turned-is;
      same = map_of dcba ∙ same-is ∙ sym (map_of (Insert d (4 ∷ []) ∷ abc));
      deleted = decoded (Delete b ∷ abc) ∙ deleted-is;
      heads = ap (λ (h : Header). h.free) (held (Delete b ∷ abc)).laid.header ∙ ap (λ (m : Model). head m.free) deleted-is;
      between = gap-witness;
      prefix-b = prefix-b-witness;
      labels-b = refl;
      prefix-bb = prefix-bb-witness;
      labels-bb = refl;
    }
