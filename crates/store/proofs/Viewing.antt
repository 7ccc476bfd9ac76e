-- Request Q-10: what value_range answers on a sound store is worked out from the store's view alone, so two sound stores with one view give
-- one answer. (By the contract of register_map `value_range`, which is `value_range_answer`, the same holds of the code.)
use mathlib.Core.Path.{◌≡◌, refl, sym, ap, ◌∙◌}
use mathlib.Core.Bool.{Bool, true, false, cond, ◌||◌}
use mathlib.Core.List.{List, [], ◌∷◌}
use Prim.Native.Nat.{ℕ}
use lib.Dec.{ltb, lit≤}
use lib.ListN.{length, drop}
use lib.Seq.{take-append_seam}
use Rattle.key_order.specs.Order.{Key, cmp}
use Rattle.hash_tree.specs.HashTree.{Digest, HashTree}
use Rattle.hash_tree.specs.Written.{write}
use Rattle.slots.specs.Layout.{current, digest_of}
use Rattle.llrb.specs.Tree.{Entry, Tree, nil, node, balance, get, insert_go, insert}
use Rattle.llrb.specs.Digests.{data_digest, subtree_digest}
use Rattle.witness_trees.specs.Witness.{value_range}
use Rattle.witness_trees.specs.Rules.{Le}
use Rattle.witness_trees.specs.View.{Seen, Value, Other, View, none, part, view, view_of}
use Rattle.witness_trees.proofs.View.{value-range-view}
use Rattle.store.specs.Numbers.{refused, done, number_of, NotSound, LongKey, NoRoom}
use Rattle.store.specs.Model.{Model, root, fresh, inserted}
use Rattle.store.specs.Sound.{Digests, Represents, Sound}
use Rattle.store.specs.Answers.{written, fitting}
use Rattle.store.specs.Calls.{refuse, long_key, of_range, insert_in, witnessed, value_range_answer}
use Rattle.store.specs.History.{Edit, Insert, store_after, model_after}
use Rattle.store.specs.Viewed.{view_in, given, nothing_given, from_view_answer}
use Rattle.store.proofs.Decoding.{decoded, on-sound}
use Rattle.store.proofs.Seats.{marks-digests}
use Rattle.store.proofs.Demand.{not-reversed}
use Rattle.store.proofs.Running.{store-holds}

-- ---- the view of a sound store is that of its tree

digests-view : (s : List ℕ) (g : Entry → Seen) (t : Tree) → Digests s t → view (λ u. digest_of s (root u)) g t ≡ view subtree_digest g t
unfolding view
digests-view s g nil d = refl
digests-view s g (node c e l r) d = rw (d.0, digests-view s g l d.1, digests-view s g r d.2)

pub view-is : {s : List ℕ} {m : Model} → Represents s m → (first last : Key) → view_in first last s ≡ view_of subtree_digest first last m.tree
view-is {s} {m} a first last =
    ap (λ (n : Model). view_of (λ u. digest_of s (root u)) first last n.tree) (decoded a) ∙ digests-view s _ m.tree (marks-digests current s m.tree a.laid.marks)

-- ---- the call

given-fit : (out w : List ℕ) (y : Bool)
    → given (written out (cond y (refused NoRoom) (done w))) ≡ cond y (nothing_given (number_of NoRoom)) (record { number = 0; size = length w; bytes = w })
given-fit out w true = refl
given-fit out w false = rw (take-append_seam w (drop (length w) out))

given_is : (out : List ℕ) (u : HashTree) (x : Bool)
    → given (written out (fitting out (refuse x LongKey (done u))))
    ≡ cond x (nothing_given (number_of LongKey)) (cond (ltb (length out) (length (write u))) (nothing_given (number_of NoRoom)) (record { number = 0; size = length (write u); bytes = write u }))
unfolding fitting
given_is out u true = refl
given_is out u false = given-fit out (write u) (ltb (length out) (length (write u)))

-- OF THE CALL: number, length and written bytes from the view alone
pub value-range-given : {s : List ℕ} → Sound s → (first last : Key) → Le first last → (out : List ℕ)
    → given (value_range_answer first last s out) ≡ from_view_answer first last (view_in first last s) (length out)
unfolding value_range_answer witnessed of_range from_view_answer
value-range-given {s} (m, a) first last o out =
    rw (on-sound a (of_range value_range first last) (refused NotSound), not-reversed first last o, view-is a first last, ← (value-range-view first last m.tree a.lawful.ordered o))
    (given_is out (value_range first last m.tree) (long_key first || long_key last))

-- TWO STORES WITH ONE VIEW GIVE ONE ANSWER
pub two-stores : {s s' : List ℕ} → Sound s → Sound s' → (first last : Key) → Le first last → view_in first last s ≡ view_in first last s'
    → (out out' : List ℕ) → length out ≡ length out' → given (value_range_answer first last s out) ≡ given (value_range_answer first last s' out')
two-stores x y first last o v out out' n =
    value-range-given x first last o out ∙ (λ i. from_view_answer first last (v i) (n i)) ∙ sym (value-range-given y first last o out')

-- ---- it is no empty claim: the map a, b, c in two capacities and two orders of its slots has one view, whatever the range

abbrev abc : (third : ℕ) → List Edit
abc v = Insert (99 ∷ []) (v ∷ []) ∷ Insert (98 ∷ []) (2 ∷ []) ∷ Insert (97 ∷ []) (1 ∷ []) ∷ []

abbrev bac : List Edit
bac = Insert (99 ∷ []) (3 ∷ []) ∷ Insert (97 ∷ []) (1 ∷ []) ∷ Insert (98 ∷ []) (2 ∷ []) ∷ []

abbrev leaf : (slot : ℕ) → Key → (value : ℕ) → Tree
leaf i k v = node false (record { slot = i; key = k; value = v ∷ [] }) nil nil

-- a in slot i, b in slot j
abbrev three : (i j : ℕ) → (third : ℕ) → Tree
three i j v = node false (record { slot = j; key = 98 ∷ []; value = 2 ∷ [] }) (leaf i (97 ∷ []) 1) (leaf 3 (99 ∷ []) v)

abc-is : model_after 3 (abc 3) ≡ record { capacity = 3; tree = three 1 2 3; free = [] }
unfolding model_after fresh insert_in inserted insert insert_go balance get cmp
abc-is = refl

bac-is : model_after 4 bac ≡ record { capacity = 4; tree = three 2 1 3; free = 4 ∷ [] }
unfolding model_after fresh insert_in inserted insert insert_go balance get cmp
bac-is = refl

slots-aside : (first last : Key) → view_of subtree_digest first last (three 1 2 3) ≡ view_of subtree_digest first last (three 2 1 3)
unfolding view subtree_digest
slots-aside first last = refl

pub one-view : (first last : Key) → view_in first last (store_after 3 (abc 3)) ≡ view_in first last (store_after 4 bac)
one-view first last =
    view-is (store-holds 3 (lit≤ tt) (lit≤ tt) (abc 3)) first last ∙ ap (λ (m : Model). view_of subtree_digest first last m.tree) abc-is
    ∙ slots-aside first last
    ∙ sym (view-is (store-holds 4 (lit≤ tt) (lit≤ tt) bac) first last ∙ ap (λ (m : Model). view_of subtree_digest first last m.tree) bac-is)

-- another value of c, which is outside the range a to b: the views differ in digests alone

abbrev up_to_b : (top right : Digest) → View
up_to_b top right =
    part top (Value (98 ∷ []) (2 ∷ [])) (part (data_digest (record { slot = 1; key = 97 ∷ []; value = 1 ∷ [] })) (Value (97 ∷ []) (1 ∷ [])) none none) (part right (Other right) none none)

abbrev third : (value : ℕ) → Entry
third v = record { slot = 3; key = 99 ∷ []; value = v ∷ [] }

view-ab : (v : ℕ) → view_of subtree_digest (97 ∷ []) (98 ∷ []) (three 1 2 v) ≡ up_to_b (subtree_digest (three 1 2 v)) (data_digest (third v))
unfolding view subtree_digest cmp
view-ab v = refl

abc-9 : model_after 3 (abc 9) ≡ record { capacity = 3; tree = three 1 2 9; free = [] }
unfolding model_after fresh insert_in inserted insert insert_go balance get cmp
abc-9 = refl

pub digests-alone : (view_in (97 ∷ []) (98 ∷ []) (store_after 3 (abc 3)) ≡ up_to_b (subtree_digest (three 1 2 3)) (data_digest (third 3)))
    × (view_in (97 ∷ []) (98 ∷ []) (store_after 3 (abc 9)) ≡ up_to_b (subtree_digest (three 1 2 9)) (data_digest (third 9)))
digests-alone = (
  view-is (store-holds 3 (lit≤ tt) (lit≤ tt) (abc 3)) (97 ∷ []) (98 ∷ []) ∙ ap (λ (m : Model). view_of subtree_digest (97 ∷ []) (98 ∷ []) m.tree) abc-is ∙ view-ab 3,
  view-is (store-holds 3 (lit≤ tt) (lit≤ tt) (abc 9)) (97 ∷ []) (98 ∷ []) ∙ ap (λ (m : Model). view_of subtree_digest (97 ∷ []) (98 ∷ []) m.tree) abc-9 ∙ view-ab 9,
)
