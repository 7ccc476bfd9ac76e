-- THE RESULTS: what every public call gives, on every ordered tree.
use mathlib.Core.Path.{◌≡◌, refl, sym, ap, ◌∙◌, subst}
use mathlib.Core.Bool.{Bool, true, false, not, cond, ◌&&◌, ◌||◌, true≢false}
use mathlib.Core.List.{List, [], ◌∷◌, ◌++◌}
use mathlib.Core.Option.{none, some}
use Rattle.std.specs.declared.cmp.Ordering.{Ordering}
use Rattle.std.specs.declared.cmp.Ordering.TheVariants.{Less, Equal, Greater}
use Rattle.key_order.specs.Order.{Key, cmp, pick}
use Rattle.key_order.proofs.Laws.{cmp-refl, cmp-eq, gt-lt, lt-gt, lt≢eq, gt≢eq}
use Rattle.hash_tree.specs.HashTree.{Empty, empty_hash, digest}
use Rattle.llrb.specs.Tree.{Entry, Tree, nil, entries, get}
use Rattle.llrb.specs.Sorted.{Above, Sorted}
use Rattle.llrb.specs.Map.{pairs, find_e}
use Rattle.llrb.proofs.Get.{get-find, find-some, find_none}
use Rattle.llrb.specs.Digests.{subtree_digest}
use Rattle.witness_trees.specs.Reading.{labels, leaves, says}
use Rattle.witness_trees.specs.Shown.{What, Hide, Label, Show, item, shown}
use Rattle.witness_trees.specs.Witness.{keys_only, values, lower_bound, upper_bound, right_prefix_neighbor, full_witness_tree, range_witness, lookup_and_build_witness, as_hash_tree, keys, key_range, value_range, keys_with_prefix, witness}
use Rattle.witness_trees.specs.Rules.{In, here, there, Le, upto, below, none_of, next_below, next_above, wanted, wanted_prefix, within, range_rule, prefix_rule, keys_of, filter, values_in, tells, Witness, every, nothing}
use Rattle.witness_trees.proofs.Shown.{digest-shown, reads-labels, reads-leaves, reads-says, flat, reads-shown, depth-shown}
use Rattle.witness_trees.proofs.Lists.{mem-in, above_in}
use Rattle.witness_trees.proofs.Rules.{none-not}
use Rattle.witness_trees.proofs.Calls.{as-hash-tree-is, keys-is, key-range-is, value-range-is, keys-with-prefix-is, witness-is}

-- ---- a rule that is two tests on keys

abbrev pub rule_of : Bool → Bool → What
rule_of label value = cond label (cond value Show Label) Hide

module _ (f : Entry → What) (label value : Key → Bool) where
  flat-labels : (L : List Entry) → ((e : Entry) → In e L → f e ≡ rule_of (label e.key) (value e.key))
      → flat (λ e. labels (item (f e) e)) L ≡ filter label (keys_of L)
  flat-labels [] h = refl
  flat-labels (e ∷ L) h = rw (h e here, flat-labels L (λ x i. h x (there i))) (go (label e.key) (value e.key))
    where
      go : (a b : Bool) → labels (item (rule_of a b) e) ++ filter label (keys_of L) ≡ cond a (e.key ∷ filter label (keys_of L)) (filter label (keys_of L))
      go true true = refl
      go true false = refl
      go false b = refl

  flat-says : (L : List Entry) → ((e : Entry) → In e L → f e ≡ rule_of (label e.key) (value e.key))
      → flat (λ e. says (item (f e) e)) L ≡ tells label value (pairs L)
  flat-says [] h = refl
  flat-says (e ∷ L) h = rw (h e here, flat-says L (λ x i. h x (there i))) (go (label e.key) (value e.key))
    where
      go : (a b : Bool) → says (item (rule_of a b) e) ++ tells label value (pairs L)
          ≡ cond a (record { key = e.key; value = cond b (some e.value) none } ∷ tells label value (pairs L)) (tells label value (pairs L))
      go true true = refl
      go true false = refl
      go false b = refl

  flat-leaves : (L : List Entry) → ((e : Entry) → In e L → f e ≡ rule_of (label e.key) (value e.key))
      → ((e : Entry) → value e.key ≡ true → label e.key ≡ true)
      → flat (λ e. leaves (item (f e) e)) L ≡ values_in value (pairs L)
  flat-leaves [] h k = refl
  flat-leaves (e ∷ L) h k = rw (h e here, flat-leaves L (λ x i. h x (there i)) k) (go (label e.key) (value e.key) (k e))
    where
      go : (a b : Bool) → (b ≡ true → a ≡ true) → leaves (item (rule_of a b) e) ++ values_in value (pairs L) ≡ cond b (e.value ∷ values_in value (pairs L)) (values_in value (pairs L))
      go true true u = refl
      go true false u = refl
      go false true u = absurd (true≢false (sym (u refl)))
      go false false u = refl

  pub shown-witness : (t : Tree) → ((e : Entry) → In e (entries t) → f e ≡ rule_of (label e.key) (value e.key))
      → ((e : Entry) → value e.key ≡ true → label e.key ≡ true) → Witness t (pairs (entries t)) label value (shown f t)
  shown-witness t h k = record {
    rebuilds = digest-shown f t;
    labelled = reads-shown labels reads-labels f t ∙ flat-labels (entries t) h;
    valued = reads-shown leaves reads-leaves f t ∙ flat-leaves (entries t) h k;
    told = reads-shown says reads-says f t ∙ flat-says (entries t) h;
    low = depth-shown f t;
  }

-- ---- the calls

pub as-hash-tree-witness : (t : Tree) → Witness t (pairs (entries t)) every every (as_hash_tree t)
as-hash-tree-witness t = rw (as-hash-tree-is t) (shown-witness (λ e. Show) every every t (λ e i. refl) (λ e h. refl))

pub keys-witness : (t : Tree) → Witness t (pairs (entries t)) every nothing (keys t)
keys-witness t = rw (keys-is t) (shown-witness (λ e. Label) every nothing t (λ e i. refl) (λ e h. refl))

pub rule-keys : (a r : Bool) → cond a Label (cond (a || r) Label Hide) ≡ rule_of (a || r) false
rule-keys true r = refl
rule-keys false r = refl

pub rule-values : (a r : Bool) → cond a Show (cond (a || r) Label Hide) ≡ rule_of (a || r) a
rule-values true r = refl
rule-values false true = refl
rule-values false false = refl

pub or_left : (a r : Bool) → a ≡ true → (a || r) ≡ true
or_left a r h = rw h

pub key-range-witness : (first last : Key) (t : Tree) → Sorted (entries t) → Le first last
    → Witness t (pairs (entries t)) (wanted first last (keys_of (entries t))) nothing (key_range first last t)
key-range-witness first last t s h =
    let ks = keys_of (entries t) in
    rw (key-range-is first last t s h) (shown-witness (range_rule first last ks keys_only) (wanted first last ks) nothing t
    (λ e i. rule-keys (within first last e.key) (next_below first ks e.key || next_above last ks e.key))
    (λ e u. absurd (true≢false (sym u))))

pub value-range-witness : (first last : Key) (t : Tree) → Sorted (entries t) → Le first last
    → Witness t (pairs (entries t)) (wanted first last (keys_of (entries t))) (within first last) (value_range first last t)
value-range-witness first last t s h =
    let ks = keys_of (entries t) in
    rw (value-range-is first last t s h) (shown-witness (range_rule first last ks values) (wanted first last ks) (within first last) t
    (λ e i. rule-values (within first last e.key) (next_below first ks e.key || next_above last ks e.key))
    (λ e u. or_left (within first last e.key) (next_below first ks e.key || next_above last ks e.key) u))

pub prefix-witness : (p : Key) (t : Tree) → Sorted (entries t)
    → Witness t (pairs (entries t)) (wanted_prefix p (keys_of (entries t))) nothing (keys_with_prefix p t)
prefix-witness p t s =
    let ks = keys_of (entries t) in
    rw (keys-with-prefix-is p t s) (shown-witness (prefix_rule p ks) (wanted_prefix p ks) nothing t (λ e i. refl) (λ e u. absurd (true≢false (sym u))))

pub one-witness : (k : Key) (t : Tree) → Sorted (entries t)
    → Witness t (pairs (entries t)) (wanted k k (keys_of (entries t))) (within k k) (witness k t)
one-witness k t s =
    let ks = keys_of (entries t) in
    rw (witness-is k t s) (shown-witness (range_rule k k ks values) (wanted k k ks) (within k k) t
    (λ e i. rule-values (within k k e.key) (next_below k ks e.key || next_above k ks e.key))
    (λ e u. or_left (within k k e.key) (next_below k ks e.key || next_above k ks e.key) u))

-- ---- the same in plainer words where there are some

filter-every : (ks : List Key) → filter every ks ≡ ks
filter-every [] = refl
filter-every (k ∷ ks) = ap {B = List Key} (λ (r : List Key). k ∷ r) (filter-every ks)

values-none : (L : List Entry) → values_in nothing (pairs L) ≡ []
values-none [] = refl
values-none (e ∷ L) = values-none L

-- `keys` labels every keys and shows no value
pub keys-labels : (t : Tree) → labels (keys t) ≡ keys_of (entries t)
keys-labels t = (keys-witness t).labelled ∙ filter-every (keys_of (entries t))

pub keys-leaves : (t : Tree) → leaves (keys t) ≡ []
keys-leaves t = (keys-witness t).valued ∙ values-none (entries t)

pub as-hash-tree-labels : (t : Tree) → labels (as_hash_tree t) ≡ keys_of (entries t)
as-hash-tree-labels t = (as-hash-tree-witness t).labelled ∙ filter-every (keys_of (entries t))

pub as-hash-tree-digest : (t : Tree) → digest (as_hash_tree t) ≡ subtree_digest t
as-hash-tree-digest t = (as-hash-tree-witness t).rebuilds

-- no key range shows a value
pub key-range-leaves : (first last : Key) (t : Tree) → Sorted (entries t) → Le first last → leaves (key_range first last t) ≡ []
key-range-leaves first last t s h = (key-range-witness first last t s h).valued ∙ values-none (entries t)

pub prefix-leaves : (p : Key) (t : Tree) → Sorted (entries t) → leaves (keys_with_prefix p t) ≡ []
prefix-leaves p t s = (prefix-witness p t s).valued ∙ values-none (entries t)

-- `witness` of a present key: that key alone, with its value
tells_none : (label value : Key → Bool) (L : List Entry) → ((e : Entry) → In e L → label e.key ≡ false) → tells label value (pairs L) ≡ []
tells_none label value [] h = refl
tells_none label value (e ∷ L) h = rw (h e here) (tells_none label value L (λ x i. h x (there i)))

not-wanted : (k : Key) (L : List Entry) (b : Entry) → In b L → k ≡ b.key → (e : Entry) → (cmp k e.key ≡ Equal → ⊥) → wanted k k (keys_of L) e.key ≡ false
not-wanted k L b i h e n = go (cmp k e.key) refl
  where
    go : (o : Ordering) → cmp k e.key ≡ o → wanted k k (keys_of L) e.key ≡ false
    go Less q =
        rw (lt-gt k e.key q, q, none-not (λ x. upto k x && below x e.key) b i (rw (← h, cmp-refl k, lt-gt k e.key q)))
    go Equal q = absurd (n q)
    go Greater q =
        rw (gt-lt k e.key q, q, none-not (λ x. below e.key x && upto x k) b i (rw (← h, cmp-refl k, q)))

-- a test that only b's key passes
module _ (label : Key → Bool) (b : Entry) (no : (e : Entry) → (cmp b.key e.key ≡ Equal → ⊥) → label e.key ≡ false) (yes' : label b.key ≡ true) where
  after : (L : List Entry) → Above b.key L → (e : Entry) → In e L → label e.key ≡ false
  after L a e i = no e (λ q. lt≢eq (above_in b.key a i) q)

  before : (x : Entry) {L : List Entry} → Above x.key L → In b L → label x.key ≡ false
  before x a i = no x (λ q. gt≢eq (lt-gt x.key b.key (above_in x.key a i)) q)

  pub tells-one : {L : List Entry} → Sorted L → In b L → tells label (within b.key b.key) (pairs L) ≡ record { key = b.key; value = some b.value } ∷ []
  tells-one s (here {L = L}) = rw (yes', cmp-refl b.key, tells_none label (within b.key b.key) L (after L s.0))
  tells-one s (there {x = x} i) = rw (before x s.0 i) (tells-one s.1 i)

  pub filter-one : {L : List Entry} → Sorted L → In b L → filter label (keys_of L) ≡ b.key ∷ []
  filter-one s (here {L = L}) = rw yes' (ap {B = List Key} (λ (r : List Key). b.key ∷ r) (none L (after L s.0)))
    where
      none : (L : List Entry) → ((e : Entry) → In e L → label e.key ≡ false) → filter label (keys_of L) ≡ []
      none [] h = refl
      none (e ∷ L) h = rw (h e here) (none L (λ x i. h x (there i)))
  filter-one s (there {x = x} i) = rw (before x s.0 i) (filter-one s.1 i)

wanted-self : (k : Key) (ks : List Key) → wanted k k ks k ≡ true
wanted-self k ks = rw (cmp-refl k)

pub witness-present : (b : Entry) (t : Tree) → Sorted (entries t) → In b (entries t)
    → (labels (witness b.key t) ≡ b.key ∷ []) × (says (witness b.key t) ≡ record { key = b.key; value = some b.value } ∷ [])
witness-present b t s i =
    let k = b.key in
    let no = not-wanted k (entries t) b i refl in
    let on = wanted-self k (keys_of (entries t)) in (
      (one-witness k t s).labelled ∙ filter-one (wanted k k (keys_of (entries t))) b no on s i,
      (one-witness k t s).told ∙ tells-one (wanted k k (keys_of (entries t))) b no on s i,
    )

-- of an absent key: its neighbours, no value
same-filter : (g h : Key → Bool) (L : List Entry) → ((e : Entry) → In e L → g e.key ≡ h e.key) → filter g (keys_of L) ≡ filter h (keys_of L)
same-filter g h [] u = refl
same-filter g h (e ∷ L) u = rw (u e here, same-filter g h L (λ x i. u x (there i)))

same-values : (g h : Key → Bool) (L : List Entry) → ((e : Entry) → In e L → g e.key ≡ h e.key) → values_in g (pairs L) ≡ values_in h (pairs L)
same-values g h [] u = refl
same-values g h (e ∷ L) u = rw (u e here, same-values g h L (λ x i. u x (there i)))

not_within : (k x : Key) → (cmp k x ≡ Equal → ⊥) → within k k x ≡ false
not_within k x n = go (cmp k x) refl
  where
    go : (o : Ordering) → cmp k x ≡ o → within k k x ≡ false
    go Less q = rw (q, lt-gt k x q)
    go Equal q = absurd (n q)
    go Greater q = rw q

pub witness-absent : (k : Key) (t : Tree) → Sorted (entries t) → ((x : Entry) → In x (entries t) → cmp k x.key ≡ Equal → ⊥)
    → (labels (witness k t) ≡ filter (λ x. next_below k (keys_of (entries t)) x || next_above k (keys_of (entries t)) x) (keys_of (entries t)))
    × (leaves (witness k t) ≡ [])
witness-absent k t s n =
    let ks = keys_of (entries t) in (
      (one-witness k t s).labelled ∙ same-filter (wanted k k ks) (λ x. next_below k ks x || next_above k ks x) (entries t) (λ e i. rw (not_within k e.key (n e i))),
      (one-witness k t s).valued ∙ same-values (within k k) nothing (entries t) (λ e i. not_within k e.key (n e i)) ∙ values-none (entries t),
    )

-- the same by what `get` answers
find-in : (k : Key) (L : List Entry) (e : Entry) → find_e k L ≡ some e → In e L × (k ≡ e.key)
unfolding find_e
find-in k [] e h = absurd (find-some k [] e h)
find-in k (x ∷ L) e h = go (cmp k x.key) refl h (find-in k L e)
  where
    go : (o : Ordering) → cmp k x.key ≡ o → pick o (find_e k L) (some x) (find_e k L) ≡ some e → (find_e k L ≡ some e → In e L × (k ≡ e.key))
        → In e (x ∷ L) × (k ≡ e.key)
    go Less q u i = let r = i u in (there r.0, r.1)
    go Equal q u i = let p : x ≡ e = cc in subst (λ (y : Entry). In y (x ∷ L) × (k ≡ y.key)) p (here, cmp-eq k x.key q)
    go Greater q u i = let r = i u in (there r.0, r.1)

pub witness-found : (k : Key) (e : Entry) (t : Tree) → Sorted (entries t) → get k t ≡ some e
    → (labels (witness k t) ≡ k ∷ []) × (says (witness k t) ≡ record { key = k; value = some e.value } ∷ [])
witness-found k e t s h =
    let p = find-in k (entries t) e (sym (get-find k t s) ∙ h) in
    rw p.1 (witness-present e t s p.0)

pub witness-missing : (k : Key) (t : Tree) → Sorted (entries t) → get k t ≡ none
    → (labels (witness k t) ≡ filter (λ x. next_below k (keys_of (entries t)) x || next_above k (keys_of (entries t)) x) (keys_of (entries t)))
    × (leaves (witness k t) ≡ [])
witness-missing k t s h =
    witness-absent k t s (λ x i q. find_none k (entries t) (sym (get-find k t s) ∙ h) (rw (cmp-eq k x.key q) (mem-in i)))

-- a Neighbor never shows its value
pub neighbor-hidden : (first last : Key) (ks : List Key) (k : Key) → Le first last
    → (next_below first ks k || next_above last ks k) ≡ true → within first last k ≡ false
neighbor-hidden first last ks k h u =
    go (cmp first k) refl (cmp k last) refl (none_of (λ x. below k x && upto x first) ks) (none_of (λ x. upto last x && below x k) ks) u
  where
    go : (o : Ordering) → cmp first k ≡ o → (v : Ordering) → cmp k last ≡ v → (a b : Bool)
        → ((not (pick o true true false) && a) || (not (pick v true true false) && b)) ≡ true
        → (pick o true true false && pick v true true false) ≡ false
    go Greater q v r a b w = refl
    go Less q Greater r a b w = refl
    go Equal q Greater r a b w = refl
    go Less q Less r a b w = absurd (true≢false (sym w))
    go Less q Equal r a b w = absurd (true≢false (sym w))
    go Equal q Less r a b w = absurd (true≢false (sym w))
    go Equal q Equal r a b w = absurd (true≢false (sym w))

-- the empty map
pub empty-calls : (k j : Key) → (as_hash_tree nil ≡ Empty) × (keys nil ≡ Empty) × (key_range k j nil ≡ Empty) × (value_range k j nil ≡ Empty)
    × (keys_with_prefix k nil ≡ Empty) × (witness k nil ≡ Empty) × (subtree_digest nil ≡ empty_hash)
unfolding as_hash_tree keys key_range value_range keys_with_prefix witness subtree_digest full_witness_tree range_witness lower_bound upper_bound right_prefix_neighbor lookup_and_build_witness
empty-calls k j = (refl, refl, refl, refl, refl, refl, refl)
