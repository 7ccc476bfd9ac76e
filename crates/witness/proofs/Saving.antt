-- From the bytes that were put to what the calls answer on a sound store.
use Prim.Native.Nat.{ℕ, ◌≤◌}
use mathlib.Core.Path.{◌≡◌, refl, sym, ap, subst, ◌∙◌}
use mathlib.Core.Bool.{Bool, true, false, ◌&&◌}
use mathlib.Core.List.{List}
use mathlib.Core.Option.{Option, none, some}
use native.Mathlib.Omega.{arith}
use borrow.Author.Tests.{le-ltb}
use lib.ListN.{length}
use Rattle.output.proofs.Putting.{puts-front}
use Rattle.std.specs.declared.cmp.Ordering.{Ordering}
use Rattle.std.specs.declared.cmp.Ordering.TheVariants.{Less, Equal, Greater}
use Rattle.key_order.specs.Order.{Key, cmp, pick}
use Rattle.key_order.proofs.Laws.{lt-gt, cmp-eq}
use Rattle.hash_tree.specs.HashTree.{HashTree}
use Rattle.hash_tree.specs.Written.{write}
use Rattle.slots.specs.Layout.{current, header}
use Rattle.llrb.specs.Tree.{Entry, Tree, nil, node, entries, get}
use Rattle.llrb.specs.Sorted.{Sorted, Mem}
use Rattle.llrb.proofs.Get.{get-find, find-some, find_none}
use Rattle.store.specs.Numbers.{Outcome, refused, done}
use Rattle.store.specs.Model.{Model}
use Rattle.store.specs.Sound.{Represents, Sound}
use Rattle.store.specs.Answers.{fitting}
use Rattle.store.specs.Calls.{reversed, of_key, of_range, witnessed, as_hash_tree_answer, keys_answer, witness_answer, keys_with_prefix_answer}
use Rattle.store.proofs.Decoding.{on-sound}
use Rattle.store.proofs.Seats.{marks-digests}
use Rattle.witness_trees.specs.Shown.{three_way_fork}
use Rattle.witness_trees.specs.Witness.{Form, keys_only, values, KeyBound, Exact, Neighbor, lower_bound, upper_bound, right_prefix_neighbor, last_arm, full_witness_tree, range_witness, lookup_and_build_witness, or_tree, as_hash_tree, keys, key_range, value_range, keys_with_prefix, witness}
use Rattle.witness_trees.specs.Rules.{InOrder, crossed}
use Rattle.witness_trees.proofs.Bounds.{lower-is, upper_is, past_is}
use Rattle.witness_trees.proofs.Lists.{mem-in, lt-irr}
use Rattle.witness_trees.proofs.Walks.{look_none}
use Rattle.witness_trees.proofs.Reversed.{not-crossed, crossed-above}
use Rattle.witness_trees.proofs.Calls.{Present, join-same, low-present, high-present, past-present, bounds-in-order, prefix-in-order}
use Rattle.search.specs.Search.{Each, Stored, OfBound, EntryAt, Lies, found_slot, bound_slot}
use Rattle.search.specs.declared.KeyBound.{KeyBound as SlotBound}
use Rattle.search.proofs.Lying.{all-stored, represents-lies}
use Rattle.search.proofs.Finding.{low-each, high-each, past-each, get-each}
use Rattle.witness_walks.specs.declared.Walk.{Walk}
use Rattle.witness_walks.specs.declared.Walk.TheVariants.{Full, Lookup}
use Rattle.witness_walks.specs.declared.What.TheVariants.{Label, Show}
use Rattle.witness_walks.specs.declared.Part.TheVariants.{Walked}
use Rattle.witness_walks.specs.Walked.{showing}
use Rattle.witness_walks.specs.InStore.{key_in, BoundsIn}
use Rattle.witness_walks.specs.Bounds.{walk_between, range_walk}
use Rattle.witness_walks.proofs.Never.{range-reached}
use Rattle.witness_walks.proofs.Writing.{part_bytes_lem}
use Rattle.witness_walks.proofs.Walking.{PlacedEnd, walk-full, walk-range, walk-lookup}
use Rattle.answers.specs.declared.Refusal.{Refusal}
use Rattle.answers.specs.declared.Refusal.TheVariants.{NotSound, Reversed}
use Rattle.std.specs.Prelude.{Ok, Err, Result, Some, None}
use Rattle.std.specs.Prelude as code
use Rattle.output.specs.Putting.{Puts}
use Rattle.witness.specs.Putting.{Laid, bytes_below}
use Rattle.witness.specs.Saving.{answered, put_front, CanSave, Saves, BoundIn, crossed_in, CanRange, ranged}

-- ---- the front of the output

pub front-put : {o o' : List ℕ} {k : ℕ} (w : List ℕ) → length w ≤ length o → Puts o o' 0 k w → answered (Ok k) o' ≡ put_front o w
front-put {o = o} w h p =
    let q = puts-front w h p in
    rw (le-ltb (length o) (length w) h) (λ i. record { number = 0; size = q.0 i; output = q.1 i })

-- ---- what get answers

by-entry : (P : ℕ → Type 0) {i : ℕ} {k : Option Entry} (o : Option Entry) → k ≡ o → found_slot o ≡ Some i → ((e : Entry) → k ≡ some e → P e.slot) → P i
by-entry P none h f g = cc
by-entry P {i} (some e) h f g = let q : e.slot ≡ i = cc in subst P q (g e h)

no-entry : (o : Option Entry) → found_slot o ≡ None → o ≡ none
no-entry none f = refl
no-entry (some e) f = cc

get_key : (key : Key) (t : Tree) (e : Entry) → get key t ≡ some e → key ≡ e.key
unfolding get
get_key key nil e h = let z : ◌≡◌ {A = ℕ} 0 1 = cc in absurd (omega arith)
get_key key (node c x l r) e h = go (cmp key x.key) refl h (get_key key l e) (get_key key r e)
  where
    go : (o : Ordering) → cmp key x.key ≡ o → pick o (get key l) (some x) (get key r) ≡ some e → (get key l ≡ some e → key ≡ e.key) → (get key r ≡ some e → key ≡ e.key) → key ≡ e.key
    go Less q u a b = a u
    go Equal q u a b = let w : x ≡ e = cc in cmp-eq key x.key q ∙ ap (λ (y : Entry). y.key) w
    go Greater q u a b = b u

-- ---- a sound store

module _ {s : List ℕ} {m : Model} (rep : Represents s m) where
  abbrev tree : Tree
  tree = m.tree

  pub laid : Laid s (header s).root tree
  laid = record { lies = represents-lies rep; digests = marks-digests current s tree rep.laid.marks }

  ordered : Sorted (entries tree)
  ordered = rep.lawful.ordered

  stored : Each (Stored s) tree
  stored = all-stored tree (represents-lies rep)

  -- what is put is the witness that the model gives
  answer : (o o' : List ℕ) (r : Result ℕ Refusal) (w : List ℕ) (make : Model → Outcome HashTree) (u : HashTree) → make m ≡ done u → w ≡ write u
      → answered r o' ≡ put_front o w → answered r o' ≡ witnessed make s o
  unfolding witnessed fitting
  answer o o' r w make u e f h = h ∙ rw (f, on-sound rep make (refused NotSound), e)

  -- ---- the walk between two bounds of the map

  placed : (b : Option KeyBound) → OfBound (Stored s) b → PlacedEnd (key_in s) keys_only b
  placed none h = tt
  placed (some (Exact e)) h = h.key
  placed (some (Neighbor e)) h = h.key

  pub bound-in : (b : Option KeyBound) → OfBound (Stored s) b → BoundIn s (bound_slot b)
  bound-in none h = tt
  bound-in (some (Exact e)) h = h.there
  bound-in (some (Neighbor e)) h = h.there

  walk_same : (a b : Option KeyBound) → walk_between (bound_slot a) (bound_slot b) ≡ range_walk a b
  walk_same none none = refl
  walk_same none (some b) = refl
  walk_same (some a) none = refl
  walk_same (some a) (some b) = refl

  module _ (lo hi : Option KeyBound) (a : OfBound (Stored s) lo) (b : OfBound (Stored s) hi)
      (p : Present lo (entries tree)) (q : Present hi (entries tree)) (o : InOrder lo hi) where
    range-bytes : (w : Form) → bytes_below s (showing w) (Walked (walk_between (bound_slot lo) (bound_slot hi))) tree ≡ write (range_witness three_way_fork last_arm lo hi w tree)
    range-bytes w =
        rw (walk_same lo hi)
        (part_bytes_lem (key_in s) w tree (Walked (range_walk lo hi)) (range-reached (key_in s) tree ordered w lo hi (placed lo a) (placed hi b) p q o)
        ∙ ap write (walk-range (key_in s) w lo hi (placed lo a) (placed hi b) o tree))

  -- ---- each call's witness, by its bytes

  pub full-bytes : (w : Form) → bytes_below s (showing w) (Walked Full) tree ≡ write (full_witness_tree three_way_fork last_arm w tree)
  full-bytes w = part_bytes_lem (key_in s) w tree (Walked Full) tt ∙ ap write (walk-full (key_in s) w tree)

  pub between-bytes : (first last : Key) (w : Form) → InOrder (lower_bound first tree) (upper_bound last tree)
      → bytes_below s (showing w) (Walked (walk_between (bound_slot (lower_bound first tree)) (bound_slot (upper_bound last tree)))) tree
      ≡ write (range_witness three_way_fork last_arm (lower_bound first tree) (upper_bound last tree) w tree)
  between-bytes first last w h =
      range-bytes (lower_bound first tree) (upper_bound last tree) (low-each (Stored s) first tree stored) (high-each (Stored s) last tree stored)
      (low-present first (entries tree) (lower_bound first tree) (lower-is first tree ordered)) (high-present last (entries tree) (upper_bound last tree) (upper_is last tree ordered))
      h w

  pub prefix-bytes : (prefix : Key)
      → bytes_below s (showing keys_only) (Walked (walk_between (bound_slot (lower_bound prefix tree)) (bound_slot (right_prefix_neighbor prefix tree)))) tree
      ≡ write (range_witness three_way_fork last_arm (lower_bound prefix tree) (right_prefix_neighbor prefix tree) keys_only tree)
  prefix-bytes prefix =
      range-bytes (lower_bound prefix tree) (right_prefix_neighbor prefix tree) (low-each (Stored s) prefix tree stored) (past-each (Stored s) prefix tree stored)
      (low-present prefix (entries tree) (lower_bound prefix tree) (lower-is prefix tree ordered)) (past-present prefix (entries tree) (right_prefix_neighbor prefix tree) (past_is prefix tree ordered))
      (prefix-in-order prefix tree ordered) keys_only

  -- ---- a present key, and an absent one

  found-key : (key : Key) (e : Entry) → get key tree ≡ some e → (key_in s e.slot ≡ key) × EntryAt s e.slot × Mem key (entries tree)
  found-key key e h =
      let st : Stored s e = rw h at (get-each (Stored s) key tree stored) in
      (st.key ∙ sym (get_key key tree e h), st.there, find-some key (entries tree) e (sym (get-find key tree ordered) ∙ h))

  pub present-entry : (key : Key) (i : ℕ) → found_slot (get key tree) ≡ Some i → EntryAt s i
  present-entry key i f = by-entry (λ j. EntryAt s j) (get key tree) refl f (λ e h. (found-key key e h).1)

  pub present-bytes : (key : Key) (i : ℕ) → found_slot (get key tree) ≡ Some i → bytes_below s Show (Walked (Lookup i)) tree ≡ write (witness key tree)
  unfolding witness
  present-bytes key i f =
      by-entry (λ j. bytes_below s Show (Walked (Lookup j)) tree ≡ write (or_tree (lookup_and_build_witness three_way_fork last_arm key tree) (range_witness three_way_fork last_arm (lower_bound key tree) (upper_bound key tree) keys_only tree)))
      (get key tree) refl f
      (λ e h.
      let k = found-key key e h in
      let m : Mem (key_in s e.slot) (entries tree) = rw k.0 k.2 in
      part_bytes_lem (key_in s) values tree (Walked (Lookup e.slot)) (ordered, m)
      ∙ rw (ap (λ (z : Key). lookup_and_build_witness three_way_fork last_arm z tree) (sym k.0) ∙ walk-lookup (key_in s) Show e.slot tree ordered m))

  pub absent-witness : (key : Key) → found_slot (get key tree) ≡ None
      → range_witness three_way_fork last_arm (lower_bound key tree) (upper_bound key tree) keys_only tree ≡ witness key tree
  unfolding witness
  absent-witness key f =
      let n = no-entry (get key tree) f in
      rw (look_none three_way_fork last_arm join-same key tree (λ x i q. find_none key (entries tree) (sym (get-find key tree ordered) ∙ n) (rw (cmp-eq key x.key q) (mem-in i))))

-- ---- in the order of the code

module _ (first last : Key) (k : length first ≤ 48) (l : length last ≤ 48) (m : Model) (make : Key → Key → Tree → HashTree) where
  open-range : crossed (lower_bound first m.tree) (upper_bound last m.tree) ≡ false → of_range make first last m ≡ done (make first last m.tree)
  unfolding of_range
  open-range h = rw (le-ltb 48 (length first) k, le-ltb 48 (length last) l, h, no-and (reversed first last))
    where
      no-and : (v : Bool) → (v && false) ≡ false
      no-and true = refl
      no-and false = refl

  crossed-range : Sorted (entries m.tree) → crossed (lower_bound first m.tree) (upper_bound last m.tree) ≡ true → of_range make first last m ≡ refused Reversed
  unfolding of_range
  crossed-range s h = rw (le-ltb 48 (length first) k, le-ltb 48 (length last) l, lt-gt last first (crossed-above first last m.tree s h), h)

ranged-is : (w : Form) (first last : Key) (t : Tree) → ranged w first last t ≡ range_witness three_way_fork last_arm (lower_bound first t) (upper_bound last t) w t
unfolding key_range value_range
ranged-is keys_only first last t = refl
ranged-is values first last t = refl

-- the bounds of a range are those of its walk
pub bounds-in : (s : List ℕ) (lo hi : code.Option SlotBound) → BoundIn s lo → BoundIn s hi → BoundsIn s (walk_between lo hi)
bounds-in s None None a b = tt
bounds-in s None (Some hi) a b = b
bounds-in s (Some lo) None a b = a
bounds-in s (Some lo) (Some hi) a b = (a, b)

same-walk : {lo hi a b : code.Option SlotBound} → lo ≡ a → hi ≡ b → walk_between lo hi ≡ walk_between a b
same-walk p q = λ i. walk_between (p i) (q i)

module _ {s : List ℕ} (p : Sound s) {x : ℕ} (ex : x ≡ (header s).root) where
  abbrev map : Tree
  map = p.0.tree

  pub at-hand : Laid s x map
  at-hand = rw ex (laid p.1)

  pub can-full : CanSave s x Full
  can-full = (map, at-hand, tt)

  module _ (o o' : List ℕ) (r : Result ℕ Refusal) where
    pub as-hash-tree-answer : Saves s x Full Show o o' r → answered r o' ≡ as_hash_tree_answer s o
    unfolding as_hash_tree_answer as_hash_tree
    as-hash-tree-answer h = answer p.1 o o' r _ (λ m. done (as_hash_tree m.tree)) (as_hash_tree map) refl (full-bytes p.1 values) (h map at-hand)

    pub keys-answer : Saves s x Full Label o o' r → answered r o' ≡ keys_answer s o
    unfolding keys_answer keys
    keys-answer h = answer p.1 o o' r _ (λ m. done (keys m.tree)) (keys map) refl (full-bytes p.1 keys_only) (h map at-hand)

  -- the bounds that the searches found
  module _ (key : Key) {b : code.Option SlotBound} where
    pub low-in : ((t : Tree) → Lies s x t → b ≡ bound_slot (lower_bound key t)) → BoundIn s b
    low-in q = rw (q map at-hand.lies) (bound-in p.1 (lower_bound key map) (low-each (Stored s) key map (all-stored map at-hand.lies)))

    pub high-in : ((t : Tree) → Lies s x t → b ≡ bound_slot (upper_bound key t)) → BoundIn s b
    high-in q = rw (q map at-hand.lies) (bound-in p.1 (upper_bound key map) (high-each (Stored s) key map (all-stored map at-hand.lies)))

    pub past-in : ((t : Tree) → Lies s x t → b ≡ bound_slot (right_prefix_neighbor key t)) → BoundIn s b
    past-in q = rw (q map at-hand.lies) (bound-in p.1 (right_prefix_neighbor key map) (past-each (Stored s) key map (all-stored map at-hand.lies)))

  pub can-range : (lo hi : code.Option SlotBound) → BoundIn s lo → BoundIn s hi → CanRange s x lo hi
  can-range lo hi a b = (map, at-hand, a, b)

  module _ {lo hi : code.Option SlotBound} (first last : Key) (a : (t : Tree) → Lies s x t → lo ≡ bound_slot (lower_bound first t)) (b : (t : Tree) → Lies s x t → hi ≡ bound_slot (upper_bound last t)) where
    -- the bounds as they lie in the store are crossed where those of the map are
    crossed-is : crossed_in s lo hi ≡ crossed (lower_bound first map) (upper_bound last map)
    crossed-is =
        rw (a map at-hand.lies, b map at-hand.lies)
        (on (lower_bound first map) (upper_bound last map) (low-each (Stored s) first map (all-stored map at-hand.lies)) (high-each (Stored s) last map (all-stored map at-hand.lies)))
      where
        on : (lo hi : Option KeyBound) → OfBound (Stored s) lo → OfBound (Stored s) hi → crossed_in s (bound_slot lo) (bound_slot hi) ≡ crossed lo hi
        on none none g h = refl
        on none (some hi) g h = refl
        on (some lo) none g h = refl
        on (some lo) (some hi) g h = rw (placed p.1 (some lo) g, placed p.1 (some hi) h)

    module _ (k : length first ≤ 48) (l : length last ≤ 48) {v : Bool} (e : v ≡ crossed_in s lo hi) (w : Form) where
      pub range-crossed : (o : List ℕ) → v ≡ true → answered (Err Reversed) o ≡ witnessed (of_range (ranged w) first last) s o
      unfolding witnessed fitting
      range-crossed o h =
          rw (on-sound p.1 (of_range (ranged w) first last) (refused NotSound), crossed-range first last k l p.0 (ranged w) p.1.lawful.ordered (sym crossed-is ∙ sym e ∙ h))

      pub range-answer : (o o' : List ℕ) (r : Result ℕ Refusal) → v ≡ false → Saves s x (walk_between lo hi) (showing w) o o' r
          → answered r o' ≡ witnessed (of_range (ranged w) first last) s o
      range-answer o o' r h y =
          let c : crossed (lower_bound first map) (upper_bound last map) ≡ false = sym crossed-is ∙ sym e ∙ h in
          answer p.1 o o' r _ (of_range (ranged w) first last) (ranged w first last map) (open-range first last k l p.0 (ranged w) c)
          (ap (λ (z : Walk). bytes_below s (showing w) (Walked z) map) (same-walk (a map at-hand.lies) (b map at-hand.lies))
          ∙ between-bytes p.1 first last w (not-crossed (lower_bound first map) (upper_bound last map) c) ∙ ap write (sym (ranged-is w first last map)))
          (y map at-hand)

  module _ (o o' : List ℕ) (r : Result ℕ Refusal) {lo hi : code.Option SlotBound} where
    module _ (first last : Key) (a : (t : Tree) → Lies s x t → lo ≡ bound_slot (lower_bound first t)) (b : (t : Tree) → Lies s x t → hi ≡ bound_slot (upper_bound last t)) where
      range-saved : (w : Form) → InOrder (lower_bound first map) (upper_bound last map) → Saves s x (walk_between lo hi) (showing w) o o' r
          → answered r o' ≡ put_front o (write (range_witness three_way_fork last_arm (lower_bound first map) (upper_bound last map) w map))
      range-saved w h v =
          v map at-hand ∙ ap (put_front o)
          (ap (λ (y : Walk). bytes_below s (showing w) (Walked y) map) (same-walk (a map at-hand.lies) (b map at-hand.lies))
          ∙ between-bytes p.1 first last w h)

    pub prefix-answer : (prefix : Key) → ((t : Tree) → Lies s x t → lo ≡ bound_slot (lower_bound prefix t)) → ((t : Tree) → Lies s x t → hi ≡ bound_slot (right_prefix_neighbor prefix t))
        → length prefix ≤ 48 → Saves s x (walk_between lo hi) Label o o' r → answered r o' ≡ keys_with_prefix_answer prefix s o
    unfolding keys_with_prefix_answer keys_with_prefix of_key
    prefix-answer prefix a b k v =
        answer p.1 o o' r _ (of_key keys_with_prefix prefix) (keys_with_prefix prefix map) (rw (le-ltb 48 (length prefix) k)) refl
        (v map at-hand ∙ ap (put_front o)
        (ap (λ (y : Walk). bytes_below s Label (Walked y) map) (same-walk (a map at-hand.lies) (b map at-hand.lies))
        ∙ prefix-bytes p.1 prefix))

    pub absent-answer : (key : Key) → found_slot (get key map) ≡ None
        → ((t : Tree) → Lies s x t → lo ≡ bound_slot (lower_bound key t)) → ((t : Tree) → Lies s x t → hi ≡ bound_slot (upper_bound key t))
        → length key ≤ 48 → Saves s x (walk_between lo hi) Label o o' r → answered r o' ≡ witness_answer key s o
    unfolding witness_answer of_key
    absent-answer key f a b k v =
        answer p.1 o o' r _ (of_key witness key) (witness key map) (rw (le-ltb 48 (length key) k)) (ap write (absent-witness p.1 key f))
        (range-saved key key a b keys_only (bounds-in-order key key map p.1.lawful.ordered (lt-irr key)) v)

  pub can-lookup : (key : Key) (i : ℕ) → found_slot (get key map) ≡ Some i → CanSave s x (Lookup i)
  can-lookup key i f = (map, at-hand, present-entry p.1 key i f)

  pub present-answer : (o o' : List ℕ) (r : Result ℕ Refusal) (key : Key) (i : ℕ) → found_slot (get key map) ≡ Some i → length key ≤ 48
      → Saves s x (Lookup i) Show o o' r → answered r o' ≡ witness_answer key s o
  unfolding witness_answer of_key
  present-answer o o' r key i f k v =
      answer p.1 o o' r _ (of_key witness key) (witness key map) (rw (le-ltb 48 (length key) k)) (present-bytes p.1 key i f) (v map at-hand)
