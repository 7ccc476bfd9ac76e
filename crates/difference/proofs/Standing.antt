-- Cursors into a sound store: the entries that are left are the last ones in order, and the next one follows.
use mathlib.Core.Path.{◌≡◌, refl, sym, ap, subst, ◌∙◌}
use mathlib.Core.List.{List, [], ◌∷◌, ◌++◌, append_assoc}
use Prim.Native.Nat.{ℕ}
use Rattle.key_order.specs.Order.{Key}
use Rattle.key_order.proofs.Laws.{cmp-refl, lt-gt}
use Rattle.slots.specs.Layout.{header, slot, key_of, value_of}
use Rattle.llrb.specs.Tree.{Entry, Tree, nil, node, entries}
use Rattle.llrb.specs.Sorted.{Sorted}
use Rattle.llrb.specs.Iterate.{first_entry, next_entry, head_of}
use Rattle.llrb.proofs.Lists.{sorted-below}
use Rattle.llrb.proofs.Iterate.{first_head, next-follows}
use Rattle.store.specs.Sound.{Represents, Sound}
use Rattle.store.specs.Decode.{decode}
use Rattle.store.proofs.Decoding.{sound-decodes}
use Rattle.std.specs.Prelude.{Option, Some}
use Rattle.search.specs.Search.{Each, Lies, HasTree, found_slot, EntryAt, Stored}
use Rattle.search.proofs.Lying.{all-stored, represents-lies}
use Rattle.difference.specs.Walking.{entries_in, entry_in, not_below, rest_of, Cursor, First, After}

-- ---- lists

abbrev All : (Entry → Type 0) → List Entry → Type 0
All P [] = Unit {0}
All P (e ∷ L) = P e × All P L

module _ (P : Entry → Type 0) where
  all_append : (L R : List Entry) → All P L → All P R → All P (L ++ R)
  all_append [] R a b = b
  all_append (e ∷ L) R a b = (a.0, all_append L R a.1 b)

  each_all : (t : Tree) → Each P t → All P (entries t)
  each_all nil a = tt
  each_all (node c e l r) a = all_append (entries l) (e ∷ entries r) (each_all l a.1) (a.0, each_all r a.2)

  all-mid : (L : List Entry) (e : Entry) (R : List Entry) → All P (L ++ (e ∷ R)) → P e
  all-mid [] e R a = a.0
  all-mid (x ∷ L) e R a = all-mid L e R a.1

not-below : (L : List Entry) (e : Entry) (R : List Entry) → Sorted (L ++ (e ∷ R)) → not_below e.key (L ++ (e ∷ R)) ≡ e ∷ R
unfolding not_below
not-below [] e R s = rw (cmp-refl e.key)
not-below (x ∷ L) e R s = rw (lt-gt x.key e.key (sorted-below (x ∷ L) e R s).0) (not-below L e R s.1)

-- ---- a sound store

module _ {s : List ℕ} (p : Sound s) where
  holds : Represents s (decode s)
  holds = sound-decodes p

  module _ {x : ℕ} (ex : x ≡ (header s).root) where
    pub at-hand : Lies s x (decode s).tree
    at-hand = rw ex (represents-lies holds)

    pub root_in : HasTree s x
    root_in = ((decode s).tree, at-hand)

  ordered : Sorted (entries_in s)
  ordered = holds.lawful.ordered

  stored_at : (L : List Entry) (e : Entry) (R : List Entry) → entries_in s ≡ L ++ (e ∷ R) → Stored s e
  stored_at L e R w = all-mid (Stored s) L e R (subst (All (Stored s)) w (each_all (Stored s) (decode s).tree (all-stored (decode s).tree (at-hand refl))))

  -- the slot of the first of the last entries is their cursor
  rest-of : (L M : List Entry) → entries_in s ≡ L ++ M → rest_of s (found_slot (head_of M)) ≡ M
  rest-of L [] w = refl
  rest-of L (e ∷ R) w =
      ap (λ (k : Key). not_below k (entries_in s)) (stored_at L e R w).key
      ∙ (ap (not_below e.key) w ∙ not-below L e R (subst Sorted w ordered))

  module _ (L M : List Entry) (w : entries_in s ≡ L ++ M) {f : Option ℕ} (ef : f ≡ found_slot (head_of M)) where
    rest-is : rest_of s f ≡ M
    rest-is = ap (rest_of s) ef ∙ rest-of L M w

    cursor-of : Cursor s f
    cursor-of = record { past = L; whole = w ∙ ap (λ (N : List Entry). L ++ N) (sym rest-is); head = ef ∙ ap (λ (N : List Entry). found_slot (head_of N)) (sym rest-is) }

  -- ---- where the cursor stands

  pub record Here (i : ℕ) : Type 0 where
    pub rest : List Entry
    pub stands : rest_of s (Some i) ≡ entry_in s i ∷ rest
    pub there : EntryAt s i

  pub here : {i : ℕ} → Cursor s (Some i) → Here i
  here {i} c = go (rest_of s (Some i)) refl c.whole c.head
    where
      go : (M : List Entry) → rest_of s (Some i) ≡ M → entries_in s ≡ c.past ++ M → Some i ≡ found_slot (head_of M) → Here i
      go [] e w h = cc
      go (x ∷ R) e w h =
          let q = stored_at c.past x R w in
          let n : i ≡ x.slot = cc in
          let k = ap (λ (j : ℕ). key_of (slot s j)) n ∙ q.key in
          let v = ap (λ (j : ℕ). value_of (slot s j)) n ∙ q.value in
          let same : x ≡ entry_in s i = λ j. record { slot = sym n j; key = sym k j; value = sym v j } in
          record {
            rest = R;
            stands = e ∙ ap {B = List Entry} (λ (y : Entry). y ∷ R) same;
            there = subst (EntryAt s) (sym n) q.there;
          }

  -- ---- the code's two functions

  module _ {x : ℕ} (ex : x ≡ (header s).root) {f : Option ℕ} where
    pub first-cursor : ((t : Tree) → Lies s x t → f ≡ found_slot (first_entry t)) → First s f
    first-cursor q =
        let h = q (decode s).tree (at-hand ex) ∙ ap found_slot (first_head (decode s).tree) in
        record { cursor = cursor-of [] (entries_in s) refl h; all = rest-is [] (entries_in s) refl h }

    pub after-cursor : {i : ℕ} → Cursor s (Some i) → {k : Key} → k ≡ key_of (slot s i) → ((t : Tree) → Lies s x t → f ≡ found_slot (next_entry k t)) → After s i f
    after-cursor {i} c {k} ek q =
        let g = here c in
        let w : entries_in s ≡ c.past ++ (entry_in s i ∷ g.rest) = c.whole ∙ ap (λ (N : List Entry). c.past ++ N) g.stands in
        let h : f ≡ found_slot (head_of g.rest) =
        q (decode s).tree (at-hand ex) ∙ ap found_slot (ap (λ (z : Key). next_entry z (decode s).tree) ek ∙ next-follows (decode s).tree c.past (entry_in s i) g.rest ordered w) in
        let v : entries_in s ≡ (c.past ++ (entry_in s i ∷ [])) ++ g.rest = w ∙ sym (append_assoc c.past (entry_in s i ∷ []) g.rest) in
        record {
          cursor = cursor-of (c.past ++ (entry_in s i ∷ [])) g.rest v h;
          passed = g.stands ∙ ap {B = List Entry} (λ (N : List Entry). entry_in s i ∷ N) (sym (rest-is (c.past ++ (entry_in s i ∷ [])) g.rest v h));
        }
