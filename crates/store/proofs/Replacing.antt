-- A new value for a present key: insert and modify come to the same, and slot by slot only that value and digests on the search path change.
-- Also: where a new entry goes, and that the value already there changes no byte.
use mathlib.Core.Path.{◌≡◌, refl, sym, ap, subst, ◌∙◌}
use mathlib.Core.Bool.{Bool, true, false, cond}
use mathlib.Core.Logic.{◌≢◌, inl, inr}
use mathlib.Core.List.{List, [], ◌∷◌, ◌++◌}
use mathlib.Core.Option.{Option, none, some, map}
use Prim.Native.Nat.{ℕ, ◌≤◌}
use native.Mathlib.Omega.{arith}
use lib.Dec.{eqb}
use lib.ListN.{length}
use borrow.Author.Tests.{eqb-true, le-ltb}
use Rattle.std.specs.declared.cmp.Ordering.{Ordering}
use Rattle.std.specs.declared.cmp.Ordering.TheVariants.{Less, Equal, Greater}
use Rattle.key_order.specs.Order.{Key, cmp, pick}
use Rattle.key_order.proofs.Laws.{cmp-refl, cmp-eq}
use Rattle.slots.specs.Bits.{Bytes}
use Rattle.slots.specs.Layout.{current, count_in, Slot, slot, Mark, node_slot}
use Rattle.slots.specs.Setters as setters
use Rattle.llrb.specs.Tree.{Value, Entry, Tree, nil, node, entries, size, get, insert, modify, with_value}
use Rattle.llrb.specs.Delete.{freed}
use Rattle.llrb.specs.Sorted.{Mem}
use Rattle.llrb.specs.Map.{find_e, put_e, Out}
use Rattle.llrb.specs.Path.{Sub, whole, on-left, on-right, or_else, subtree_at, search_path}
use Rattle.llrb.proofs.Get.{get-find}
use Rattle.llrb.proofs.Height.{size-node}
use Rattle.llrb.proofs.Insert.{insert-put}
use Rattle.llrb.proofs.History.{insert-lawful, modify-slots}
use Rattle.llrb.proofs.Replace.{insert-present, modify-off-path}
use Rattle.store.specs.Numbers.{Outcome, done}
use Rattle.store.specs.Model.{Model, root, head, free_after, inserted, modified, deleted}
use Rattle.store.specs.Sound.{header_of, Short, Lawful, Represents}
use Rattle.store.specs.Encode.{in_chain, top_slot, top_mark, encode}
use Rattle.store.specs.Answers.{changed}
use Rattle.store.specs.Calls.{insert_in, modify_in}
use Rattle.store.specs.History.{Insert, Modify, answer_of}
use Rattle.store.specs.Demand.{Replaced}
use Rattle.store.proofs.Trees.{size-slots}
use Rattle.store.proofs.Decoding.{decoded}
use Rattle.store.proofs.Operating.{tree-lawful, get-mem, get-not, modified-lawful, deleted-lawful}
use Rattle.store.proofs.Seats.{Seat, missing, seated, seat, found, Shows, laid_shows, tree-once, tree-within, sub-occurs, top-occurs}
use Rattle.store.proofs.Encoding.{current-fits, sub-short, encode-shows, encoded}
use Rattle.store.proofs.Running.{edit-answer}

-- ---- insert of a present key is modify

pub inserted-present : (k : Key) (v : Value) {m : Model} (e : Entry) → Lawful m → get k m.tree ≡ some e → inserted k v m ≡ modified k v m
unfolding inserted modified
inserted-present k v {m} e g h =
    let t = insert-present (record { slot = head m.free; key = k; value = v }) (tree-lawful g) (get-mem k m.tree e g.ordered h) in
    let f : free_after (get k m.tree) m.free ≡ m.free = rw h in
    λ i. record { capacity = m.capacity; tree = t i; free = f i }

-- ---- one slot at a time

root-modify : (k : Key) (v : Value) (t : Tree) → root (modify k v t) ≡ root t
unfolding modify
root-modify k v nil = refl
root-modify k v (node c e l r) = at (cmp k e.key)
  where
    at : (o : Ordering) → root (pick o (node c e (modify k v l) r) (node c (with_value e v) l r) (node c e l (modify k v r))) ≡ e.slot
    at Less = refl
    at Equal = refl
    at Greater = refl

or-else : (x : ℕ) (t : Tree) (b : Option Tree) (z : Slot) → top_slot (or_else (subtree_at x t) b) z ≡ top_slot (subtree_at x t) (top_slot b z)
or-else x t b z = at (seat x t)
  where
    at : Seat x t → top_slot (or_else (subtree_at x t) b) z ≡ top_slot (subtree_at x t) (top_slot b z)
    at (missing w h) = rw h
    at (seated c e l r h k u) = rw h

-- any slot but the key's own stays
same-slot : (k : Key) (v : Value) (x : ℕ) (t : Tree) (z : Slot) → ((e : Entry) → get k t ≡ some e → x ≢ e.slot) → top_slot (subtree_at x (modify k v t)) z ≡ top_slot (subtree_at x t) z
unfolding modify subtree_at get
same-slot k v x nil z own = refl
same-slot k v x (node c e l r) z own =
    at (cmp k e.key) (eqb x e.slot) refl own (λ y. same-slot k v x l y) (λ y. same-slot k v x r y)
  where
    at : (o : Ordering) (b : Bool) → eqb x e.slot ≡ b → ((y : Entry) → pick o (get k l) (some e) (get k r) ≡ some y → x ≢ y.slot)
        → ((y : Slot) → ((a : Entry) → get k l ≡ some a → x ≢ a.slot) → top_slot (subtree_at x (modify k v l)) y ≡ top_slot (subtree_at x l) y)
        → ((y : Slot) → ((a : Entry) → get k r ≡ some a → x ≢ a.slot) → top_slot (subtree_at x (modify k v r)) y ≡ top_slot (subtree_at x r) y)
        → top_slot (subtree_at x (pick o (node c e (modify k v l) r) (node c (with_value e v) l r) (node c e l (modify k v r)))) z
        ≡ top_slot (cond b (some (node c e l r)) (or_else (subtree_at x l) (subtree_at x r))) z
    at Less true q w i j = rw (q, root-modify k v l)
    at Less false q w i j =
        rw q (or-else x (modify k v l) (subtree_at x r) z ∙ i (top_slot (subtree_at x r) z) w ∙ sym (or-else x l (subtree_at x r) z))
    at Equal true q w i j = absurd (w e refl (eqb-true x e.slot q))
    at Equal false q w i j = rw q
    at Greater true q w i j = rw (q, root-modify k v r)
    at Greater false q w i j =
        rw q (or-else x l (subtree_at x (modify k v r)) z ∙ ap (top_slot (subtree_at x l)) (j z w) ∙ sym (or-else x l (subtree_at x r) z))

-- every subtree keeps its number of entries
size-modify : (k : Key) (v : Value) (t : Tree) → size (modify k v t) ≡ size t
unfolding modify
size-modify k v nil = refl
size-modify k v (node c e l r) = at (cmp k e.key) (size-modify k v l) (size-modify k v r)
  where
    at : (o : Ordering) → size (modify k v l) ≡ size l → size (modify k v r) ≡ size r
        → size (pick o (node c e (modify k v l) r) (node c (with_value e v) l r) (node c e l (modify k v r))) ≡ size (node c e l r)
    at Less i j = omega (arith, i, size-node c e (modify k v l) r, size-node c e l r)
    at Equal i j = omega (arith, size-node c (with_value e v) l r, size-node c e l r)
    at Greater i j = omega (arith, j, size-node c e l (modify k v r), size-node c e l r)

abbrev first_of : Option ℕ → Option ℕ → Option ℕ
first_of none y = y
first_of (some n) y = some n

size-or : (a b : Option Tree) → map size (or_else a b) ≡ first_of (map size a) (map size b)
size-or none b = refl
size-or (some t) b = refl

same_size : (k : Key) (v : Value) (x : ℕ) (t : Tree) → map size (subtree_at x (modify k v t)) ≡ map size (subtree_at x t)
unfolding modify subtree_at
same_size k v x nil = refl
same_size k v x (node c e l r) = at (cmp k e.key) refl (eqb x e.slot) refl (same_size k v x l) (same_size k v x r)
  where
    at : (o : Ordering) → cmp k e.key ≡ o → (b : Bool) → eqb x e.slot ≡ b → map size (subtree_at x (modify k v l)) ≡ map size (subtree_at x l)
        → map size (subtree_at x (modify k v r)) ≡ map size (subtree_at x r)
        → map size (subtree_at x (pick o (node c e (modify k v l) r) (node c (with_value e v) l r) (node c e l (modify k v r))))
        ≡ map size (cond b (some (node c e l r)) (or_else (subtree_at x l) (subtree_at x r)))
    at Less p true q i j = rw q (ap some (omega (arith, size-modify k v l, size-node c e (modify k v l) r, size-node c e l r)))
    at Less p false q i j = rw q (size-or (subtree_at x (modify k v l)) (subtree_at x r) ∙ ap (λ (z : Option ℕ). first_of z (map size (subtree_at x r))) i ∙ sym (size-or (subtree_at x l) (subtree_at x r)))
    at Equal p true q i j = rw q (ap some (omega (arith, size-node c (with_value e v) l r, size-node c e l r)))
    at Equal p false q i j = rw q
    at Greater p true q i j = rw q (ap some (omega (arith, size-modify k v r, size-node c e l (modify k v r), size-node c e l r)))
    at Greater p false q i j = rw q (size-or (subtree_at x l) (subtree_at x (modify k v r)) ∙ ap (first_of (map size (subtree_at x l))) j ∙ sym (size-or (subtree_at x l) (subtree_at x r)))

-- so every count stays
abbrev count_by : (edition : ℕ) → Option ℕ → ℕ
count_by d none = 0
count_by d (some n) = count_in d n

count_by_lem : (d : ℕ) (o : Option Tree) → (top_mark d o).count ≡ count_by d (map size o)
count_by_lem d none = refl
count_by_lem d (some t) = refl

same_count : (d : ℕ) (k : Key) (v : Value) (x : ℕ) (t : Tree) → (top_mark d (subtree_at x (modify k v t))).count ≡ (top_mark d (subtree_at x t)).count
same_count d k v x t = count_by_lem d (subtree_at x (modify k v t)) ∙ ap (count_by d) (same_size k v x t) ∙ sym (count_by_lem d (subtree_at x t))

-- the key's own node, before and after
pub record Own (k : Key) (v : Value) (e : Entry) (t : Tree) : Type 0 where
  pub colour : Bool
  pub lower : Tree
  pub upper : Tree
  pub same : k ≡ e.key
  pub before : Sub (node colour e lower upper) t
  pub after : Sub (node colour (with_value e v) lower upper) (modify k v t)

pub own-node : (k : Key) (v : Value) (e : Entry) (t : Tree) → get k t ≡ some e → Own k v e t
unfolding get modify
own-node k v e nil h = absurd (let z : ◌≡◌ {A = ℕ} 0 1 = cc in omega arith)
own-node k v e (node c x l r) h = at (cmp k x.key) refl h (own-node k v e l) (own-node k v e r)
  where
    at : (o : Ordering) → cmp k x.key ≡ o → pick o (get k l) (some x) (get k r) ≡ some e → (get k l ≡ some e → Own k v e l) → (get k r ≡ some e → Own k v e r) → Own k v e (node c x l r)
    at Less q p i j = let w = i p in record { colour = w.colour; lower = w.lower; upper = w.upper; same = w.same; before = on-left w.before; after = rw q (on-left w.after) }
    at Equal q p i j =
        let y : x ≡ e = cc in
        record {
          colour = c;
          lower = l;
          upper = r;
          same = cmp-eq k x.key q ∙ ap (λ (a : Entry). a.key) y;
          before = subst (λ (a : Entry). Sub (node c a l r) (node c x l r)) y whole;
          after = rw q (subst (λ (a : Entry). Sub (node c (with_value a v) l r) (node c (with_value x v) l r)) y whole);
        }
    at Greater q p i j = let w = j p in record { colour = w.colour; lower = w.lower; upper = w.upper; same = w.same; before = on-right w.before; after = rw q (on-right w.after) }

-- ---- the store with a new value

module _ (k : Key) (v : Value) {m : Model} (e : Entry) (g : Lawful m) (h : get k m.tree ≡ some e) (short : length v ≤ 64) where
  g' : Lawful (modified k v m)
  g' = modified-lawful k v g short

  headers : header_of (modified k v m) ≡ header_of m
  unfolding modified
  headers =
      let n : size (modify k v m.tree) ≡ size m.tree =
      sym (size-slots (modify k v m.tree)) ∙ ap length (modify-slots k v (tree-lawful g)) ∙ size-slots m.tree in
      let r = root-modify k v m.tree in
      λ i. record { edition = current; capacity = m.capacity; live = n i; root = r i; free = head m.free; zero = 0 }

  pub replaced : {s s' : List ℕ} → Represents s m → Shows current s' (modified k v m) → Replaced k v s s'
  unfolding modified
  replaced {s} {s'} a b =
      let w = laid_shows g a.laid in
      let d = decoded a in
      let y = own-node k v e m.tree h in
      record {
        len = b.len ∙ sym w.len;
        header = b.head ∙ headers ∙ sym w.head;
        entry = e;
        its = rw d h;
        own = own-slot w y;
        others = λ i p q n. let c : i ≤ m.capacity = rw d at q in
            b.slots i p c ∙ same-slot k v i m.tree (in_chain i m.free) (λ x f. let z : x ≡ e = cc in λ u. n (u ∙ ap (λ (o : Entry). o.slot) z)) ∙ sym (w.slots i p c);
        digests = λ i p q n. let c : i ≤ m.capacity = rw d at q in
            let o : Out i (search_path k m.tree) = rw d at n in
            ap (λ (z : Mark). z.digest) (b.marks i p c ∙ ap (top_mark current) (modify-off-path k v i m.tree o) ∙ sym (w.marks i p c));
        counts = λ i p q. let c : i ≤ m.capacity = rw d at q in
            ap (λ (z : Mark). z.count) (b.marks i p c) ∙ same_count current k v i m.tree ∙ sym (ap (λ (z : Mark). z.count) (w.marks i p c));
      }
    where
      own-slot : Shows current s m → Own k v e m.tree → slot s' e.slot ≡ setters.with_value v (slot s e.slot)
      own-slot w y =
          let c = tree-within g e.slot (omega (arith, sub-occurs e.slot y.before, top-occurs y.colour e y.lower y.upper)) in
          let u : slot s e.slot ≡ node_slot y.colour e.key e.value (root y.lower) (root y.upper) =
          w.slots e.slot c.0 c.1 ∙ rw (found (tree-once g) y.before) in
          b.slots e.slot c.0 c.1 ∙ rw (found (tree-once g') y.after) (sym (ap (setters.with_value v) u))

  -- a present key is short
  pub key-short : length k ≤ 48
  key-short = go (own-node k v e m.tree h)
    where
      last : (L M : List Entry) → Short (L ++ (e ∷ M)) → length e.key ≤ 48
      last [] M a = a.0
      last (x ∷ L) M a = last L M a.2

      go : Own k v e m.tree → length k ≤ 48
      go y = rw y.same (last (entries y.lower) (entries y.upper) (sub-short y.before g.short))

  pub insert-done : insert_in k v m ≡ done (modified k v m)
  unfolding insert_in
  insert-done = rw (le-ltb 48 (length k) key-short, le-ltb 64 (length v) short, h) (ap {B = Outcome Model} done (inserted-present k v e g h))

  pub modify-done : modify_in k v m ≡ done (modified k v m)
  unfolding modify_in
  modify-done = rw (le-ltb 48 (length k) key-short, le-ltb 64 (length v) short, h)

  -- insert and modify alike: 0, and only that value and digests on its search path change
  pub insert-replaces : {s : List ℕ} → Represents s m → ((answer_of (Insert k v) s).number ≡ 0) × Replaced k v s (answer_of (Insert k v) s).store
  insert-replaces {s} a = rw (edit-answer (Insert k v) a, insert-done) (refl, replaced a (encode-shows g' current current-fits))

  pub modify-replaces : {s : List ℕ} → Represents s m → ((answer_of (Modify k v) s).number ≡ 0) × Replaced k v s (answer_of (Modify k v) s).store
  modify-replaces {s} a = rw (edit-answer (Modify k v) a, modify-done) (refl, replaced a (encode-shows g' current current-fits))

-- ---- the value already there

pub same-tree : (k : Key) (e : Entry) (t : Tree) → get k t ≡ some e → modify k e.value t ≡ t
unfolding get modify
same-tree k e nil h = refl
same-tree k e (node c x l r) h = at (cmp k x.key) h (same-tree k e l) (same-tree k e r)
  where
    at : (o : Ordering) → pick o (get k l) (some x) (get k r) ≡ some e → (get k l ≡ some e → modify k e.value l ≡ l) → (get k r ≡ some e → modify k e.value r ≡ r)
        → pick o (node c x (modify k e.value l) r) (node c (with_value x e.value) l r) (node c x l (modify k e.value r)) ≡ node c x l r
    at Less p i j = rw (i p)
    at Equal p i j = let y : x ≡ e = cc in ap (λ (a : Entry). node c (with_value x a.value) l r) (sym y)
    at Greater p i j = rw (j p)

module _ {s : List ℕ} {m : Model} (b : Bytes s) (a : Represents s m) (k : Key) (e : Entry) (h : get k m.tree ≡ some e) where
  stays-model : modified k e.value m ≡ m
  unfolding modified
  stays-model = let t = same-tree k e m.tree h in λ i. record { capacity = m.capacity; tree = t i; free = m.free }

  value-short : length e.value ≤ 64
  value-short = go (own-node k [] e m.tree h)
    where
      last : (L M : List Entry) → Short (L ++ (e ∷ M)) → length e.value ≤ 64
      last [] M w = w.1
      last (x ∷ L) M w = last L M w.2

      go : Own k [] e m.tree → length e.value ≤ 64
      go y = last (entries y.lower) (entries y.upper) (sub-short y.before a.lawful.short)

  unchanged : changed s (done (modified k e.value m)) ≡ record { number = 0; store = s }
  unchanged = let z : encode (modified k e.value m) ≡ s = ap encode stays-model ∙ sym (encoded b a) in λ i. record { number = 0; store = z i }

  -- 0, and no byte changes
  pub insert-same : answer_of (Insert k e.value) s ≡ record { number = 0; store = s }
  insert-same = edit-answer (Insert k e.value) a ∙ ap (changed s) (insert-done k e.value e a.lawful h value-short) ∙ unchanged

  pub modify-same : answer_of (Modify k e.value) s ≡ record { number = 0; store = s }
  modify-same = edit-answer (Modify k e.value) a ∙ ap (changed s) (modify-done k e.value e a.lawful h value-short) ∙ unchanged

-- ---- which slot an entry has

find-put : (x : Entry) (L : List Entry) → (Mem x.key L → ⊥) → find_e x.key (put_e x L) ≡ some x
unfolding find_e put_e
find-put x [] n = rw (cmp-refl x.key)
find-put x (e ∷ L) n = at (cmp x.key e.key) refl (find-put x L (λ i. n (inr i)))
  where
    at : (o : Ordering) → cmp x.key e.key ≡ o → find_e x.key (put_e x L) ≡ some x
        → find_e x.key (pick o (x ∷ e ∷ L) (with_value e x.value ∷ L) (e ∷ put_e x L)) ≡ some x
    at Less q i = rw (cmp-refl x.key)
    at Equal q i = absurd (n (inl q))
    at Greater q i = rw q i

-- a new entry takes the chain's head
pub new-entry : (k : Key) (v : Value) {m : Model} → Lawful m → get k m.tree ≡ none → get k (inserted k v m).tree ≡ some (record { slot = head m.free; key = k; value = v })
unfolding inserted
new-entry k v {m} g h =
    let x : Entry = record { slot = head m.free; key = k; value = v } in
    get-find k (insert x m.tree) (insert-lawful x (tree-lawful g)).sorted
    ∙ rw (insert-put x m.tree g.ordered) (find-put x (entries m.tree) (get-not k m.tree g.ordered h))

-- a freed slot becomes the chain's head, so it is the next one used
pub freed-next : (j k : Key) (v : Value) {m : Model} (e : Entry) → Lawful m → get k m.tree ≡ some e → get j (deleted k m).tree ≡ none
    → get j (inserted j v (deleted k m)).tree ≡ some (record { slot = freed k m.tree; key = j; value = v })
unfolding deleted
freed-next j k v {m} e g h n = new-entry j v (deleted-lawful k e g h) n
