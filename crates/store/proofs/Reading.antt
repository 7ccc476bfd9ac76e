-- What a sound store says: document 01's lines in words, and where an entry's key and value lie.
use mathlib.Core.Path.{◌≡◌, refl, sym, ap, subst, ◌∙◌}
use mathlib.Core.Bool.{Bool, true, false, cond, true≢false}
use mathlib.Core.Logic.{◌⊎◌, inl, inr}
use mathlib.Core.List.{List, [], ◌∷◌, ◌++◌}
use mathlib.Core.Option.{Option, none, some, map}
use Prim.Native.Nat.{ℕ, ◌+◌, ◌≤◌}
use native.Mathlib.Omega.{arith}
use lib.Dec.{eqb, lit≤}
use lib.ListN.{length, drop}
use lib.Seq.{take-take}
use borrow.Author.Tests.{le-ltb}
use Rattle.std.specs.declared.cmp.Ordering.{Ordering}
use Rattle.std.specs.declared.cmp.Ordering.TheVariants.{Less, Equal, Greater}
use Rattle.key_order.specs.Order.{Key, cmp, pick}
use Rattle.slots.specs.declared.Header.{Header}
use Rattle.slots.specs.Layout.{HasSlot, KeyOf, ValueOf, header, Slot, slot, key_of, value_of, key_at, value_at, part, room, place, free_slot}
use Rattle.slots.proofs.Rooms.{fits}
use Rattle.slots.proofs.Writing.{node-key, node-value}
use Rattle.llrb.specs.Tree.{Entry, Tree, nil, node, entries, size, get}
use Rattle.llrb.specs.Path.{Sub, whole, on-left, on-right}
use Rattle.llrb.specs.Iterate.{head_of, first_above}
use Rattle.llrb.specs.Map.{Pair, pair, pairs}
use Rattle.llrb.proofs.Iterate.{above-follows}
use Rattle.llrb.proofs.Height.{lawful-height, height-20}
use Rattle.store.specs.Counts.{occurs}
use Rattle.store.specs.Deciding.{le?}
use Rattle.store.specs.Counting.{numbers-in, numbers-most}
use Rattle.store.specs.Numbers.{NotSound, refused, done}
use Rattle.store.specs.Model.{Model, slots_of, root, head}
use Rattle.store.specs.Sound.{Represents}
use Rattle.store.specs.Encode.{in_chain}
use Rattle.store.specs.Answers.{found}
use Rattle.store.specs.Calls.{get_in, first_in, next_in, get_answer, first_entry_answer, next_entry_answer}
use Rattle.store.specs.History.{first_pair, pair_above}
use Rattle.store.specs.Demand.{Lies, Visits}
use Rattle.store.specs.Words.{Words}
use Rattle.store.proofs.Decoding.{once-sum, live-and-free, on-sound}
use Rattle.store.proofs.Operating.{tree-lawful}
use Rattle.store.proofs.Seats.{sub-nodes, sub-occurs, top-occurs, Seat, missing, seated, seat, not-seated, laid_shows, tree-within, chain-within, tree-once, chain-once}
use Rattle.store.proofs.Encoding.{sub-short, short-right}
use Rattle.store.proofs.Replacing.{own-node, key-short}

-- ---- in words

chain-dead : (x : ℕ) (f : List ℕ) → (in_chain x f).live ≡ false
chain-dead x [] = refl
chain-dead x (y ∷ f) = at (eqb x y) (chain-dead x f)
  where
    at : (b : Bool) → (in_chain x f).live ≡ false → (cond b (free_slot (head f)) (in_chain x f)).live ≡ false
    at true i = refl
    at false i = i

module _ {s : List ℕ} {m : Model} (a : Represents s m) where
  live-slot : (x : ℕ) → Seat x m.tree → 1 ≤ occurs x (slots_of m.tree) → (slot s x).live ≡ true
  live-slot x (missing z h) p = absurd (omega arith)
  live-slot x (seated c e l r h k u) p = ap (λ (y : ℕ). (slot s y).live) (sym k) ∙ ap (λ (v : Slot). v.live) (sub-nodes s u a.laid.nodes).0

  dead-slot : (x : ℕ) → 1 ≤ x → x ≤ m.capacity → occurs x (slots_of m.tree) ≡ 0 → (slot s x).live ≡ false
  dead-slot x p q z =
      ap (λ (v : Slot). v.live) ((laid_shows a.lawful a.laid).slots x p q) ∙ rw (not-seated x m.tree z) (chain-dead x m.free)

  not_dead : (x : ℕ) → 1 ≤ x → x ≤ m.capacity → (slot s x).live ≡ true → Dec (1 ≤ occurs x (slots_of m.tree)) → 1 ≤ occurs x (slots_of m.tree)
  not_dead x p q h (yes y) = y
  not_dead x p q h (no n) = absurd (true≢false (sym h ∙ dead-slot x p q (omega arith)))

  pub words : Words s m
  words =
      let g = a.lawful in
      let n : (header s).live ≡ size m.tree = ap (λ (h : Header). h.live) a.laid.header in
      record {
        chain_once = chain-once g;
        tree_once = tree-once g;
        disjoint = λ x p. omega (arith, once-sum g x, numbers-most x m.capacity);
        covers = λ x p q. omega (arith, once-sum g x, numbers-in x m.capacity p q);
        tree_within = tree-within g;
        chain_within = chain-within g;
        live = λ x p. live-slot x (seat x m.tree) p;
        not_live = λ x p q h. not_dead x p q h (le? 1 (occurs x (slots_of m.tree)));
        count = n;
        sum = rw n (live-and-free g);
        bound = lawful-height (tree-lawful g);
        low = height-20 (tree-lawful g) (omega (arith, live-and-free g, g.most));
      }

-- ---- where a key and a value lie

key_fits : (n i : ℕ) → HasSlot n i → key_at n i + 48 ≤ n
unfolding place
key_fits n i h = fits n (KeyOf i) h

value-fits : (n i : ℕ) → HasSlot n i → value_at n i + 64 ≤ n
unfolding place
value-fits n i h = fits n (ValueOf i) h

key-part : (s : List ℕ) (x : ℕ) → (slot s x).key_length ≤ 48 → part (key_at (length s) x) (slot s x).key_length s ≡ key_of (slot s x)
unfolding slot room place
key-part s x p = sym (take-take (slot s x).key_length 48 (drop (key_at (length s) x) s) p)

value-part : (s : List ℕ) (x : ℕ) → (slot s x).value_length ≤ 64 → part (value_at (length s) x) (slot s x).value_length s ≡ value_of (slot s x)
unfolding slot room place
value-part s x p = sym (take-take (slot s x).value_length 64 (drop (value_at (length s) x) s) p)

module _ {s : List ℕ} {m : Model} (a : Represents s m) where
  -- an entry of the tree lies where `found` says
  pub entry-lies : {c : Bool} (e : Entry) {l r : Tree} → Sub (node c e l r) m.tree → Lies s e.key e.value (found s (done e))
  entry-lies {c} e {l} {r} u =
      let h = (sub-nodes s u a.laid.nodes).0 in
      let w = short-right (entries l) (e ∷ entries r) (sub-short u a.lawful.short) in
      let k : (slot s e.slot).key_length ≡ length e.key = ap (λ (v : Slot). v.key_length) h in
      let n : (slot s e.slot).value_length ≡ length e.value = ap (λ (v : Slot). v.value_length) h in
      let b = tree-within a.lawful e.slot (omega (arith, top-occurs c e l r, sub-occurs e.slot u)) in
      let i : HasSlot (length s) e.slot = record { low = b.0; high = omega (arith, b.1, a.lawful.most); fits = omega (arith, b.1, a.laid.len) } in
      record {
        number = refl;
        key_length = refl;
        key_within = omega (arith, w, key_fits (length s) e.slot i);
        value_length = refl;
        value_within = omega (arith, w, value-fits (length s) e.slot i);
        key_bytes = ap (λ (i : ℕ). part (key_at (length s) e.slot) i s) (sym k) ∙ key-part s e.slot (omega (arith, w))
            ∙ ap (λ (v : Slot). key_of v) h ∙ node-key c e.key e.value (root l) (root r);
        value_bytes = ap (λ (i : ℕ). part (value_at (length s) e.slot) i s) (sym n) ∙ value-part s e.slot (omega (arith, w))
            ∙ ap (λ (v : Slot). value_of v) h ∙ node-value c e.key e.value (root l) (root r);
      }

  pub get-lies : (k : Key) (e : Entry) → get k m.tree ≡ some e → Lies s k e.value (get_answer k s)
  unfolding get_answer get_in
  get-lies k e h =
      let y = own-node k [] e m.tree h in
      rw (on-sound a (get_in k) (refused NotSound), le-ltb 48 (length k) (key-short k [] e a.lawful h (lit≤ tt)), h, y.same) (entry-lies e y.before)

  pub get_absent : (k : Key) → length k ≤ 48 → get k m.tree ≡ none → (get_answer k s).number ≡ 7
  unfolding get_answer get_in
  get_absent k p h = rw (on-sound a (get_in k) (refused NotSound), le-ltb 48 (length k) p, h)

-- ---- iteration: each entry of the list is a node's

pub data Among (e : Entry) : List Entry → Type 0 where
  here : {x : Entry} {L : List Entry} → x ≡ e → Among e (x ∷ L)
  there : {x : Entry} {L : List Entry} → Among e L → Among e (x ∷ L)

split : (e : Entry) (L M : List Entry) → Among e (L ++ M) → Among e L ⊎ Among e M
split e [] M p = inr p
split e (x ∷ L) M (here q) = inl (here q)
split e (x ∷ L) M (there p) = up (split e L M p)
  where
    up : Among e L ⊎ Among e M → Among e (x ∷ L) ⊎ Among e M
    up (inl q) = inl (there q)
    up (inr q) = inr q

record Noded (e : Entry) (t : Tree) : Type 0 where
  colour : Bool
  lower : Tree
  upper : Tree
  sub : Sub (node colour e lower upper) t

noded : (e : Entry) (t : Tree) → Among e (entries t) → Noded e t
noded e (node c x l r) p = at (split e (entries l) (x ∷ entries r) p) (noded e l) (noded e r)
  where
    top : Among e (x ∷ entries r) → (Among e (entries r) → Noded e r) → Noded e (node c x l r)
    top (here q) j = record { colour = c; lower = l; upper = r; sub = subst (λ (y : Entry). Sub (node c y l r) (node c x l r)) q whole }
    top (there q) j = let w = j q in record { colour = w.colour; lower = w.lower; upper = w.upper; sub = on-right w.sub }

    at : Among e (entries l) ⊎ Among e (x ∷ entries r) → (Among e (entries l) → Noded e l) → (Among e (entries r) → Noded e r) → Noded e (node c x l r)
    at (inl q) i j = let w = i q in record { colour = w.colour; lower = w.lower; upper = w.upper; sub = on-left w.sub }
    at (inr q) i j = top q j
noded e nil p = elim p [ ]

head-among : (L : List Entry) (e : Entry) → head_of L ≡ some e → Among e L
head-among [] e h = absurd (let z : ◌≡◌ {A = ℕ} 0 1 = cc in omega arith)
head-among (x ∷ L) e h = here {x = x} cc

above-among : (k : Key) (L : List Entry) (e : Entry) → first_above k L ≡ some e → Among e L
unfolding first_above
above-among k [] e h = absurd (let z : ◌≡◌ {A = ℕ} 0 1 = cc in omega arith)
above-among k (x ∷ L) e h = at (cmp k x.key) h (above-among k L e)
  where
    at : (o : Ordering) → pick o (some x) (first_above k L) (first_above k L) ≡ some e → (first_above k L ≡ some e → Among e L) → Among e (x ∷ L)
    at Less p i = here {x = x} cc
    at Equal p i = there (i p)
    at Greater p i = there (i p)

above-pairs : (k : Key) (L : List Entry) → pair_above k (pairs L) ≡ map pair (first_above k L)
unfolding pair_above first_above
above-pairs k [] = refl
above-pairs k (x ∷ L) = at (cmp k x.key) (above-pairs k L)
  where
    at : (o : Ordering) → pair_above k (pairs L) ≡ map pair (first_above k L)
        → pick o (some (pair x)) (pair_above k (pairs L)) (pair_above k (pairs L)) ≡ map pair (pick o (some x) (first_above k L) (first_above k L))
    at Less i = refl
    at Equal i = i
    at Greater i = i

head-pairs : (L : List Entry) → map pair (head_of L) ≡ first_pair (pairs L)
head-pairs [] = refl
head-pairs (e ∷ L) = refl

-- entries whose pairs are cut at one are cut at its entry
record CutAt (E : List Entry) (L : List Pair) (p : Pair) (R : List Pair) : Type 0 where
  before : List Entry
  entry : Entry
  after : List Entry
  whole : E ≡ before ++ (entry ∷ after)
  its : pair entry ≡ p
  rest : pairs after ≡ R

cut-pairs : (E : List Entry) (L : List Pair) (p : Pair) (R : List Pair) → pairs E ≡ L ++ (p ∷ R) → CutAt E L p R
cut-pairs [] [] p R h = absurd (let z : ◌≡◌ {A = ℕ} 0 1 = cc in omega arith)
cut-pairs [] (x ∷ L) p R h = absurd (let z : ◌≡◌ {A = ℕ} 0 1 = cc in omega arith)
cut-pairs (e ∷ E) [] p R h = record { before = []; entry = e; after = E; whole = refl; its = cc; rest = cc }
cut-pairs (e ∷ E) (x ∷ L) p R h = more (cut-pairs E L p R cc)
  where
    more : CutAt E L p R → CutAt (e ∷ E) (x ∷ L) p R
    more c = record { before = e ∷ c.before; entry = c.entry; after = c.after; whole = ap (λ (z : List Entry). e ∷ z) c.whole; its = c.its; rest = c.rest }

module _ {s : List ℕ} {m : Model} (a : Represents s m) where
  pub first-lies : (e : Entry) → head_of (entries m.tree) ≡ some e → Lies s e.key e.value (first_entry_answer s)
  unfolding first_entry_answer first_in
  first-lies e h = rw (on-sound a first_in (refused NotSound), h) (entry-lies a e (noded e m.tree (head-among (entries m.tree) e h)).sub)

  pub next-lies : (k : Key) (e : Entry) → length k ≤ 48 → first_above k (entries m.tree) ≡ some e → Lies s e.key e.value (next_entry_answer k s)
  unfolding next_entry_answer next_in
  next-lies k e p h =
      rw (on-sound a (next_in k) (refused NotSound), le-ltb 48 (length k) p, h) (entry-lies a e (noded e m.tree (above-among k (entries m.tree) e h)).sub)

  first-none : head_of (entries m.tree) ≡ none → (first_entry_answer s).number ≡ 7
  unfolding first_entry_answer first_in
  first-none h = rw (on-sound a first_in (refused NotSound), h)

  next-none : (k : Key) → length k ≤ 48 → first_above k (entries m.tree) ≡ none → (next_entry_answer k s).number ≡ 7
  unfolding next_entry_answer next_in
  next-none k p h = rw (on-sound a (next_in k) (refused NotSound), le-ltb 48 (length k) p, h)

  -- ---- the same of the map as a list of pairs

  next-by : (k : Key) → length k ≤ 48 → (o : Option Entry) → first_above k (entries m.tree) ≡ o → Visits s (map pair o) (next_entry_answer k s)
  next-by k p none h = next-none k p h
  next-by k p (some e) h = next-lies k e p h

  pub first-visits : Visits s (first_pair (pairs (entries m.tree))) (first_entry_answer s)
  first-visits = at (entries m.tree) refl
    where
      at : (L : List Entry) → entries m.tree ≡ L → Visits s (first_pair (pairs L)) (first_entry_answer s)
      at [] h = first-none (ap head_of h)
      at (e ∷ L) h = first-lies e (ap head_of h)

  pub next-visits : (k : Key) → length k ≤ 48 → Visits s (pair_above k (pairs (entries m.tree))) (next_entry_answer k s)
  next-visits k p = rw (above-pairs k (entries m.tree)) (next-by k p (first_above k (entries m.tree)) refl)

  pub follow-visits : (L R : List Pair) (p : Pair) → pairs (entries m.tree) ≡ L ++ (p ∷ R) → Visits s (first_pair R) (next_entry_answer p.key s)
  follow-visits L R p h = at (cut-pairs (entries m.tree) L p R h)
    where
      at : CutAt (entries m.tree) L p R → Visits s (first_pair R) (next_entry_answer p.key s)
      at c =
          let w = short-right c.before (c.entry ∷ c.after) (rw c.whole at a.lawful.short) in
          let f = ap (first_above c.entry.key) c.whole ∙ above-follows c.before c.entry c.after (rw c.whole at a.lawful.ordered) in
          rw (← c.rest, ← head-pairs c.after, ← c.its) (next-by c.entry.key w.0 (head_of c.after) f)
