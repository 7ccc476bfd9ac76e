-- What a search finds is an entry of the tree; so it lies in its slot, and its place is what the public calls answer.
use mathlib.Core.Path.{◌≡◌, refl, sym, ap, ◌∙◌}
use mathlib.Core.Bool.{Bool, true, false, cond}
use mathlib.Core.List.{List}
use mathlib.Core.Option.{Option, none, some}
use Prim.Native.Nat.{ℕ, ◌≤◌}
use lib.ListN.{length}
use borrow.Author.Tests.{le-ltb}
use Rattle.key_order.specs.Order.{Key, cmp, is_prefix_of}
use Rattle.slots.specs.Layout.{header}
use Rattle.llrb.specs.Tree.{Entry, Tree, nil, node, get}
use Rattle.llrb.specs.Delete.{least}
use Rattle.llrb.specs.Iterate.{first_entry, or_entry, next_entry}
use Rattle.llrb.proofs.Iterate.{first_head, next-above}
use Rattle.witness_trees.specs.Witness as bounds
use Rattle.witness_trees.specs.Witness.{or, lower_bound, upper_bound, right_prefix_neighbor}
use Rattle.witness_trees.proofs.Lists.{arms}
use Rattle.store.specs.Numbers.{NotSound, Absent, refused}
use Rattle.store.specs.Model.{Model}
use Rattle.store.specs.Sound.{Represents, Sound}
use Rattle.store.specs.Answers.{found}
use Rattle.store.specs.Calls.{entry_or, get_in, first_in, next_in, get_answer, first_entry_answer, next_entry_answer}
use Rattle.store.proofs.Decoding.{on-sound}
use Rattle.std.specs.Prelude as code
use Rattle.search.specs.declared.Place.{Place}
use Rattle.search.specs.Search.{Each, Lies, HasTree, found_slot, Stored, OfEntry, OfBound, FoundIn, place_of, answer_of}
use Rattle.search.proofs.Lying.{all-stored, represents-lies}

-- ---- what holds of each entry holds of what is found

module _ (P : Entry → Type 0) where
  pub get-each : (k : Key) (t : Tree) → Each P t → OfEntry P (get k t)
  unfolding get
  get-each k nil a = tt
  get-each k (node c e l r) a =
      let il = get-each k l a.1 in
      let ir = get-each k r a.2 in
      arms (OfEntry P) (cmp k e.key) (λ q. il) (λ q. a.0) (λ q. ir)

  least-each : (e : Entry) (t : Tree) → P e → Each P t → P (least e t)
  least-each e nil p a = p
  least-each e (node c x l r) p a = least-each x l a.0 a.1

  pub first-each : (t : Tree) → Each P t → OfEntry P (first_entry t)
  unfolding first_entry
  first-each nil a = tt
  first-each (node c e l r) a = least-each e l a.0 a.1

  entry-each : (b : Option Entry) (e : Entry) → OfEntry P b → P e → OfEntry P (or_entry b (some e))
  entry-each none e x p = p
  entry-each (some b) e x p = x

  pub next-each : (k : Key) (t : Tree) → Each P t → OfEntry P (next_entry k t)
  unfolding next_entry
  next-each k nil a = tt
  next-each k (node c e l r) a =
      let il = next-each k l a.1 in
      let ir = next-each k r a.2 in
      arms (OfEntry P) (cmp k e.key) (λ q. entry-each (next_entry k l) e il a.0) (λ q. ir) (λ q. ir)

  bound-each : (b : Option bounds.KeyBound) (e : Entry) → OfBound P b → P e → OfBound P (or b (some (bounds.Neighbor e)))
  bound-each none e x p = p
  bound-each (some (bounds.Exact b)) e x p = x
  bound-each (some (bounds.Neighbor b)) e x p = x

  pub low-each : (k : Key) (t : Tree) → Each P t → OfBound P (lower_bound k t)
  unfolding lower_bound
  low-each k nil a = tt
  low-each k (node c e l r) a =
      let il = low-each k l a.1 in
      let ir = low-each k r a.2 in
      arms (OfBound P) (cmp e.key k) (λ q. bound-each (lower_bound k r) e ir a.0) (λ q. a.0) (λ q. il)

  pub high-each : (k : Key) (t : Tree) → Each P t → OfBound P (upper_bound k t)
  unfolding upper_bound
  high-each k nil a = tt
  high-each k (node c e l r) a =
      let il = high-each k l a.1 in
      let ir = high-each k r a.2 in
      arms (OfBound P) (cmp e.key k) (λ q. ir) (λ q. a.0) (λ q. bound-each (upper_bound k l) e il a.0)

  pub past-each : (k : Key) (t : Tree) → Each P t → OfBound P (right_prefix_neighbor k t)
  unfolding right_prefix_neighbor
  past-each k nil a = tt
  past-each k (node c e l r) a =
      let il = past-each k l a.1 in
      let ir = past-each k r a.2 in
      arms (OfBound P) (cmp e.key k) (λ q. ir) (λ q. ir) (λ q. go (is_prefix_of k e.key) ir (bound-each (right_prefix_neighbor k l) e il a.0))
    where
      go : (b : Bool) → OfBound P (right_prefix_neighbor k r) → OfBound P (or (right_prefix_neighbor k l) (some (bounds.Neighbor e)))
          → OfBound P (cond b (right_prefix_neighbor k r) (or (right_prefix_neighbor k l) (some (bounds.Neighbor e))))
      go true x y = x
      go false x y = y

-- ---- places

stored-in : (s : List ℕ) (o : Option Entry) → OfEntry (Stored s) o → FoundIn s (found_slot o)
stored-in s none a = tt
stored-in s (some e) a = a.there.inside

place_found : (s : List ℕ) (o : Option Entry) → OfEntry (Stored s) o → answer_of (place_of s (found_slot o)) ≡ found s (entry_or Absent o)
place_found s none a = refl
place_found s (some e) a = rw (a.key_length, a.value_length)

module _ {s : List ℕ} {m : Model} (a : Represents s m) where
  pub get-answer : (k : Key) → length k ≤ 48 → found s (entry_or Absent (get k m.tree)) ≡ get_answer k s
  unfolding get_answer get_in
  get-answer k p = sym (rw (on-sound a (get_in k) (refused NotSound), le-ltb 48 (length k) p))

  pub first-answer : found s (entry_or Absent (first_entry m.tree)) ≡ first_entry_answer s
  unfolding first_entry_answer first_in
  first-answer = sym (rw (on-sound a first_in (refused NotSound), first_head m.tree))

  pub next-answer : (k : Key) → length k ≤ 48 → found s (entry_or Absent (next_entry k m.tree)) ≡ next_entry_answer k s
  unfolding next_entry_answer next_in
  next-answer k p = sym (rw (on-sound a (next_in k) (refused NotSound), le-ltb 48 (length k) p, next-above k m.tree a.lawful.ordered))

-- ---- in the order of the code: the header, the search for what F finds, the place

module _ {s : List ℕ} (p : Sound s) {x : ℕ} (ex : x ≡ (header s).root) where
  at-hand : Lies s x p.0.tree
  at-hand = rw ex (represents-lies p.1)

  pub root_in : HasTree s x
  root_in = (p.0.tree, at-hand)

  module _ (F : Tree → Option Entry) (each : (t : Tree) → Each (Stored s) t → OfEntry (Stored s) (F t)) {f : code.Option ℕ} (q : (t : Tree) → Lies s x t → f ≡ found_slot (F t)) where
    pub found_in : FoundIn s f
    found_in = rw (q p.0.tree at-hand) (stored-in s (F p.0.tree) (each p.0.tree (all-stored p.0.tree at-hand)))

    pub placed : {r : code.Option Place} → r ≡ place_of s f → answer_of r ≡ found s (entry_or Absent (F p.0.tree))
    placed e =
        ap answer_of (e ∙ ap (place_of s) (q p.0.tree at-hand)) ∙ place_found s (F p.0.tree) (each p.0.tree (all-stored p.0.tree at-hand))
