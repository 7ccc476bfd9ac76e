-- What each search answers: its turns are those of the search on paper, which carries the best met so far down the tree.
use mathlib.Core.Path.{◌≡◌, refl, sym, ap, subst, ◌∙◌}
use borrow.Author.Tests.{eq-eqb, ne_eqb}
use mathlib.Core.Bool.{Bool, true, false, cond}
use mathlib.Core.List.{List}
use mathlib.Core.Option.{Option, none, some}
use Prim.Native.Nat.{ℕ}
use lib.Dec.{eqb}
use lib.ListN.{length}
use Rattle.std.specs.Prelude.{Some, None}
use Rattle.std.specs.Prelude as code
use Rattle.std.specs.declared.cmp.Ordering.TheVariants.{Greater}
use Rattle.key_order.specs.Order.{Key, pick, cmp, common, is_prefix_of, compared}
use Rattle.key_order.specs.declared.Compared.{Compared}
use Rattle.key_order.proofs.Laws.{begins-common}
use Rattle.slots.specs.Layout.{slot, key_of}
use Rattle.llrb.specs.Tree.{Entry, Tree, nil, node, get}
use Rattle.llrb.specs.Iterate.{first_entry, or_entry, next_entry, next_loop}
use Rattle.llrb.proofs.Iterate.{next-loop}
use Rattle.witness_trees.specs.Witness as bounds
use Rattle.witness_trees.specs.Witness.{or, lower_bound, upper_bound, right_prefix_neighbor}
use Rattle.witness_trees.proofs.Lists.{arms}
use Rattle.witness_trees.proofs.Loops.{low_loop, high_loop, past_loop, low-loop, high-loop, past-loop}
use Rattle.search.specs.declared.KeyBound.{KeyBound}
use Rattle.search.specs.declared.KeyBound.TheVariants.{Exact, Neighbor}
use Rattle.search.specs.declared.Turn.{Turn}
use Rattle.search.specs.declared.Turn.TheVariants.{Stop, Left, Right}
use Rattle.search.specs.Search.{Each, Lies, EntryAt, Stored, found_slot, bound_slot, Onward, Descends}
use Rattle.search.proofs.Lying.{all-stored}

-- the turn w, from the best b at the node of e over l and r, is that of the search F on paper
abbrev Follows : {B D R : Type 0} (F : B → Tree → R) (shows : B → D) (answer : R → D) → B → (c : Bool) (e : Entry) (l r : Tree) → Turn D → Type 0
Follows F shows answer b c e l r (Stop x) = x ≡ answer (F b (node c e l r))
Follows {B} F shows answer b c e l r (Left x) = (b' : B) × (x ≡ shows b') × (F b (node c e l r) ≡ F b' l)
Follows {B} F shows answer b c e l r (Right x) = (b' : B) × (x ≡ shows b') × (F b (node c e l r) ≡ F b' r)

-- what the code tells of its turns: in slot i, with b met so far, the turn is that of the key there
pub record Turns {D : Type 0} (s : List ℕ) (turn : Key → ℕ → D → Turn D) (P : ℕ → D → Turn D → Type 0) : Type 0 where
  pub tells : (i : ℕ) (b : D) (w : Turn D) → EntryAt s i → P i b w → w ≡ turn (key_of (slot s i)) i b

module _ {B D R : Type 0} (F : B → Tree → R) (shows : B → D) (answer : R → D) (turn : Key → ℕ → D → Turn D) (last : (b : B) → shows b ≡ answer (F b nil)) (follows : (b : B) (c : Bool) (e : Entry) (l r : Tree) → Follows F shows answer b c e l r (turn e.key e.slot (shows b))) {P : ℕ → D → Turn D → Type 0} {s : List ℕ} (told : Turns s turn P) where
  here : (b : B) (c : Bool) (e : Entry) (l r : Tree) → Stored s e → (w : Turn D) → P e.slot (shows b) w → Follows F shows answer b c e l r w
  here b c e l r a w p =
      subst (Follows F shows answer b c e l r) (sym (told.tells e.slot (shows b) w a.there p ∙ ap (λ (n : Key). turn n e.slot (shows b)) a.key)) (follows b c e l r)

  answers : (t : Tree) → Each (Stored s) t → (b : B) (z : D) → Descends P t (shows b) z → z ≡ answer (F b t)
  answers nil a b z d = d ∙ last b
  answers (node c e l r) a b z d =
      let il = answers l a.1 in
      let ir = answers r a.2 in
      go d.0 (here b c e l r a.0 d.0 d.1) d.2 il ir
    where
      go : (w : Turn D) → Follows F shows answer b c e l r w → Onward w (λ x. Descends P l x z) (λ x. Descends P r x z) z
          → ((b' : B) (y : D) → Descends P l (shows b') y → y ≡ answer (F b' l)) → ((b' : B) (y : D) → Descends P r (shows b') y → y ≡ answer (F b' r))
          → z ≡ answer (F b (node c e l r))
      go (Stop x) f d il ir = d ∙ f
      go (Left x) f d il ir = il f.0 z (subst (λ (y : D). Descends P l y z) f.1 d) ∙ ap answer (sym f.2)
      go (Right x) f d il ir = ir f.0 z (subst (λ (y : D). Descends P r y z) f.1 d) ∙ ap answer (sym f.2)

  all : {h : ℕ} {z : D} (b : B) (t : Tree) → Lies s h t → Descends P t (shows b) z → z ≡ answer (F b t)
  all b t a d = answers t (all-stored t a) b _ d

-- ---- get: nothing is carried

abbrev pub get_turn : Key → Key → ℕ → code.Option ℕ → Turn (code.Option ℕ)
get_turn k n i b = pick (cmp k n) (Left b) (Stop (Some i)) (Right b)

abbrev by_get : Key → Unit {0} → Tree → Option Entry
by_get k u t = get k t

module _ (k : Key) {P : ℕ → code.Option ℕ → Turn (code.Option ℕ) → Type 0} {s : List ℕ} (told : Turns s (get_turn k) P) {h : ℕ} {z : code.Option ℕ} where
  pub get_all : (t : Tree) → Lies s h t → Descends P t None z → z ≡ found_slot (get k t)
  unfolding get
  get_all t a d =
      all (by_get k) (λ u. None) found_slot (get_turn k) (λ u. refl)
      (λ u c e l r. arms (Follows (by_get k) (λ u. None) found_slot u c e l r) (cmp k e.key) (λ q. (tt, refl, rw q refl)) (λ q. rw q refl) (λ q. (tt, refl, rw q refl)))
      told tt t a d

-- ---- the bounds: the best bound met so far is carried

module _ (k : Key) where
  abbrev pub low_turn : Key → ℕ → code.Option KeyBound → Turn (code.Option KeyBound)
  low_turn n i b = pick (cmp n k) (Right (Some (Neighbor i))) (Stop (Some (Exact i))) (Left b)

  abbrev pub high_turn : Key → ℕ → code.Option KeyBound → Turn (code.Option KeyBound)
  high_turn n i b = pick (cmp n k) (Right b) (Stop (Some (Exact i))) (Left (Some (Neighbor i)))

  abbrev pub past_turn : Key → ℕ → code.Option KeyBound → Turn (code.Option KeyBound)
  past_turn n i b = pick (cmp n k) (Right b) (Right b) (cond (eqb (common n k) (length k)) (Right b) (Left (Some (Neighbor i))))

-- a bound, and nothing after it
or-none : (b : Option bounds.KeyBound) → or b none ≡ b
or-none none = refl
or-none (some b) = refl

-- by the count, at a node above the prefix: where all of the prefix agrees the turn is to the right with what was met so far, else to the left with
-- the node as neighbor; and there the search on paper goes on with the same
module _ (k : Key) (e : Entry) {z : Compared} (ec : z ≡ compared e.key k) (q : z.order ≡ Greater) where
  above : cmp e.key k ≡ Greater
  above = sym (ap (λ (y : Compared). y.order) ec) ∙ q

  pub past-right : z.agree ≡ length k → (b : Option bounds.KeyBound) (c : Bool) (l r : Tree)
      → (past_turn k e.key e.slot (bound_slot b) ≡ Right (bound_slot b)) × (past_loop k b (node c e l r) ≡ past_loop k b r)
  unfolding past_loop
  past-right x b c l r =
      let w : eqb (common e.key k) (length k) ≡ true = eq-eqb _ _ (sym (ap (λ (y : Compared). y.agree) ec) ∙ x) in
      (rw (above, w) refl, rw (above, begins-common k e.key ∙ w) refl)

  pub past-left : (z.agree ≡ length k → ⊥) → (b : Option bounds.KeyBound) (c : Bool) (l r : Tree)
      → (past_turn k e.key e.slot (bound_slot b) ≡ Left (Some (Neighbor e.slot))) × (past_loop k b (node c e l r) ≡ past_loop k (some (bounds.Neighbor e)) l)
  unfolding past_loop
  past-left x b c l r =
      let w : eqb (common e.key k) (length k) ≡ false = ne_eqb _ _ (λ f. x (ap (λ (y : Compared). y.agree) ec ∙ f)) in
      (rw (above, w) refl, rw (above, begins-common k e.key ∙ w) refl)

module _ (k : Key) {P : ℕ → code.Option KeyBound → Turn (code.Option KeyBound) → Type 0} {s : List ℕ} {h : ℕ} {z : code.Option KeyBound} where
  pub low_all : Turns s (low_turn k) P → (t : Tree) → Lies s h t → Descends P t None z → z ≡ bound_slot (lower_bound k t)
  unfolding low_loop
  low_all told t a d =
      all (low_loop k) bound_slot bound_slot (low_turn k) (λ b. refl)
      (λ b c e l r. arms (Follows (low_loop k) bound_slot bound_slot b c e l r) (cmp e.key k) (λ q. (some (bounds.Neighbor e), refl, rw q refl)) (λ q. rw q refl) (λ q. (b, refl, rw q refl)))
      told none t a d
      ∙ ap bound_slot (low-loop k none t ∙ or-none (lower_bound k t))

  pub high_all : Turns s (high_turn k) P → (t : Tree) → Lies s h t → Descends P t None z → z ≡ bound_slot (upper_bound k t)
  unfolding high_loop
  high_all told t a d =
      all (high_loop k) bound_slot bound_slot (high_turn k) (λ b. refl)
      (λ b c e l r. arms (Follows (high_loop k) bound_slot bound_slot b c e l r) (cmp e.key k) (λ q. (b, refl, rw q refl)) (λ q. rw q refl) (λ q. (some (bounds.Neighbor e), refl, rw q refl)))
      told none t a d
      ∙ ap bound_slot (high-loop k none t ∙ or-none (upper_bound k t))

  pub past_all : Turns s (past_turn k) P → (t : Tree) → Lies s h t → Descends P t None z → z ≡ bound_slot (right_prefix_neighbor k t)
  unfolding past_loop
  past_all told t a d =
      all (past_loop k) bound_slot bound_slot (past_turn k) (λ b. refl)
      (λ b c e l r. arms (Follows (past_loop k) bound_slot bound_slot b c e l r) (cmp e.key k) (λ q. (b, refl, rw q refl)) (λ q. (b, refl, rw q refl)) (λ q. go (eqb (common e.key k) (length k)) b c e l r q (begins-common k e.key)))
      told none t a d
      ∙ ap bound_slot (past-loop k none t ∙ or-none (right_prefix_neighbor k t))
    where
      go : (v : Bool) (b : Option bounds.KeyBound) (c : Bool) (e : Entry) (l r : Tree) → cmp e.key k ≡ Greater → is_prefix_of k e.key ≡ v
          → Follows (past_loop k) bound_slot bound_slot b c e l r (cond v (Right (bound_slot b)) (Left (Some (Neighbor e.slot))))
      go true b c e l r q w = (b, refl, rw (q, w) refl)
      go false b c e l r q w = (some (bounds.Neighbor e), refl, rw (q, w) refl)

-- ---- iteration: the best entry met so far is carried

abbrev pub first_turn : Key → ℕ → code.Option ℕ → Turn (code.Option ℕ)
first_turn n i b = Left (Some i)

abbrev pub next_turn : Key → Key → ℕ → code.Option ℕ → Turn (code.Option ℕ)
next_turn k n i b = pick (cmp k n) (Left (Some i)) (Right b) (Right b)

abbrev first_loop : Option Entry → Tree → Option Entry
first_loop b t = or_entry (first_entry t) b

-- an entry, and nothing after it
or_entry-none : (b : Option Entry) → or_entry b none ≡ b
or_entry-none none = refl
or_entry-none (some b) = refl

first_step : (b : Option Entry) (c : Bool) (e : Entry) (l r : Tree) → first_loop b (node c e l r) ≡ first_loop (some e) l
unfolding first_entry
first_step b c e nil r = refl
first_step b c e (node d x l m) r = refl

module _ {P : ℕ → code.Option ℕ → Turn (code.Option ℕ) → Type 0} {s : List ℕ} {h : ℕ} {z : code.Option ℕ} where
  pub first_all : Turns s first_turn P → (t : Tree) → Lies s h t → Descends P t None z → z ≡ found_slot (first_entry t)
  unfolding first_entry
  first_all told t a d =
      all first_loop found_slot found_slot first_turn (λ b. refl) (λ b c e l r. (some e, refl, first_step b c e l r)) told none t a d
      ∙ ap found_slot (or_entry-none (first_entry t))

  pub next_all : (k : Key) → Turns s (next_turn k) P → (t : Tree) → Lies s h t → Descends P t None z → z ≡ found_slot (next_entry k t)
  unfolding next_loop
  next_all k told t a d =
      all (next_loop k) found_slot found_slot (next_turn k) (λ b. refl)
      (λ b c e l r. arms (Follows (next_loop k) found_slot found_slot b c e l r) (cmp k e.key) (λ q. (some e, refl, rw q refl)) (λ q. (b, refl, rw q refl)) (λ q. (b, refl, rw q refl)))
      told none t a d
      ∙ ap found_slot (next-loop k none t ∙ or_entry-none (next_entry k t))
