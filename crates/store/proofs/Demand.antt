-- DEMAND 3, proved of every history from a fresh store of any capacity.
use mathlib.Core.Path.{◌≡◌, refl, sym, ap, subst, ◌∙◌}
use mathlib.Core.Bool.{Bool, true, false}
use mathlib.Core.List.{List, [], ◌∷◌}
use mathlib.Core.Option
use mathlib.Core.Option.{Option, none, some}
use Prim.Native.Nat.{ℕ, ◌≤◌}
use native.Mathlib.Omega.{arith}
use lib.Dec.{eqb}
use lib.ListN.{length}
use borrow.Author.Tests.{le-ltb, ne_eqb}
use Rattle.std.specs.declared.cmp.Ordering.{Ordering}
use Rattle.std.specs.declared.cmp.Ordering.TheVariants.{Less, Equal, Greater}
use Rattle.key_order.specs.Order.{Key, cmp, pick}
use Rattle.key_order.proofs.Laws.{gt-lt}
use Rattle.slots.specs.declared.Header.{Header}
use Rattle.slots.specs.Layout.{current, header}
use Rattle.hash_tree.specs.Written.{write}
use Rattle.llrb.specs.Tree.{Value, Entry, Tree, entries, size, get}
use Rattle.llrb.specs.Map.{pairs, find, put, change, drop}
use Rattle.llrb.specs.Digests.{root_hash}
use Rattle.llrb.proofs.History.{insert-pairs, modify-pairs, delete-pairs}
use Rattle.llrb.proofs.Maps.{value-find}
use Rattle.witness_trees.specs.Witness.{key_range, keys_only}
use Rattle.witness_trees.specs.Rules.{Le, keys_of, range_rule}
use Rattle.witness_trees.proofs.Calls.{key-range-is}
use Rattle.witness_trees.proofs.Laws.{key-range-witness, key-range-leaves}
use Rattle.store.specs.Numbers.{NotSound, refused, done}
use Rattle.store.specs.Model.{Model, head, fresh, inserted, modified, deleted}
use Rattle.store.specs.Sound.{Lawful, Represents}
use Rattle.store.specs.Answers.{told, counted, Digested, digested}
use Rattle.store.specs.Calls.{is_none, reversed, of_range, is_empty_answer, count_answer, get_answer, root_hash_answer, key_range_answer}
use Rattle.store.specs.History.{Edit, store_after, accepted, last_value, map_after, first_pair, model_from, model_after}
use Rattle.store.specs.Demand.{Lies, KeyRangeShown, Demand3}
use Rattle.store.proofs.Decoding.{decoded, live-and-free, on-sound}
use Rattle.store.proofs.Operating.{tree-lawful}
use Rattle.store.proofs.Seats.{marks-digests, marks-counts}
use Rattle.store.proofs.Calling.{Done, newly, again, changes, goes}
use Rattle.store.proofs.Running.{model-lawful, store-holds, Step, stays, moves, step}
use Rattle.store.proofs.Histories.{map-after, live-after}
use Rattle.store.proofs.Replacing.{insert-replaces, modify-replaces}
use Rattle.store.proofs.Reading.{get-lies, get_absent, first-visits, next-visits, follow-visits}
use Rattle.store.proofs.Witnessing.{shown-lawful, witnesses-rebuild, fills}

-- ---- the map as a list

done-pairs : {d : Edit} {m n : Model} (h : List Edit) → Lawful m → Done d m n → pairs (entries m.tree) ≡ map_after h → pairs (entries n.tree) ≡ map_after (d ∷ h)
unfolding map_after inserted modified deleted
done-pairs {m = m} h g (newly {k = k} {v = v} p q e f) i = insert-pairs (record { slot = head m.free; key = k; value = v }) (tree-lawful g) ∙ ap (put k v) i
done-pairs {m = m} h g (again {k = k} {v = v} p q e) i = insert-pairs (record { slot = head m.free; key = k; value = v }) (tree-lawful g) ∙ ap (put k v) i
done-pairs h g (changes {k = k} {v = v} p q e) i = modify-pairs k v (tree-lawful g) ∙ ap (change k v) i
done-pairs h g (goes {k = k} p e) i = delete-pairs k (tree-lawful g) ∙ ap (drop k) i

-- the model is the one that the accepted calls make
done-from : (capacity : ℕ) {d : Edit} {m n : Model} (h : List Edit) → Done d m n → m ≡ model_from capacity h → n ≡ model_from capacity (d ∷ h)
unfolding model_from
done-from capacity h (newly {k = k} {v = v} p q e f) i = ap (inserted k v) i
done-from capacity h (again {k = k} {v = v} p q e) i = ap (inserted k v) i
done-from capacity h (changes {k = k} {v = v} p q e) i = ap (modified k v) i
done-from capacity h (goes {k = k} p e) i = ap (deleted k) i

-- no edit changes the capacity
done-capacity : {d : Edit} {m n : Model} → Done d m n → n.capacity ≡ m.capacity
unfolding inserted modified deleted
done-capacity (newly p q e f) = refl
done-capacity (again p q e) = refl
done-capacity (changes p q e) = refl
done-capacity (goes p e) = refl

-- ---- a key range

-- the root digest that is answered
root_is : {s : List ℕ} {m : Model} → Represents s m → root_hash_answer s ≡ record { number = 0; digest = root_hash m.tree }
unfolding root_hash_answer
root_is a = ap digested (on-sound a (λ m. done (root_hash m.tree)) (refused NotSound))

root-hash : {s : List ℕ} {m : Model} → Represents s m → (root_hash_answer s).digest ≡ root_hash m.tree
root-hash a = ap (λ (d : Digested). d.digest) (root_is a)

empty-is : {s : List ℕ} {m : Model} → Represents s m → is_empty_answer s ≡ record { number = 0; yes = is_none (first_pair (pairs (entries m.tree))) }
unfolding is_empty_answer size
empty-is {m = m} a = ap told (on-sound a (λ m. done (eqb (size m.tree) 0)) (refused NotSound)) ∙ ap (λ (b : Bool). told (done b)) (at m.tree)
  where
    none_in : (L : List Entry) → eqb (length L) 0 ≡ is_none (first_pair (pairs L))
    none_in [] = refl
    none_in (e ∷ L) = ne_eqb (length (e ∷ L)) 0 (λ z. omega arith)

    at : (t : Tree) → eqb (size t) 0 ≡ is_none (first_pair (pairs (entries t)))
    at t = none_in (entries t)

count-is : {s : List ℕ} {m : Model} → Represents s m → count_answer s ≡ record { number = 0; count = size m.tree }
unfolding count_answer
count-is a = ap counted (on-sound a (λ m. done (size m.tree)) (refused NotSound))

pub not-reversed : (first last : Key) → Le first last → reversed first last ≡ false
not-reversed first last o = at (cmp first last) refl
  where
    at : (c : Ordering) → cmp first last ≡ c → pick c false false true ≡ false
    at Less e = refl
    at Equal e = refl
    at Greater e = absurd (o (gt-lt first last e))

module _ {s : List ℕ} {m : Model} (a : Represents s m) (first last : Key) (out : List ℕ) (p : length first ≤ 48) (q : length last ≤ 48) (o : Le first last) where
  asked : of_range key_range first last m ≡ done (key_range first last m.tree)
  unfolding of_range
  asked = rw (le-ltb 48 (length first) p, le-ltb 48 (length last) q, not-reversed first last o)

  pub key-range-shown : length (write (key_range first last m.tree)) ≤ length out → KeyRangeShown s out (pairs (entries m.tree)) first last (key_range_answer first last s out)
  unfolding key_range_answer
  key-range-shown r =
      let t = m.tree in
      let f = fills (of_range key_range first last) (key_range first last t) out a asked r in
      let w = key-range-witness first last t a.lawful.ordered o in
      record {
        number = f.number;
        rebuilds = rw (f.bytes, root-hash a) ((witnesses-rebuild a.lawful).key_range first last o);
        tree = key_range first last t;
        lawful = rw (key-range-is first last t a.lawful.ordered o) (shown-lawful (range_rule first last (keys_of (entries t)) keys_only) a.lawful);
        size = f.size;
        bytes = f.bytes;
        labelled = w.labelled;
        valued = key-range-leaves first last t a.lawful.ordered o;
        rest = f.rest;
      }

-- ---- any history

module _ (capacity : ℕ) (low : 1 ≤ capacity) (high : capacity ≤ 1024) where
  pairs_start : pairs (entries (model_after capacity []).tree) ≡ map_after (accepted capacity [])
  unfolding model_after accepted fresh map_after
  pairs_start = refl

  pub pairs-after : (h : List Edit) → pairs (entries (model_after capacity h).tree) ≡ map_after (accepted capacity h)
  pairs-after [] = pairs_start
  pairs-after (d ∷ h) = at (step capacity low high d h) (pairs-after h)
    where
      at : Step capacity low high d h → pairs (entries (model_after capacity h).tree) ≡ map_after (accepted capacity h)
          → pairs (entries (model_after capacity (d ∷ h)).tree) ≡ map_after (accepted capacity (d ∷ h))
      at (stays e f) i = rw (e, f) i
      at (moves c f) i = rw f (done-pairs (accepted capacity h) (model-lawful capacity low high h) c i)

  from_start : model_after capacity [] ≡ model_from capacity (accepted capacity [])
  unfolding model_after accepted model_from
  from_start = refl

  pub model-from : (h : List Edit) → model_after capacity h ≡ model_from capacity (accepted capacity h)
  model-from [] = from_start
  model-from (d ∷ h) = at (step capacity low high d h) (model-from h)
    where
      at : Step capacity low high d h → model_after capacity h ≡ model_from capacity (accepted capacity h)
          → model_after capacity (d ∷ h) ≡ model_from capacity (accepted capacity (d ∷ h))
      at (stays e f) i = rw (e, f) i
      at (moves c f) i = rw f (done-from capacity (accepted capacity h) c i)

  capacity-start : (model_after capacity []).capacity ≡ capacity
  unfolding model_after fresh
  capacity-start = refl

  capacity-after : (h : List Edit) → (model_after capacity h).capacity ≡ capacity
  capacity-after [] = capacity-start
  capacity-after (d ∷ h) = at (step capacity low high d h) (capacity-after h)
    where
      at : Step capacity low high d h → (model_after capacity h).capacity ≡ capacity → (model_after capacity (d ∷ h)).capacity ≡ capacity
      at (stays e f) i = rw e i
      at (moves c f) i = done-capacity c ∙ i

  -- a key with a last value is present
  present : (h : List Edit) (key : Key) (old : Value) → last_value key (accepted capacity h) ≡ some old → (e : Entry) × (get key (model_after capacity h).tree ≡ some e) × (e.value ≡ old)
  present h key old l = at (get key (model_after capacity h).tree) refl (map-after capacity low high h key ∙ l)
    where
      at : (g : Option Entry) → get key (model_after capacity h).tree ≡ g → Option.map (λ (e : Entry). e.value) g ≡ some old → (e : Entry) × (get key (model_after capacity h).tree ≡ some e) × (e.value ≡ old)
      at none e i = absurd (let z : ◌≡◌ {A = ℕ} 0 1 = cc in omega arith)
      at (some x) e i = (x, e, cc)

  no-entry : (o : Option Entry) → Option.map (λ (e : Entry). e.value) o ≡ none → o ≡ none
  no-entry none i = refl
  no-entry (some x) i = cc

  pub demand-3 : (h : List Edit) → Demand3 capacity (store_after capacity h) (accepted capacity h)
  demand-3 h =
      let a = store-holds capacity low high h in
      let g = model-lawful capacity low high h in
      let d = decoded a in
      let n : (header (store_after capacity h)).live ≡ size (model_after capacity h).tree = ap (λ (x : Header). x.live) a.laid.header in
      record {
        sound = (model_after capacity h, a);
        digests = rw d (marks-digests current (store_after capacity h) (model_after capacity h).tree a.laid.marks);
        counts = rw d (marks-counts current (store_after capacity h) (model_after capacity h).tree a.laid.marks);
        map = rw d (pairs-after h);
        last = λ key. ap (find key) (sym (pairs-after h)) ∙ sym (value-find key (tree-lawful g)) ∙ map-after capacity low high h key;
        found = λ key value l. let e = present h key value l in subst (λ (v : Value). Lies (store_after capacity h) key v (get_answer key (store_after capacity h))) e.2 (get-lies a key e.0 e.1);
        missing = λ key p l. get_absent a key p (no-entry (get key (model_after capacity h).tree) (map-after capacity low high h key ∙ l));
        model = d ∙ model-from h;
        root = root_is a ∙ ap (λ (x : Model). digested (done (root_hash x.tree))) (model-from h);
        first = rw (← pairs-after h) (first-visits a);
        follows = λ L R p e. follow-visits a L R p (pairs-after h ∙ e);
        next = λ key p. rw (← pairs-after h) (next-visits a key p);
        is_empty = rw (← pairs-after h) (empty-is a);
        live = rw n (live-after capacity low high h);
        free = rw (n, d) (live-and-free g ∙ capacity-after h);
        counted = rw n (count-is a);
        insert = λ key value old l v. let e = present h key old l in insert-replaces key value e.0 g e.1 v a;
        modify = λ key value old l v. let e = present h key old l in modify-replaces key value e.0 g e.1 v a;
        key_range = λ first last out p q o r.
            rw (← pairs-after h) (key-range-shown a first last out p q o (rw d at r));
      }
