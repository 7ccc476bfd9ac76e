-- create, insert, modify and delete keep a model lawful.
use mathlib.Core.Path.{◌≡◌, refl, sym, ◌∙◌}
use mathlib.Core.Logic.{◌⊎◌, inl, inr}
use mathlib.Core.List.{List, [], ◌∷◌}
use mathlib.Core.Option.{none, some}
use Prim.Native.Nat.{ℕ, ◌+◌, ◌≤◌}
use native.Mathlib.Omega.{arith}
use lib.ListN.{length}
use Rattle.std.specs.declared.cmp.Ordering.{Ordering}
use Rattle.std.specs.declared.cmp.Ordering.TheVariants.{Less, Equal, Greater}
use Rattle.key_order.specs.Order.{Key, cmp, pick}
use Rattle.llrb.specs.Tree.{Value, Entry, Tree, entries, get, insert, with_value}
use Rattle.llrb.specs.Delete.{delete, freed}
use Rattle.llrb.specs.Sorted.{Sorted, Mem, Cut, gone, over, skip}
use Rattle.llrb.specs.Map.{slots, put_e, change_e, Without}
use Rattle.llrb.specs.Shape as shape
use Rattle.llrb.proofs.Get.{get-find, find-some, find_none}
use Rattle.llrb.proofs.Insert.{insert-put}
use Rattle.llrb.proofs.Modify.{modify-change}
use Rattle.llrb.proofs.Laws.{lawful-good}
use Rattle.llrb.proofs.Delete.{delete-ok}
use Rattle.llrb.proofs.History.{insert-lawful, modify-lawful, delete-lawful, insert-slots, modify-slots, delete-slots}
use Rattle.store.specs.Counts.{is, occurs, numbers_to}
use Rattle.store.specs.Counting.{occurs-append}
use Rattle.store.specs.Model.{Model, slots_of, head, tail, fresh, free_after, inserted, modified, deleted}
use Rattle.store.specs.Sound.{Short, Lawful}
use Rattle.store.proofs.Trees.{occurs-without}
use Rattle.store.proofs.Decoding.{once-sum}

-- the tree of a lawful model is lawful
pub tree-lawful : {m : Model} → Lawful m → shape.Lawful m.tree
tree-lawful g =
    record { sorted = g.ordered; root-black = g.root_black; reds-apart = g.reds_apart; leans-left = g.leans_left; same-blacks = g.same_blacks }

-- ---- a key is found exactly when it is one of the tree's

pub get-mem : (k : Key) (t : Tree) (e : Entry) → Sorted (entries t) → get k t ≡ some e → Mem k (entries t)
get-mem k t e s h = find-some k (entries t) e (sym (get-find k t s) ∙ h)

pub get-not : (k : Key) (t : Tree) → Sorted (entries t) → get k t ≡ none → Mem k (entries t) → ⊥
get-not k t s h = find_none k (entries t) (sym (get-find k t s) ∙ h)

-- ---- keys and values stay short

short-put : (x : Entry) (L : List Entry) → length x.key ≤ 48 → length x.value ≤ 64 → Short L → Short (put_e x L)
unfolding put_e
short-put x [] p q a = (p, q, tt)
short-put x (e ∷ L) p q a = at (cmp x.key e.key) (short-put x L p q a.2)
  where
    at : (o : Ordering) → Short (put_e x L) → Short (pick o (x ∷ e ∷ L) (with_value e x.value ∷ L) (e ∷ put_e x L))
    at Less i = (p, q, a)
    at Equal i = (a.0, q, a.2)
    at Greater i = (a.0, a.1, i)

short-change : (k : Key) (v : Value) (L : List Entry) → length v ≤ 64 → Short L → Short (change_e k v L)
unfolding change_e
short-change k v [] q a = tt
short-change k v (e ∷ L) q a = at (cmp k e.key) (short-change k v L q a.2)
  where
    at : (o : Ordering) → Short (change_e k v L) → Short (pick o (e ∷ change_e k v L) (with_value e v ∷ L) (e ∷ change_e k v L))
    at Less i = (a.0, a.1, i)
    at Equal i = (a.0, q, a.2)
    at Greater i = (a.0, a.1, i)

short_cut : {k : Key} {s : ℕ} {L M : List Entry} → Cut k s L M → Short L → Short M
short_cut (gone h g) a = a.2
short_cut (over h g) a = a.2
short_cut (skip c) a = (a.0, a.1, short_cut c a.2)

-- ---- a model of lawful parts

made : {capacity : ℕ} {t : Tree} {f : List ℕ} → 1 ≤ capacity → capacity ≤ 1024 → shape.Lawful t → Short (entries t)
    → ((x : ℕ) → occurs x (slots_of t) + occurs x f ≡ occurs x (numbers_to capacity)) → Lawful (record { capacity = capacity; tree = t; free = f })
made {capacity} {t} {f} p q w a o =
    record {
      least = p;
      most = q;
      short = a;
      ordered = w.sorted;
      root_black = w.root-black;
      reds_apart = w.reds-apart;
      leans_left = w.leans-left;
      same_blacks = w.same-blacks;
      once = λ x. occurs-append x (slots_of t) f ∙ o x;
    }

pub fresh-lawful : (capacity : ℕ) → 1 ≤ capacity → capacity ≤ 1024 → Lawful (fresh capacity)
unfolding fresh
fresh-lawful capacity p q =
    made p q (record { sorted = tt; root-black = refl; reds-apart = tt; leans-left = tt; same-blacks = (0, refl) }) tt (λ x. omega arith)

-- ---- insert

-- a new key wants a free slot
pub data Room (k : Key) (m : Model) : Type 0 where
  present : (e : Entry) → get k m.tree ≡ some e → Room k m
  absent : get k m.tree ≡ none → 1 ≤ length m.free → Room k m

pub inserted-lawful : (k : Key) (v : Value) {m : Model} → Lawful m → length k ≤ 48 → length v ≤ 64 → Room k m → Lawful (inserted k v m)
unfolding inserted
inserted-lawful k v {m} g p q r =
    made g.least g.most (insert-lawful x (tree-lawful g)) (rw (insert-put x m.tree g.ordered) (short-put x (entries m.tree) p q g.short)) (once r)
  where
    x : Entry
    x = record { slot = head m.free; key = k; value = v }

    taken : (f : List ℕ) → 1 ≤ length f → (y : ℕ) → occurs y f ≡ is y (head f) + occurs y (tail f)
    taken [] l y = absurd (omega arith)
    taken (z ∷ f) l y = refl

    once : Room k m → (y : ℕ) → occurs y (slots_of (insert x m.tree)) + occurs y (free_after (get k m.tree) m.free) ≡ occurs y (numbers_to m.capacity)
    once (present e h) y = at (insert-slots x (tree-lawful g))
      where
        at : (Mem k (entries m.tree) × (slots (entries (insert x m.tree)) ≡ slots (entries m.tree)))
            ⊎ ((Mem k (entries m.tree) → ⊥) × Without (head m.free) (slots (entries (insert x m.tree))) (slots (entries m.tree)))
            → occurs y (slots_of (insert x m.tree)) + occurs y (free_after (get k m.tree) m.free) ≡ occurs y (numbers_to m.capacity)
        at (inl c) = rw (c.1, h) (once-sum g y)
        at (inr c) = absurd (c.0 (get-mem k m.tree e g.ordered h))
    once (absent h l) y = at (insert-slots x (tree-lawful g))
      where
        at : (Mem k (entries m.tree) × (slots (entries (insert x m.tree)) ≡ slots (entries m.tree)))
            ⊎ ((Mem k (entries m.tree) → ⊥) × Without (head m.free) (slots (entries (insert x m.tree))) (slots (entries m.tree)))
            → occurs y (slots_of (insert x m.tree)) + occurs y (free_after (get k m.tree) m.free) ≡ occurs y (numbers_to m.capacity)
        at (inl c) = absurd (get-not k m.tree g.ordered h c.0)
        at (inr c) = rw h (omega (arith, once-sum g y, occurs-without y c.1, taken m.free l y))

-- ---- modify

pub modified-lawful : (k : Key) (v : Value) {m : Model} → Lawful m → length v ≤ 64 → Lawful (modified k v m)
unfolding modified
modified-lawful k v {m} g q =
    made g.least g.most (modify-lawful k v (tree-lawful g)) (rw (modify-change k v m.tree g.ordered) (short-change k v (entries m.tree) q g.short))
    (λ y. rw (modify-slots k v (tree-lawful g)) (once-sum g y))

-- ---- delete

pub deleted-lawful : (k : Key) {m : Model} (e : Entry) → Lawful m → get k m.tree ≡ some e → Lawful (deleted k m)
unfolding deleted
deleted-lawful k {m} e g h =
    made g.least g.most (delete-lawful k (tree-lawful g)) (at (delete-ok k (lawful-good (tree-lawful g)) g.ordered).cut) (λ y. once y (delete-slots k (tree-lawful g)))
  where
    there : Mem k (entries m.tree)
    there = get-mem k m.tree e g.ordered h

    at : (Mem k (entries m.tree) × Cut k (freed k m.tree) (entries m.tree) (entries (delete k m.tree))) ⊎ ((Mem k (entries m.tree) → ⊥) × (delete k m.tree ≡ m.tree))
        → Short (entries (delete k m.tree))
    at (inl c) = short_cut c.1 g.short
    at (inr c) = absurd (c.0 there)

    once : (y : ℕ) → (Mem k (entries m.tree) × Without (freed k m.tree) (slots (entries m.tree)) (slots (entries (delete k m.tree))))
        ⊎ ((Mem k (entries m.tree) → ⊥) × (delete k m.tree ≡ m.tree))
        → occurs y (slots_of (delete k m.tree)) + occurs y (freed k m.tree ∷ m.free) ≡ occurs y (numbers_to m.capacity)
    once y (inl c) = omega (arith, once-sum g y, occurs-without y c.1)
    once y (inr c) = absurd (c.0 there)
