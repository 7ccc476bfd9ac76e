-- What holds where a walk arrives: its bound is in the subtree or beyond its near end. It passes down, so a subtree that is walked
-- into is empty or its witness has a label: its kind is known before it is written, and no three parts are all Pruned.
use mathlib.Core.Path.{◌≡◌, refl, sym, ◌∙◌}
use mathlib.Core.Logic.{◌⊎◌, inl, inr}
use mathlib.Core.Bool.{Bool, true, false, ◌&&◌, true≢false}
use mathlib.Core.List.{List, [], ◌∷◌, ◌++◌}
use Prim.Native.Nat.{ℕ}
use native.Mathlib.Omega.{arith}
use Rattle.key_order.specs.Order.{Key, cmp}
use Rattle.key_order.proofs.Laws.{cmp-eq, gt-lt}
use Rattle.hash_tree.specs.HashTree.{HashTree, Empty, Fork, Labeled, Leaf, Pruned, digest}
use Rattle.llrb.specs.Tree.{Entry, Tree, nil, node, entries}
use Rattle.llrb.specs.Sorted.{Sorted, Mem}
use Rattle.llrb.proofs.Lists.{mem-left, mem-right}
use Rattle.llrb.specs.Digests.{is_nil, subtree_digest}
use Rattle.witness_trees.specs.Reading.{is_pruned, labels}
use Rattle.witness_trees.specs.Shown.{three_way_fork, item}
use Rattle.witness_trees.specs.Witness.{Form, keys_only, values}
use Rattle.witness_trees.specs.Rules.{Le}
use Rattle.witness_trees.proofs.Shown.{reads-labels, reads-join}
use Rattle.witness_trees.proofs.Lists.{arms, lt-le, sorted-l, sorted-r, Lo, Hi, lo-left, lo-right, lo-mem, hi-right, hi-left, hi-mem, lo-start, hi-start}
use Rattle.search.specs.declared.KeyBound.{KeyBound}
use Rattle.search.specs.declared.KeyBound.TheVariants.{Exact, Neighbor}
use Rattle.witness_walks.specs.declared.Walk.{Walk}
use Rattle.witness_walks.specs.declared.Walk.TheVariants.{Full, Above, Below, Between, Lookup}
use Rattle.witness_walks.specs.declared.What.{What}
use Rattle.witness_walks.specs.declared.What.TheVariants.{Hide, Label, Show}
use Rattle.witness_walks.specs.declared.Part.{Part}
use Rattle.witness_walks.specs.declared.Part.TheVariants.{Nothing, Hidden, Walked}
use Rattle.witness_walks.specs.declared.Arm.{Arm}
use Rattle.witness_walks.specs.declared.Kind.TheVariants.{Other}
use Rattle.witness_walks.specs.Arms.{seen_at, both_seen, arms_at}
use Rattle.search.specs.Search.{slot_of}
use Rattle.witness_walks.specs.Records.{is_pruned as kind_pruned, kind_of_part, kind_of_what}
use Rattle.witness_walks.specs.Walked.{what_of, showing, joined, part_tree}
use Rattle.witness_walks.specs.Met.{Three}
use Rattle.witness_walks.proofs.Joining.{IsKind, what-kind}

-- ---- where a walk arrives

abbrev pub Reached : (K : ℕ → Key) → Walk → Tree → Type 0
Reached K Full t = Unit {0}
Reached K (Above lo) t = Sorted (entries t) × Lo (K (slot_of lo)) (entries t)
Reached K (Below hi) t = Sorted (entries t) × Hi (K (slot_of hi)) (entries t)
Reached K (Between lo hi) t = Le (K (slot_of lo)) (K (slot_of hi)) × Sorted (entries t) × Lo (K (slot_of lo)) (entries t) × Hi (K (slot_of hi)) (entries t)
Reached K (Lookup i) t = Sorted (entries t) × Mem (K i) (entries t)

abbrev pub ReachedPart : (K : ℕ → Key) → Part → Tree → Type 0
ReachedPart K Nothing t = ⊥
ReachedPart K Hidden t = Unit {0}
ReachedPart K (Walked w) t = Reached K w t

-- walked into, and there is something
abbrev pub Enters : Part → Tree → Type 0
Enters Nothing t = ⊥
Enters Hidden t = ⊥
Enters (Walked w) nil = ⊥
Enters (Walked w) (node c e l r) = Unit {0}

abbrev pub Loud : What → Type 0
Loud m = kind_pruned (kind_of_what m) ≡ false

-- the parts of an arm are reached, and it shows its entry or goes on
abbrev pub Goes : (K : ℕ → Key) → Arm → (l r : Tree) → Type 0
Goes K a tl tr = ReachedPart K a.left tl × ReachedPart K a.right tr × (Loud a.middle ⊎ (Enters a.left tl ⊎ Enters a.right tr))

mem-enters : (k : Key) (w : Walk) (t : Tree) → Mem k (entries t) → Enters (Walked w) t
mem-enters k w nil m = m
mem-enters k w (node c e l r) m = tt

pub showing-loud : (w : Form) → Loud (showing w)
showing-loud keys_only = refl
showing-loud values = refl

seen-loud : (b : KeyBound) (w : Form) → Loud (seen_at b (showing w))
seen-loud (Exact i) w = showing-loud w
seen-loud (Neighbor i) w = refl

both-loud : (a b : KeyBound) (w : Form) → Loud (both_seen a b (showing w))
both-loud (Exact i) b w = showing-loud w
both-loud (Neighbor i) (Exact j) w = showing-loud w
both-loud (Neighbor i) (Neighbor j) w = refl

-- ---- it passes down

pub goes : (K : ℕ → Key) (w : Form) (walk : Walk) (c : Bool) (e : Entry) (l r : Tree) → Reached K walk (node c e l r) → Goes K (arms_at K walk (showing w) e.key) l r
goes K w Full c e l r h = (tt, tt, inl (showing-loud w))
goes K w (Above lo) c e l r (s, a) =
    let k = K (slot_of lo) in
    let L = entries l in
    let R = entries r in
    arms (λ x. Goes K x l r) (cmp e.key k)
    (λ q. let m = lo-mem k L e R s q a in (tt, (sorted-r L e R s, inl m), inr (inr (mem-enters k (Above lo) r m))))
    (λ q. (tt, tt, inl (seen-loud lo w)))
    (λ q. ((sorted-l L e R s, lo-left k L e R s (gt-lt e.key k q) a), tt, inl (showing-loud w)))
goes K w (Below hi) c e l r (s, b) =
    let k = K (slot_of hi) in
    let L = entries l in
    let R = entries r in
    arms (λ x. Goes K x l r) (cmp e.key k)
    (λ q. (tt, (sorted-r L e R s, hi-right k L e R s q b), inl (showing-loud w)))
    (λ q. (tt, tt, inl (seen-loud hi w)))
    (λ q. let m = hi-mem k L e R s (gt-lt e.key k q) b in ((sorted-l L e R s, inl m), tt, inr (inl (mem-enters k (Below hi) l m))))
goes K w (Between lo hi) c e l r (ord, s, a, b) =
    let j = K (slot_of lo) in
    let k = K (slot_of hi) in
    let L = entries l in
    let R = entries r in
    let sl = sorted-l L e R s in
    let sr = sorted-r L e R s in
    arms (λ x. Goes K x l r) (cmp j e.key)
    (λ p.
    let al = lo-left j L e R s p a in
    arms (λ x. Goes K x l r) (cmp e.key k)
    (λ q. ((ord, sl, al, hi-left k L e R s q), (ord, sr, lo-right j L e R s p, hi-right k L e R s q b), inl (showing-loud w)))
    (λ q. ((ord, sl, al, hi-start k L e R s q), tt, inl (seen-loud hi w)))
    (λ q. let m = hi-mem k L e R s (gt-lt e.key k q) b in ((ord, sl, al, inl m), tt, inr (inl (mem-enters k (Between lo hi) l m)))))
    (λ p.
    arms (λ x. Goes K x l r) (cmp e.key k)
    (λ q. (tt, (ord, sr, lo-start j L e R s p, hi-right k L e R s q b), inl (seen-loud lo w)))
    (λ q. (tt, tt, inl (both-loud lo hi w)))
    (λ q. absurd (ord (rw (cmp-eq j e.key p) (gt-lt e.key k q)))))
    (λ p.
    let u = gt-lt j e.key p in
    let m = lo-mem j L e R s u a in
    (tt, (ord, sr, inl m, hi-right k L e R s (lt-le e.key j k u ord) b), inr (inr (mem-enters j (Between lo hi) r m))))
goes K w (Lookup i) c e l r (s, h) =
    let k = K i in
    let L = entries l in
    let R = entries r in
    arms (λ x. Goes K x l r) (cmp k e.key)
    (λ q. let m = mem-left k L e R s q h in ((sorted-l L e R s, m), tt, inr (inl (mem-enters k (Lookup i) l m))))
    (λ q. (tt, tt, inl refl))
    (λ q. let m = mem-right k L e R s q h in (tt, (sorted-r L e R s, m), inr (inr (mem-enters k (Lookup i) r m))))

-- ---- labels

-- it has a label
abbrev pub Labelled : HashTree → Type 0
Labelled u = labels u ≡ [] → ⊥

no-labels : {X : Type 0} (L M : List X) → L ++ M ≡ [] → (L ≡ []) × (M ≡ [])
no-labels [] M h = (refl, h)
no-labels (x ∷ L) M h = let z : ◌≡◌ {A = ℕ} 0 1 = cc in absurd (omega arith)

join-labelled : (u m v : HashTree) → Labelled u ⊎ (Labelled m ⊎ Labelled v) → Labelled (three_way_fork u m v)
join-labelled u m v h q = on h
  where
    p : (labels u ≡ []) × (labels m ++ labels v ≡ [])
    p = no-labels (labels u) (labels m ++ labels v) (sym (reads-join labels reads-labels u m v) ∙ q)

    on : Labelled u ⊎ (Labelled m ⊎ Labelled v) → ⊥
    on (inl a) = a p.0
    on (inr (inl a)) = a (no-labels (labels m) (labels v) p.1).0
    on (inr (inr a)) = a (no-labels (labels m) (labels v) p.1).1

item-labelled : (m : What) (e : Entry) → Loud m → Labelled (item (what_of m) e)
item-labelled Hide e h q = true≢false h
item-labelled Label e h q = let z : ◌≡◌ {A = ℕ} 0 1 = cc in omega arith
item-labelled Show e h q = let z : ◌≡◌ {A = ℕ} 0 1 = cc in omega arith

-- neither Empty nor Pruned
labelled-other : (u : HashTree) → Labelled u → IsKind Other u
labelled-other Empty h = absurd (h refl)
labelled-other (Fork l r) h = record { empty = refl; pruned = refl }
labelled-other (Labeled k t) h = record { empty = refl; pruned = refl }
labelled-other (Leaf v) h = record { empty = refl; pruned = refl }
labelled-other (Pruned d) h = absurd (h refl)

entered : (K : ℕ → Key) (w : Form) (t : Tree) (p : Part) → ReachedPart K p t → Enters p t → Labelled (part_tree K (showing w) t p)
unfolding part_tree
entered K w nil Nothing h x = absurd h
entered K w nil Hidden h x = absurd x
entered K w nil (Walked walk) h x = absurd x
entered K w (node c e l r) Nothing h x = absurd h
entered K w (node c e l r) Hidden h x = absurd x
entered K w (node c e l r) (Walked walk) h x = on (goes K w walk c e l r h) (entered K w l) (entered K w r)
  where
    a : Arm
    a = arms_at K walk (showing w) e.key

    on : Goes K a l r
        → ((p : Part) → ReachedPart K p l → Enters p l → Labelled (part_tree K (showing w) l p))
        → ((p : Part) → ReachedPart K p r → Enters p r → Labelled (part_tree K (showing w) r p))
        → Labelled (joined a (part_tree K (showing w) l) (part_tree K (showing w) r) e)
    on (p, q, inl y) il ir = join-labelled _ _ _ (inr (inl (item-labelled a.middle e y)))
    on (p, q, inr (inl y)) il ir = join-labelled _ _ _ (inl (il a.left p y))
    on (p, q, inr (inr y)) il ir = join-labelled _ _ _ (inr (inr (ir a.right q y)))

-- A SUBTREE THAT A WALK GOES INTO IS EMPTY, OR ITS WITNESS HAS A LABEL
pub walked-into : (K : ℕ → Key) (w : Form) (walk : Walk) (t : Tree) → Reached K walk t → (t ≡ nil) ⊎ Labelled (part_tree K (showing w) t (Walked walk))
walked-into K w walk nil h = inl refl
walked-into K w walk (node c e l r) h = inr (entered K w (node c e l r) (Walked walk) h tt)

-- ---- the kinds of the parts

-- EACH SIDE IS OF THE KIND THAT IS KNOWN OF IT BEFOREHAND
pub part-kind : (K : ℕ → Key) (w : Form) (t : Tree) (p : Part) → ReachedPart K p t → IsKind (kind_of_part (is_nil t) p) (part_tree K (showing w) t p)
unfolding part_tree
part-kind K w nil Nothing h = elim h [ ]
part-kind K w nil Hidden h = record { empty = refl; pruned = refl }
part-kind K w nil (Walked walk) h = record { empty = refl; pruned = refl }
part-kind K w (node c e l r) Nothing h = elim h [ ]
part-kind K w (node c e l r) Hidden h = record { empty = refl; pruned = refl }
part-kind K w (node c e l r) (Walked walk) h = labelled-other _ (entered K w (node c e l r) (Walked walk) h tt)

-- a part that is Pruned is a hidden child
pub pruned-part : (K : ℕ → Key) (w : Form) (t : Tree) (p : Part) → ReachedPart K p t → is_pruned (part_tree K (showing w) t p) ≡ true
    → digest (part_tree K (showing w) t p) ≡ subtree_digest t
unfolding part_tree
pruned-part K w nil p h q = absurd (true≢false (sym q))
pruned-part K w (node c e l r) Nothing h q = elim h [ ]
pruned-part K w (node c e l r) Hidden h q = refl
pruned-part K w (node c e l r) (Walked walk) h q = absurd (true≢false (sym q ∙ (part-kind K w (node c e l r) (Walked walk) h).pruned))

-- NO NODE THAT A WALK ARRIVES AT JOINS THREE PRUNED PARTS
pub not_three : (K : ℕ → Key) (w : Form) (walk : Walk) (c : Bool) (e : Entry) (l r : Tree) → Reached K walk (node c e l r) → Three K (showing w) walk e l r ≡ false
not_three K w walk c e l r h = on (goes K w walk c e l r h)
  where
    a : Arm
    a = arms_at K walk (showing w) e.key

    not-all : (x y z : Bool) → (x ≡ false) ⊎ ((y ≡ false) ⊎ (z ≡ false)) → (x && (y && z)) ≡ false
    not-all x y z (inl h) = rw h
    not-all true y z (inr (inl h)) = rw h
    not-all false y z (inr (inl h)) = refl
    not-all true true z (inr (inr h)) = h
    not-all true false z (inr (inr h)) = refl
    not-all false y z (inr (inr h)) = refl

    shows : (t : Tree) (p : Part) → ReachedPart K p t → Enters p t → is_pruned (part_tree K (showing w) t p) ≡ false
    shows t p h x = (labelled-other (part_tree K (showing w) t p) (entered K w t p h x)).pruned

    pl : Bool
    pl = is_pruned (part_tree K (showing w) l a.left)

    pm : Bool
    pm = is_pruned (item (what_of a.middle) e)

    pr : Bool
    pr = is_pruned (part_tree K (showing w) r a.right)

    on : Goes K a l r → Three K (showing w) walk e l r ≡ false
    on (p, q, inl y) = not-all pl pm pr (inr (inl ((what-kind a.middle e).pruned ∙ y)))
    on (p, q, inr (inl y)) = not-all pl pm pr (inl (shows l a.left p y))
    on (p, q, inr (inr y)) = not-all pl pm pr (inr (inr (shows r a.right q y)))
