-- What holds of `shown f t` for every rule f and every tree: digest, what it says, depth, and when it is Pruned.
use mathlib.Core.Path.{◌≡◌, refl, sym, ap, ◌∙◌}
use mathlib.Core.Bool.{Bool, true, false, not, cond, ◌&&◌, true≢false, and_assoc}
use mathlib.Core.List.{List, [], ◌∷◌, ◌++◌, append-nil, append_assoc}
use Prim.Native.Nat.{suc, ◌+◌, ◌*◌, ◌≤◌, max}
use native.Mathlib.Omega.{arith}
use Rattle.hash_tree.specs.HashTree.{Digest, HashTree, Empty, Fork, Labeled, Leaf, Pruned, fork_hash, digest}
use Rattle.llrb.specs.Tree.{Entry, Tree, nil, node, entries}
use Rattle.llrb.specs.Shape.{height}
use Rattle.llrb.specs.Digests.{data_digest, node_digest, is_nil, subtree_digest}
use Rattle.witness_trees.specs.Reading.{is_empty, is_pruned, labels, leaves, says, depth}
use Rattle.witness_trees.specs.Shown.{three, three_way_fork, spread, traced, What, Hide, Label, Show, is_hide, item, quiet, shown}

-- a branch, each arm with its equation; the arms themselves are found in the goal
pub branch : {X : Type 0} (P : X → Type 0) (b : Bool) {x y : X} → (b ≡ true → P x) → (b ≡ false → P y) → P (cond b x y)
branch P true p q = p refl
branch P false p q = q refl

and-true : (a b : Bool) → (a && b) ≡ true → (a ≡ true) × (b ≡ true)
and-true true b h = (refl, h)
and-true false b h = absurd (true≢false (sym h))

-- ---- the digest of a join is that of a node: the slip Fork(Fork(l, m), r) is refused here

pub digest-join : (l m r : HashTree) → digest (three_way_fork l m r) ≡ node_digest (is_empty l) (is_empty r) (digest l) (digest m) (digest r)
unfolding three_way_fork
digest-join l m r =
    branch P (is_empty l && is_empty r)
    (λ h. let k = and-true (is_empty l) (is_empty r) h in rw (k.0, k.1))
    (λ h. branch P (is_empty r)
    (λ y. rw (y, left-full h y))
    (λ y. branch P (is_empty l)
    (λ x. rw (x, y))
    (λ x. branch P (three l m r) (λ u. rw (x, y)) (λ u. branch P (is_pruned m && is_pruned r) (λ v. rw (x, y)) (λ v. rw (x, y))))))
  where
    P : HashTree → Type 0
    P u = digest u ≡ node_digest (is_empty l) (is_empty r) (digest l) (digest m) (digest r)

    left-full : (is_empty l && is_empty r) ≡ false → is_empty r ≡ true → is_empty l ≡ false
    left-full h y = at (is_empty l) (rw y at h)
      where
        at : (b : Bool) → (b && true) ≡ false → b ≡ false
        at true k = absurd (true≢false k)
        at false k = refl

-- ---- the cases of a join and of a node, each with what is known there

pub join-cases : (P : HashTree → Type 0) (l m r : HashTree)
    → (is_empty l ≡ true → is_empty r ≡ true → P m)
    → (is_empty l ≡ false → is_empty r ≡ true → P (Fork l m))
    → (is_empty l ≡ true → is_empty r ≡ false → P (Fork m r))
    → (is_empty l ≡ false → is_empty r ≡ false → three l m r ≡ true → P (Pruned (fork_hash (digest l) (fork_hash (digest m) (digest r)))))
    → (is_empty l ≡ false → is_empty r ≡ false → (is_pruned m && is_pruned r) ≡ true → P (Fork l (Pruned (fork_hash (digest m) (digest r)))))
    → (is_empty l ≡ false → is_empty r ≡ false → (is_pruned m && is_pruned r) ≡ false → P (Fork l (Fork m r)))
    → P (three_way_fork l m r)
unfolding three_way_fork
join-cases P l m r p₁ p₂ p₃ p₄ p₅ p₆ = go (is_empty l) (is_empty r) (three l m r) (is_pruned m && is_pruned r) refl refl refl refl
  where
    go : (a b c d : Bool) → is_empty l ≡ a → is_empty r ≡ b → three l m r ≡ c → (is_pruned m && is_pruned r) ≡ d
        → P (cond (a && b) m (cond b (Fork l m) (cond a (Fork m r)
        (cond c (Pruned (fork_hash (digest l) (fork_hash (digest m) (digest r))))
        (cond d (Fork l (Pruned (fork_hash (digest m) (digest r)))) (Fork l (Fork m r)))))))
    go true true c d x y u v = p₁ x y
    go true false c d x y u v = p₃ x y
    go false true c d x y u v = p₂ x y
    go false false true d x y u v = p₄ x y u
    go false false false true x y u v = p₅ x y v
    go false false false false x y u v = p₆ x y v

pub node-cases : (P : HashTree → Type 0) (f : Entry → What) (c : Bool) (e : Entry) (l r : Tree)
    → (quiet f (entries l ++ (e ∷ entries r)) ≡ true → P (Pruned (subtree_digest (node c e l r))))
    → (quiet f (entries l ++ (e ∷ entries r)) ≡ false → P (three_way_fork (shown f l) (item (f e) e) (shown f r)))
    → P (shown f (node c e l r))
unfolding shown
node-cases P f c e l r p q = go (quiet f (entries l ++ (e ∷ entries r))) refl
  where
    go : (b : Bool) → quiet f (entries l ++ (e ∷ entries r)) ≡ b → P (cond b (Pruned (subtree_digest (node c e l r))) (three_way_fork (shown f l) (item (f e) e) (shown f r)))
    go true h = p h
    go false h = q h

pub shown-nil : (f : Entry → What) → shown f nil ≡ Empty
unfolding shown
shown-nil f = refl

-- ---- digest

pub digest-item : (w : What) (e : Entry) → digest (item w e) ≡ data_digest e
digest-item Hide e = refl
digest-item Label e = refl
digest-item Show e = refl

pub item-full : (w : What) (e : Entry) → is_empty (item w e) ≡ false
item-full Hide e = refl
item-full Label e = refl
item-full Show e = refl

pub empty-shown : (f : Entry → What) (t : Tree) → is_empty (shown f t) ≡ is_nil t
empty-shown f nil = ap is_empty (shown-nil f)
empty-shown f (node c e l r) =
    node-cases (λ u. is_empty u ≡ false) f c e l r (λ h. refl)
    (λ h. join-cases (λ u. is_empty u ≡ false) (shown f l) (item (f e) e) (shown f r)
    (λ x y. item-full (f e) e) (λ x y. refl) (λ x y. refl) (λ x y u. refl) (λ x y u. refl) (λ x y u. refl))

pub digest-shown : (f : Entry → What) (t : Tree) → digest (shown f t) ≡ subtree_digest t
unfolding shown subtree_digest
digest-shown f nil = refl
digest-shown f (node c e l r) =
    let p = digest-shown f l in
    let q = digest-shown f r in
    node-cases (λ u. digest u ≡ subtree_digest (node c e l r)) f c e l r (λ h. refl)
    (λ h. digest-join (shown f l) (item (f e) e) (shown f r) ∙ rw (empty-shown f l, empty-shown f r, p, q, digest-item (f e) e))

-- ---- what it says: any reading of trees that takes forks apart

pub record Reads {X : Type 0} (m : HashTree → List X) : Type 0 where
  pub empty : m Empty ≡ []
  pub pruned : (d : Digest) → m (Pruned d) ≡ []
  pub fork : (l r : HashTree) → m (Fork l r) ≡ m l ++ m r

pub reads-labels : Reads labels
reads-labels = record { empty = refl; pruned = λ d. refl; fork = λ l r. refl }

pub reads-leaves : Reads leaves
reads-leaves = record { empty = refl; pruned = λ d. refl; fork = λ l r. refl }

pub reads-says : Reads says
reads-says = record { empty = refl; pruned = λ d. refl; fork = λ l r. refl }

abbrev pub flat : {X : Type 0} → (Entry → List X) → List Entry → List X
flat g [] = []
flat g (e ∷ L) = g e ++ flat g L

module _ {X : Type 0} (m : HashTree → List X) (ok : Reads m) where
  none-empty : (t : HashTree) → is_empty t ≡ true → m t ≡ []
  none-empty Empty h = ok.empty
  none-empty (Fork l r) h = absurd (true≢false (sym h))
  none-empty (Labeled k t) h = absurd (true≢false (sym h))
  none-empty (Leaf v) h = absurd (true≢false (sym h))
  none-empty (Pruned d) h = absurd (true≢false (sym h))

  none-pruned : (t : HashTree) → is_pruned t ≡ true → m t ≡ []
  none-pruned Empty h = absurd (true≢false (sym h))
  none-pruned (Fork l r) h = absurd (true≢false (sym h))
  none-pruned (Labeled k t) h = absurd (true≢false (sym h))
  none-pruned (Leaf v) h = absurd (true≢false (sym h))
  none-pruned (Pruned d) h = ok.pruned d

  pub reads-join : (l p r : HashTree) → m (three_way_fork l p r) ≡ m l ++ (m p ++ m r)
  reads-join l p r =
      join-cases (λ u. m u ≡ m l ++ (m p ++ m r)) l p r
      (λ x y. rw (none-empty l x, none-empty r y) (sym (append-nil (m p))))
      (λ x y. rw (none-empty r y, append-nil (m p)) (ok.fork l p))
      (λ x y. rw (none-empty l x) (ok.fork p r))
      (λ x y u.
      let h = and-true (is_pruned l) (is_pruned p && is_pruned r) u in
      let k = and-true (is_pruned p) (is_pruned r) h.1 in
      rw (none-pruned l h.0, none-pruned p k.0, none-pruned r k.1) (ok.pruned _))
      (λ x y v.
      let k = and-true (is_pruned p) (is_pruned r) v in
      rw (ok.fork l (Pruned (fork_hash (digest p) (digest r))), ok.pruned, none-pruned p k.0, none-pruned r k.1))
      (λ x y v. rw (ok.fork l (Fork p r), ok.fork p r))

  flat_append : (g : Entry → List X) (L M : List Entry) → flat g (L ++ M) ≡ flat g L ++ flat g M
  flat_append g [] M = refl
  flat_append g (e ∷ L) M = rw (flat_append g L M) (sym (append_assoc (g e) (flat g L) (flat g M)))

  none-item : (w : What) (e : Entry) → is_hide w ≡ true → m (item w e) ≡ []
  none-item Hide e h = ok.pruned _
  none-item Label e h = absurd (true≢false (sym h))
  none-item Show e h = absurd (true≢false (sym h))

  none-quiet : (f : Entry → What) (L : List Entry) → quiet f L ≡ true → flat (λ e. m (item (f e) e)) L ≡ []
  none-quiet f [] h = refl
  none-quiet f (e ∷ L) h =
      let k = and-true (is_hide (f e)) (quiet f L) h in
      rw (none-item (f e) e k.0) (none-quiet f L k.1)

  pub reads-shown : (f : Entry → What) (t : Tree) → m (shown f t) ≡ flat (λ e. m (item (f e) e)) (entries t)
  reads-shown f nil = ap m (shown-nil f) ∙ ok.empty
  reads-shown f (node c e l r) =
      let p = reads-shown f l in
      let q = reads-shown f r in
      node-cases (λ u. m u ≡ flat g (entries l ++ (e ∷ entries r))) f c e l r
      (λ h. ok.pruned _ ∙ sym (none-quiet f (entries l ++ (e ∷ entries r)) h))
      (λ h. reads-join (shown f l) (item (f e) e) (shown f r) ∙ rw (p, q) (sym (flat_append g (entries l) (e ∷ entries r))))
    where
      g : Entry → List X
      g x = m (item (f x) x)

-- ---- depth

depth-item : (w : What) (e : Entry) → depth (item w e) ≤ 2
depth-item Hide e = omega arith
depth-item Label e = omega arith
depth-item Show e = omega arith

pub depth-shown : (f : Entry → What) (t : Tree) → depth (shown f t) ≤ 2 * height t + 2
unfolding shown height
depth-shown f nil = omega arith
depth-shown f (node c e l r) =
    let p = depth-shown f l in
    let q = depth-shown f r in
    let k = depth-item (f e) e in
    node-cases P f c e l r (λ h. omega arith)
    (λ h. join-cases P (shown f l) (item (f e) e) (shown f r)
    (λ x y. omega arith) (λ x y. omega arith) (λ x y. omega arith) (λ x y u. omega arith) (λ x y u. omega arith) (λ x y u. omega arith))
  where
    P : HashTree → Type 0
    P u = depth u ≤ 2 * suc (max (height l) (height r)) + 2

-- ---- when a part is Pruned

pub quiet-append : (f : Entry → What) (L M : List Entry) → quiet f (L ++ M) ≡ (quiet f L && quiet f M)
quiet-append f [] M = refl
quiet-append f (e ∷ L) M = rw (quiet-append f L M) (sym (and_assoc (is_hide (f e)) (quiet f L) (quiet f M)))

pruned-item : (w : What) (e : Entry) → is_pruned (item w e) ≡ is_hide w
pruned-item Hide e = refl
pruned-item Label e = refl
pruned-item Show e = refl

nil-quiet : (f : Entry → What) (t : Tree) → is_nil t ≡ true → quiet f (entries t) ≡ true
nil-quiet f nil h = refl
nil-quiet f (node c e l r) h = absurd (true≢false (sym h))

-- a part that is not Empty is Pruned exactly where nothing below it is labelled
abbrev pub PrunedIs : (Entry → What) → Tree → Type 0
PrunedIs f t = is_pruned (shown f t) ≡ (not (is_nil t) && quiet f (entries t))

quiet_of : (f : Entry → What) (t : Tree) → PrunedIs f t → is_pruned (shown f t) ≡ true → quiet f (entries t) ≡ true
quiet_of f t p h = (and-true (not (is_nil t)) (quiet f (entries t)) (sym p ∙ h)).1

not_three : (f : Entry → What) (e : Entry) (l r : Tree) → PrunedIs f l → PrunedIs f r
    → quiet f (entries l ++ (e ∷ entries r)) ≡ false → three (shown f l) (item (f e) e) (shown f r) ≡ false
not_three f e l r p q h = go (three (shown f l) (item (f e) e) (shown f r)) refl
  where
    go : (b : Bool) → three (shown f l) (item (f e) e) (shown f r) ≡ b → b ≡ false
    go false k = refl
    go true k =
        let u = and-true (is_pruned (shown f l)) (is_pruned (item (f e) e) && is_pruned (shown f r)) k in
        let v = and-true (is_pruned (item (f e) e)) (is_pruned (shown f r)) u.1 in
        absurd (true≢false (sym (quiet-append f (entries l) (e ∷ entries r)
        ∙ rw (quiet_of f l p u.0, sym (pruned-item (f e) e) ∙ v.0, quiet_of f r q v.1)) ∙ h))

pub pruned-is : (f : Entry → What) (t : Tree) → PrunedIs f t
pruned-is f nil = ap is_pruned (shown-nil f)
pruned-is f (node c e l r) =
    let p = pruned-is f l in
    let q = pruned-is f r in
    node-cases P f c e l r (λ h. sym h)
    (λ h. join-cases P (shown f l) (item (f e) e) (shown f r)
    (λ x y. pruned-item (f e) e ∙ sym (quiet-append f (entries l) (e ∷ entries r)
    ∙ rw (nil-quiet f l (sym (empty-shown f l) ∙ x), nil-quiet f r (sym (empty-shown f r) ∙ y)) (and-true-right (is_hide (f e)))))
    (λ x y. sym h) (λ x y. sym h)
    (λ x y u. absurd (true≢false (sym u ∙ not_three f e l r p q h)))
    (λ x y u. sym h) (λ x y u. sym h))
  where
    P : HashTree → Type 0
    P u = is_pruned u ≡ quiet f (entries l ++ (e ∷ entries r))

    and-true-right : (b : Bool) → (b && true) ≡ b
    and-true-right true = refl
    and-true-right false = refl

-- THE RULE OF THREE PRUNED IS NEVER REACHED, whatever is labelled
pub never-three : (f : Entry → What) (e : Entry) (l r : Tree)
    → quiet f (entries l ++ (e ∷ entries r)) ≡ false → three (shown f l) (item (f e) e) (shown f r) ≡ false
never-three f e l r h = not_three f e l r (pruned-is f l) (pruned-is f r) h

-- ---- the witness made without looking at its own parts

pub traced-shown : (f : Entry → What) (t : Tree) → traced f t ≡ shown f t
unfolding traced
traced-shown f nil = sym (shown-nil f)
traced-shown f (node c e l r) =
    let p = traced-shown f l in
    let q = traced-shown f r in
    node-cases (λ u. traced f (node c e l r) ≡ u) f c e l r
    (λ h. rw h)
    (λ h. rw (h, p, q) (join-cases P (shown f l) (item (f e) e) (shown f r)
    (λ x y. rw (sym (empty-shown f l) ∙ x, sym (empty-shown f r) ∙ y))
    (λ x y. rw (sym (empty-shown f l) ∙ x, sym (empty-shown f r) ∙ y))
    (λ x y. rw (sym (empty-shown f l) ∙ x, sym (empty-shown f r) ∙ y))
    (λ x y u. absurd (true≢false (sym u ∙ never-three f e l r h)))
    (λ x y u. rw (sym (empty-shown f l) ∙ x, sym (empty-shown f r) ∙ y, pair y u, digest-item (f e) e, digest-shown f r))
    (λ x y u. rw (sym (empty-shown f l) ∙ x, sym (empty-shown f r) ∙ y, pair y u))))
  where
    P : HashTree → Type 0
    P u = spread (is_nil l) (is_nil r) (is_hide (f e) && quiet f (entries r)) (fork_hash (data_digest e) (subtree_digest r)) (shown f l) (item (f e) e) (shown f r) ≡ u

    pair : is_empty (shown f r) ≡ false → {b : Bool} → (is_pruned (item (f e) e) && is_pruned (shown f r)) ≡ b → (is_hide (f e) && quiet f (entries r)) ≡ b
    pair y u = rw (← (pruned-item (f e) e)) (rw (pruned-is f r, sym (empty-shown f r) ∙ y) at u)

-- a node with something labelled, as a parent-first writer meets it
pub shown-spread : (f : Entry → What) (c : Bool) (e : Entry) (l r : Tree) → quiet f (entries l ++ (e ∷ entries r)) ≡ false
    → shown f (node c e l r)
    ≡ spread (is_nil l) (is_nil r) (is_hide (f e) && quiet f (entries r)) (fork_hash (data_digest e) (subtree_digest r)) (shown f l) (item (f e) e) (shown f r)
unfolding traced
shown-spread f c e l r h = sym (traced-shown f (node c e l r)) ∙ rw (h, traced-shown f l, traced-shown f r)
