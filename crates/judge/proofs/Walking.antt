-- The walk over a subtree: what it found on the way is the tree, and where it stopped there is none.
use mathlib.Core.Path.{◌≡◌, refl, sym, ap, subst, ◌∙◌}
use mathlib.Core.Bool.{Bool, true, false, cond, true≢false}
use mathlib.Core.List.{List}
use Prim.Native.Nat.{ℕ, ◌-◌, ◌≤◌, ◌<◌}
use native.Mathlib.Omega.{arith}
use lib.Dec.{eqb}
use borrow.Author.Tests.{eqb-true, eqb-false, ne_eqb, eq-eqb}
use Rattle.slots.specs.Layout.{count_in, header, Slot, slot, Mark, count_of, digest_of, key_of, value_of, node_slot, IsEntry}
use Rattle.llrb.specs.Tree.{Entry, Tree, nil, node, is_red, entries, size}
use Rattle.llrb.specs.Shape.{Blacks, SameBlacks, height}
use Rattle.llrb.specs.Digests.{is_nil, subtree_digest}
use Rattle.entries.specs.Digests.{compute_subtree_hash, linked_count}
use Rattle.entries.proofs.Laws.{subtree-right, count-right}
use Rattle.store.specs.Model.{root}
use Rattle.store.specs.Sound.{Marks}
use Rattle.slots.proofs.Writing.{node-key, node-value}
use Rattle.llrb.proofs.Height.{size-node}
use Rattle.judge.specs.declared.Trail.{Trail}
use Rattle.std.specs.Prelude.{Some, None}
use Rattle.judge.specs.Rising.{Bound, over, Past, Rising, last_of}
use Rattle.judge.specs.Steps.{NodeOk, Within, Good, bound_of, Met, Seen, Fits, WalkSays, blacks_from, joined}
use Rattle.judge.proofs.Order.{rising-join, rising-split, last-join}
use Rattle.judge.proofs.Unique.{tree-same}
use Rattle.judge.proofs.Testing.{bound-pos}

-- ---- links and what they name

pub root-within : (cap : ℕ) (t : Tree) → Within cap t → root t ≤ cap
root-within cap nil a = omega arith
root-within cap (node c e l r) a = a.0.1

no-link : (x : ℕ) → 1 ≤ x → eqb x 0 ≡ false
no-link x p = ne_eqb x 0 (λ e. omega arith)

link-nil : (cap : ℕ) (t : Tree) → Within cap t → {x : ℕ} → x ≡ root t → eqb x 0 ≡ is_nil t
link-nil cap nil w p = eq-eqb _ 0 p
link-nil cap (node c e l r) w p = ap (λ (x : ℕ). eqb x 0) p ∙ no-link e.slot w.0.0

-- the stored digest and count of a child, where there is one
child-digest : (d : ℕ) (s : List ℕ) (t : Tree) → Marks d s t → {x : ℕ} → x ≡ root t → is_nil t ≡ false → digest_of s x ≡ subtree_digest t
child-digest d s nil m p n = absurd (true≢false n)
child-digest d s (node c e l r) m p n = ap (digest_of s) p ∙ ap (λ (z : Mark). z.digest) m.0

child-count : (d : ℕ) (s : List ℕ) (t : Tree) → Marks d s t → {x : ℕ} → x ≡ root t → is_nil t ≡ false → count_of s x ≡ count_in d (size t)
child-count d s nil m p n = absurd (true≢false n)
child-count d s (node c e l r) m p n = ap (count_of s) p ∙ ap (λ (z : Mark). z.count) m.0

-- ---- one node of a tree, as its slot tells

module _ (s : List ℕ) (cap : ℕ) (c : Bool) (e : Entry) (l r : Tree) (g : Good s cap (node c e l r)) where
  there : slot s e.slot ≡ node_slot c e.key e.value (root l) (root r)
  there = g.nodes.0

  left_is : (slot s e.slot).left ≡ root l
  left_is = ap (λ (z : Slot). z.left) there

  right_is : (slot s e.slot).right ≡ root r
  right_is = ap (λ (z : Slot). z.right) there

  red-is : (slot s e.slot).red ≡ c
  red-is = ap (λ (z : Slot). z.red) there

  key-is : key_of (slot s e.slot) ≡ e.key
  key-is = ap (λ (z : Slot). key_of z) there ∙ node-key c e.key e.value (root l) (root r)

  value-is : value_of (slot s e.slot) ≡ e.value
  value-is = ap (λ (z : Slot). value_of z) there ∙ node-value c e.key e.value (root l) (root r)

  left-good : Good s cap l
  left-good = record { within = g.within.1; nodes = g.nodes.1; marks = g.marks.1; reds_apart = g.reds_apart.1; leans_left = g.leans_left.1 }

  right-good : Good s cap r
  right-good = record { within = g.within.2; nodes = g.nodes.2; marks = g.marks.2; reds_apart = g.reds_apart.2; leans_left = g.leans_left.2 }

  is-entry : IsEntry s e.slot
  is-entry =
      let ec = red-is in
      let ek = key-is in
      let ev = value-is in
      let el = left_is in
      let er = right_is in
      there ∙ sym (λ i. node_slot (ec i) (ek i) (ev i) (el i) (er i))

  digest-is : compute_subtree_hash s e.slot ≡ subtree_digest (node c e l r)
  digest-is =
      subtree-right s e.slot c e l r key-is value-is (link-nil cap l g.within.1 left_is) (link-nil cap r g.within.2 right_is)
      (child-digest (header s).edition s l g.marks.1 left_is) (child-digest (header s).edition s r g.marks.2 right_is)

  count-is : count_in (header s).edition (linked_count s e.slot) ≡ count_in (header s).edition (size (node c e l r))
  count-is =
      count-right (header s).edition s e.slot c e l r (link-nil cap l g.within.1 left_is) (link-nil cap r g.within.2 right_is)
      (child-count (header s).edition s l g.marks.1 left_is) (child-count (header s).edition s r g.marks.2 right_is)

  pub node_of : (k : Bool) → (k ≡ true → c ≡ false) → NodeOk s cap e.slot k
  node_of k b =
      record {
        entry = is-entry;
        colour = λ h. red-is ∙ b h;
        left = omega (arith, left_is, root-within cap l g.within.1);
        right = omega (arith, right_is, root-within cap r g.within.2);
        count = ap (λ (z : Mark). z.count) g.marks.0 ∙ sym count-is;
        digest = ap (λ (z : Mark). z.digest) g.marks.0 ∙ sym digest-is;
      }

-- the entry that slot h holds
abbrev pub entry_at : List ℕ → ℕ → Entry
entry_at s h = record { slot = h; key = key_of (slot s h); value = value_of (slot s h) }

module _ (s : List ℕ) (cap h : ℕ) (k : Bool) (low : 1 ≤ h) (high : h ≤ cap) (ok : NodeOk s cap h k) (l r : Tree) (gl : Good s cap l) (gr : Good s cap r) (tl : root l ≡ (slot s h).left) (tr : root r ≡ (slot s h).right)
    (bl : (slot s h).red ≡ true → is_red l ≡ false) (br : is_red r ≡ false) where
  here : slot s h ≡ node_slot (slot s h).red (key_of (slot s h)) (value_of (slot s h)) (root l) (root r)
  here = ok.entry ∙ (λ i. node_slot (slot s h).red (key_of (slot s h)) (value_of (slot s h)) (sym tl i) (sym tr i))

  digest-here : digest_of s h ≡ subtree_digest (node (slot s h).red (entry_at s h) l r)
  digest-here =
      ok.digest
      ∙ subtree-right s h (slot s h).red (entry_at s h) l r refl refl (link-nil cap l gl.within (sym tl)) (link-nil cap r gr.within (sym tr))
      (child-digest (header s).edition s l gl.marks (sym tl)) (child-digest (header s).edition s r gr.marks (sym tr))

  count-here : count_of s h ≡ count_in (header s).edition (size (node (slot s h).red (entry_at s h) l r))
  count-here =
      ok.count
      ∙ count-right (header s).edition s h (slot s h).red (entry_at s h) l r (link-nil cap l gl.within (sym tl)) (link-nil cap r gr.within (sym tr))
      (child-count (header s).edition s l gl.marks (sym tl)) (child-count (header s).edition s r gr.marks (sym tr))

  pub node-good : Good s cap (node (slot s h).red (entry_at s h) l r)
  node-good =
      record {
        within = ((low, high), gl.within, gr.within);
        nodes = (here, gl.nodes, gr.nodes);
        marks = (λ i. record { count = count-here i; digest = digest-here i }, gl.marks, gr.marks);
        reds_apart = ((λ x. (bl x, br)), gl.reds_apart, gr.reds_apart);
        leans_left = (br, gl.leans_left, gr.leans_left);
      }

-- ---- black nodes and height

pub blacks-same : (n m : ℕ) (t : Tree) → Blacks n t → Blacks m t → n ≡ m
blacks-same n m nil a b = a ∙ sym b
blacks-same n m (node true e l r) a b = blacks-same n m l a.0 b.0
blacks-same n m (node false e l r) a b = omega (arith, a.1, b.1, blacks-same a.0 b.0 l a.2 b.2)

-- the same number on both sides
record Level (l r : Tree) : Type 0 where
  count : ℕ
  left : Blacks count l
  right : Blacks count r

level : (c : Bool) (e : Entry) (l r : Tree) → SameBlacks (node c e l r) → Level l r
level true e l r h = record { count = h.0; left = h.1.0; right = h.1.1 }
level false e l r h = record { count = h.1.0; left = h.1.2; right = h.1.3 }

blacks-node : (c : Bool) (e : Entry) (l r : Tree) (n : ℕ) → Blacks n l → Blacks n r → Blacks (blacks_from c n) (node c e l r)
blacks-node true e l r n a b = (a, b)
blacks-node false e l r n a b = (n, omega arith, a, b)

height-node : (c : Bool) (e : Entry) (l r : Tree) (d : ℕ) → height (node c e l r) ≤ d → (1 ≤ d) × (height l ≤ d - 1) × (height r ≤ d - 1)
unfolding height
height-node c e l r d p = (omega arith, omega arith, omega arith)

-- ---- the walk

pub seen-nil : {s : List ℕ} {cap d h p n : ℕ} {k : Bool} → h ≡ 0 → Met s cap p → (t : Tree) × Seen s cap d h p n k t p n 0
unfolding size
seen-nil e w = (
  nil,
  record {
    top = sym e;
    good = record { within = tt; nodes = tt; marks = tt; reds_apart = tt; leans_left = tt };
    colour = λ x. refl;
    rising = tt;
    last = refl;
    met = w;
    sum = omega arith;
    blacks = refl;
    low = omega arith;
  },
)

module _ {s : List ℕ} {cap d h p n : ℕ} {k : Bool} (ne : h ≡ 0 → ⊥) where
  pub deep_none : d ≡ 0 → (t : Tree) → Fits s cap d h p n k t → ⊥
  deep_none e nil f = ne (sym f.top)
  deep_none e (node c x l r) f = omega (arith, (height-node c x l r d f.deep).0)

  pub few-none : n ≡ 0 → (t : Tree) → Fits s cap d h p n k t → ⊥
  few-none e nil f = ne (sym f.top)
  few-none e (node c x l r) f = omega (arith, f.few, size-node c x l r)

  pub high-none : cap < h → (t : Tree) → Fits s cap d h p n k t → ⊥
  high-none q t f = omega (arith, root-within cap t f.good.within, f.top)

  pub node-none : (NodeOk s cap h k → ⊥) → (t : Tree) → Fits s cap d h p n k t → ⊥
  node-none q nil f = ne (sym f.top)
  node-none q (node c e l r) f = q (subst (λ (z : ℕ). NodeOk s cap z k) f.top (node_of s cap c e l r f.good k f.colour))

-- at a node whose own slot is as it should be
pub record Here (s : List ℕ) (cap d h p n : ℕ) (k : Bool) : Type 0 where
  pub some : h ≡ 0 → ⊥
  pub high : h ≤ cap
  pub depth : d ≡ 0 → ⊥
  pub more : n ≡ 0 → ⊥
  pub ok : NodeOk s cap h k

module _ {s : List ℕ} {cap d h p n : ℕ} {k : Bool} (z : Here s cap d h p n k) {l : ℕ} (el : l ≡ (slot s h).left) {c : Bool} (ec : c ≡ (slot s h).red) where
  fits-left : (b : Bool) (e : Entry) (u v : Tree) → Fits s cap d h p n k (node b e u v) → Fits s cap (d - 1) l p (n - 1) c u
  fits-left b e u v f =
      record {
        top = sym (el ∙ ap (λ (i : ℕ). (slot s i).left) (sym f.top) ∙ left_is s cap b e u v f.good);
        good = left-good s cap b e u v f.good;
        colour = λ x. (f.good.reds_apart.0 (sym (ec ∙ ap (λ (i : ℕ). (slot s i).red) (sym f.top) ∙ red-is s cap b e u v f.good) ∙ x)).0;
        rising = (rising-split (bound_of s p) (entries u) e (entries v) f.rising).0;
        few = omega (arith, f.few, size-node b e u v);
        deep = (height-node b e u v d f.deep).1;
        same_blacks = let w = level b e u v f.same_blacks in (w.count, w.left);
      }

  pub left-none : ((t : Tree) → Fits s cap (d - 1) l p (n - 1) c t → ⊥) → (t : Tree) → Fits s cap d h p n k t → ⊥
  left-none q nil f = z.some (sym f.top)
  left-none q (node b e u v) f = q u (fits-left b e u v f)

  -- the left side was seen
  module _ {q m b : ℕ} (x : (t : Tree) × Seen s cap (d - 1) l p (n - 1) c t q m b) where
    same : (o : Bool) (e : Entry) (u v : Tree) → Fits s cap d h p n k (node o e u v) → u ≡ x.0
    same o e u v f = tree-same s cap u x.0 f.good.within.1 x.1.good.within f.good.nodes.1 x.1.good.nodes ((fits-left o e u v f).top ∙ sym x.1.top)

    key-at : (o : Bool) (e : Entry) (u v : Tree) → Fits s cap d h p n k (node o e u v) → e.key ≡ key_of (slot s h)
    key-at o e u v f = sym (key-is s cap o e u v f.good) ∙ ap (λ (i : ℕ). key_of (slot s i)) f.top

    pub rise-none : (Past (bound_of s q) (key_of (slot s h)) → ⊥) → (t : Tree) → Fits s cap d h p n k t → ⊥
    rise-none w nil f = z.some (sym f.top)
    rise-none w (node o e u v) f =
        let a : Past (last_of (bound_of s p) (entries u)) e.key = (rising-split (bound_of s p) (entries u) e (entries v) f.rising).1 in
        let eq : last_of (bound_of s p) (entries u) ≡ bound_of s q = ap (λ (t : Tree). last_of (bound_of s p) (entries t)) (same o e u v f) ∙ sym x.1.last in
        let ek = key-at o e u v f in
        w (subst (λ (y : List ℕ). Past (bound_of s q) y) ek (subst (λ (y : Bound). Past y e.key) eq a))

    module _ {r : ℕ} (er : r ≡ (slot s h).right) where
      right-top : (o : Bool) (e : Entry) (u v : Tree) → Fits s cap d h p n k (node o e u v) → root v ≡ r
      right-top o e u v f = sym (er ∙ ap (λ (i : ℕ). (slot s i).right) (sym f.top) ∙ right_is s cap o e u v f.good)

      pub right-none : ((t : Tree) → Fits s cap (d - 1) r h m true t → ⊥) → (t : Tree) → Fits s cap d h p n k t → ⊥
      right-none w nil f = z.some (sym f.top)
      right-none w (node o e u v) f =
          let ek = key-at o e u v f in
          w v
          record {
            top = right-top o e u v f;
            good = right-good s cap o e u v f.good;
            colour = λ y. f.good.leans_left.0;
            rising = subst (λ (y : Bound). Rising y (entries v)) (ap over ek ∙ sym (bound-pos s h z.some)) (rising-split (bound_of s p) (entries u) e (entries v) f.rising).2;
            few = omega (arith, f.few, size-node o e u v, x.1.sum, ap size (same o e u v f));
            deep = (height-node o e u v d f.deep).2;
            same_blacks = let y = level o e u v f.same_blacks in (y.count, y.right);
          }

      -- so was the right side
      module _ {q' m' b' : ℕ} (y : (t : Tree) × Seen s cap (d - 1) r h m true t q' m' b') where
        pub blacks-none : (b' ≡ b → ⊥) → (t : Tree) → Fits s cap d h p n k t → ⊥
        blacks-none w nil f = z.some (sym f.top)
        blacks-none w (node o e u v) f =
            let ev : v ≡ y.0 = tree-same s cap v y.0 f.good.within.2 y.1.good.within f.good.nodes.2 y.1.good.nodes (right-top o e u v f ∙ sym y.1.top) in
            let g = level o e u v f.same_blacks in
            w (blacks-same b' g.count y.0 y.1.blacks (subst (Blacks g.count) ev g.right)
            ∙ blacks-same g.count b x.0 (subst (Blacks g.count) (same o e u v f) g.left) x.1.blacks)

        pub seen-node : Past (bound_of s q) (key_of (slot s h)) → b' ≡ b → (t : Tree) × Seen s cap d h p n k t q' m' (blacks_from c b)
        seen-node a e =
            let u = x.0 in
            let v = y.0 in
            let o : Bool = (slot s h).red in
            let t : Tree = node o (entry_at s h) u v in
            let hi = bound-pos s h z.some in (
              t,
              record {
                top = refl;
                good = node-good s cap h k (omega (arith, z.some)) z.high z.ok u v x.1.good y.1.good (x.1.top ∙ el) (y.1.top ∙ er) (λ w. x.1.colour (ec ∙ w)) (y.1.colour refl);
                colour = z.ok.colour;
                rising = rising-join (bound_of s p) (entries u) (entry_at s h) (entries v) x.1.rising (subst (λ (w : Bound). Past w (key_of (slot s h))) x.1.last a) (subst (λ (w : Bound). Rising w (entries v)) hi y.1.rising);
                last = y.1.last ∙ ap (λ (w : Bound). last_of w (entries v)) hi ∙ sym (last-join (bound_of s p) (entries u) (entry_at s h) (entries v));
                met = y.1.met;
                sum = omega (arith, x.1.sum, y.1.sum, z.more, size-node o (entry_at s h) u v);
                blacks = subst (λ (w : Bool). Blacks (blacks_from w b) t) (sym ec) (blacks-node o (entry_at s h) u v b x.1.blacks (subst (λ (w : ℕ). Blacks w v) e y.1.blacks));
                low = lower c x.1.low;
              },
            )
          where
            lower : (w : Bool) → b ≤ d - 1 → blacks_from w b ≤ d
            lower true i = omega arith
            lower false i = omega (arith, z.depth)

      pub join-says : Past (bound_of s q) (key_of (slot s h)) → (w : Trail) → WalkSays s cap (d - 1) r h m true (Some w) → WalkSays s cap d h p n k (joined c b w)
      join-says a w y = go (eqb w.blacks b) refl
        where
          go : (o : Bool) → eqb w.blacks b ≡ o → WalkSays s cap d h p n k (cond o (Some (record w { blacks = blacks_from c b })) None)
          go true g = seen-node y a (eqb-true w.blacks b g)
          go false g = blacks-none y (eqb-false w.blacks b g)
