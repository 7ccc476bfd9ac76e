-- delete's way down to a key, and back.
use mathlib.Core.Path.{◌≡◌, sym, ap, subst, ◌∙◌}
use mathlib.Core.List.{List}
use mathlib.Core.Option.{some}
use Prim.Native.Nat.{ℕ, ◌<◌}
use lib.ListN.{length}
use Rattle.std.specs.declared.cmp.Ordering.{Ordering}
use Rattle.std.specs.declared.cmp.Ordering.TheVariants.{Less, Equal}
use Rattle.key_order.specs.Order.{Key, cmp}
use Rattle.slots.specs.Layout.{HasSlot, slot, key_of}
use Rattle.slots.specs.Setters.{set_left, set_right}
use Rattle.llrb.specs.Tree.{Tree, left, right, balance}
use Rattle.llrb.specs.Panic.{ready_left_p, ready_right_p, lean_right_p, balance_p, delete_min_p, delete_go_p}
use Rattle.llrb.proofs.Safe.{safe-balance}
use Rattle.store.specs.Decode.{entries_below}
use Rattle.rb_nodes.specs.Heap.{Held, Full, Marked, HasFull, Under, nothing, only, Step, Turn, Does, CanAt, DoesAt, hang_right}
use Rattle.rb_nodes.proofs.Heap.{full-in, sub-left, sub-right, full-some, empty}
use Rattle.rb_nodes.proofs.Steps.{after, lower, falls-left, falls-right, none_in}
use Rattle.rb_nodes.proofs.Option.{same}
use Rattle.rb_delete.specs.Deletes.{renew, CanNext, DoesNext, CanDelete, DoesDelete}
use Rattle.rb_nodes.proofs.Comparing.{answer}
use Rattle.rb_delete.proofs.Inverse.{Lefts, go-full, go-lefts, go-leans, Leans, right-full, right-leaf, rights, Rights, take-full, take_next, take_on}
use Rattle.rb_balance.proofs.Finishing.{ok-left, can-left, finish-left, ok-right, can-right, finish-right}
use Rattle.rb_delete.proofs.Cutting.{gone}

-- ---- which way

module _ (k : Key) {s : List ℕ} {h : ℕ} {o : Ordering} (w : o ≡ cmp k (key_of (slot s h))) where
  pub go-left-way : o ≡ Less → (t u : Tree) (n : ℕ) → Held s h t → delete_go_p n k t ≡ some u → (f : ℕ) × Lefts (λ z. delete_go_p f k z) t u
  go-left-way q t u n a e = go-lefts n k t u (answer k t a (go-full n k t u e) w ∙ q) e

  pub go-right-way : (o ≡ Less → ⊥) → (t u : Tree) (n : ℕ) → Held s h t → delete_go_p n k t ≡ some u → Leans k t u
  go-right-way q t u n a e = go-leans n k t u (λ z. q (sym (answer k t a (go-full n k t u e) w) ∙ z)) e

-- ---- to the left

pub l-in : (k : Key) {s s1 : List ℕ} {h g : ℕ} {t u : Tree} → Held s h t → (i : (f : ℕ) × Lefts (λ z. delete_go_p f k z) t u) → Does Marked ready_left_p s s1 h g → HasSlot (length s1) g
l-in k {t = t} a i R = full-in i.1.v (R t i.1.v a i.1.ready).held i.1.full

module _ (k : Key) {s s1 : List ℕ} {h g m : ℕ} {t u : Tree} (a : Held s h t) (i : (f : ℕ) × Lefts (λ z. delete_go_p f k z) t u) (R : Does Marked ready_left_p s s1 h g) (em : m ≡ (slot s1 g).left) where
  l-down : Turn Marked Marked s s1 g t i.1.v
  l-down = R t i.1.v a i.1.ready

  l-below : Held s1 m (left i.1.v)
  l-below = sub-left i.1.v l-down.held i.1.full em

  pub l-call : {b : ℕ} → entries_below s h ≡ b → (entries_below s1 m < b) × CanDelete k s1 m
  l-call q = (falls-left a l-down i.1.full q em, (left i.1.v, l-below, i.0, i.1.y, i.1.below))

  module _ (fr : ℕ) {s2 : List ℕ} {p : ℕ} (E : DoesDelete k s1 s2 m p fr) where
    l-back : Step Marked Marked nothing (only fr) s1 s2 p (left i.1.v) i.1.y
    l-back = E (left i.1.v) i.1.y i.0 l-below i.1.below

    pub l-link : HasSlot (length s2) g × (p < 2048)
    l-link = ok-left (lower l-down) i.1.full (none_in l-down.held) l-back

    module _ {s3 : List ℕ} (e3 : s3 ≡ set_left s2 g p) where
      pub l-can : CanAt balance_p s3 g
      l-can = can-left (lower l-down) i.1.full (none_in l-down.held) l-back e3 i.1.up

      pub l-done : {s4 : List ℕ} {r : ℕ} → DoesAt Under balance_p s3 s4 g r → Step Marked Marked nothing (only fr) s s4 r t u
      l-done B = finish-left (lower l-down) i.1.full (none_in l-down.held) l-back e3 i.1.up B

-- ---- to the right

module _ (k : Key) {s s1 : List ℕ} {h c : ℕ} {t u : Tree} (a : Held s h t) (ft : Full t) (i : Leans k t u) (R : DoesAt Marked lean_right_p s s1 h c) where
  r-lean : Turn Marked Marked s s1 c t i.v
  r-lean = R t i.v a ft i.lean

  r-full : Full i.v
  r-full = right-full k (λ z. delete_go_p i.f k z) (λ z. delete_min_p i.f z) i.v u i.rest

  pub r-in : HasSlot (length s1) c
  r-in = full-in i.v r-lean.held r-full

  module _ {r : ℕ} (er : r ≡ (slot s1 c).right) where
    -- the key is at a leaf
    pub r-gone : r ≡ 0 → Step Marked Marked nothing (only c) s s1 0 t u
    r-gone z =
        after r-lean
        (gone r-lean.held
        (right-leaf k (λ z. delete_go_p i.f k z) (λ z. delete_min_p i.f z) i.v u (empty z (right i.v) (sub-right i.v r-lean.held r-full er)) i.rest))

    module _ (ne : r ≡ 0 → ⊥) where
      way : Rights k (λ z. delete_go_p i.f k z) (λ z. delete_min_p i.f z) i.v u
      way =
          rights k (λ z. delete_go_p i.f k z) (λ z. delete_min_p i.f z) i.v u
          (full-some ne (right i.v) (sub-right i.v r-lean.held r-full er)) i.rest

      pub r-can-ready : (v : Tree) × Held s1 c v × (x : Tree) × (ready_right_p v ≡ some x)
      r-can-ready = (i.v, r-lean.held, way.x, way.ready)

      module _ {s2 : List ℕ} {g : ℕ} (Q : Does Marked ready_right_p s1 s2 c g) where
        r-down : Turn Marked Marked s s2 g t way.x
        r-down = after r-lean (Q i.v way.x r-lean.held way.ready)

        fulls : Full way.x × Full (right way.x)
        fulls = take-full k (λ z. delete_go_p i.f k z) (λ z. delete_min_p i.f z) way.x way.y way.take

        pub r-tree : HasFull s2 g
        r-tree = (way.x, r-down.held, fulls.0)

        pub r-here : HasSlot (length s2) g
        r-here = full-in way.x r-down.held fulls.0

        module _ {o : Ordering} (w : o ≡ cmp k (key_of (slot s2 g))) where
          -- the key is here
          module _ (e : o ≡ Equal) where
            next : (z : Tree) × (delete_min_p i.f (right way.x) ≡ some z) × (way.y ≡ hang_right z (renew way.x))
            next =
                take_next k (λ z. delete_go_p i.f k z) (λ z. delete_min_p i.f z) way.x way.y
                (answer k way.x r-down.held fulls.0 w ∙ e) way.take

            pub r-next : CanNext s2 g
            r-next = (way.x, r-down.held, fulls.0, i.f, next.0, next.1)

            pub r-pulled : (fr : ℕ) {s3 : List ℕ} {q : ℕ} → DoesNext s2 s3 g q fr → Step Marked Marked nothing (only fr) s s3 q t u
            r-pulled fr {s3} {q} N =
                let z : balance (hang_right next.0 (renew way.x)) ≡ u = same (sym (safe-balance (hang_right next.0 (renew way.x))) ∙ ap balance_p (sym next.2) ∙ way.up) in
                after r-down (subst (Step Marked Marked nothing (only fr) s2 s3 q way.x) z (N way.x next.0 i.f r-down.held fulls.0 next.1))

          -- the key is further on
          module _ (e : o ≡ Equal → ⊥) {m : ℕ} (em : m ≡ (slot s2 g).right) where
            on : (z : Tree) × (delete_go_p i.f k (right way.x) ≡ some z) × (way.y ≡ hang_right z way.x)
            on =
                take_on k (λ z. delete_go_p i.f k z) (λ z. delete_min_p i.f z) way.x way.y
                (λ z. e (sym (answer k way.x r-down.held fulls.0 w) ∙ z)) way.take

            r-below : Held s2 m (right way.x)
            r-below = sub-right way.x r-down.held fulls.0 em

            on-up : balance_p (hang_right on.0 way.x) ≡ some u
            on-up = ap balance_p (sym on.2) ∙ way.up

            pub r-call : {b : ℕ} → entries_below s h ≡ b → (entries_below s2 m < b) × CanDelete k s2 m
            r-call q = (falls-right a r-down fulls.0 q em, (right way.x, r-below, i.f, on.0, on.1))

            module _ (fr : ℕ) {s3 : List ℕ} {p : ℕ} (E : DoesDelete k s2 s3 m p fr) where
              r_back : Step Marked Marked nothing (only fr) s2 s3 p (right way.x) on.0
              r_back = E (right way.x) on.0 i.f r-below on.1

              pub r-link : HasSlot (length s3) g × (p < 2048)
              r-link = ok-right (lower r-down) fulls.0 (none_in r-down.held) r_back

              module _ {s4 : List ℕ} (e4 : s4 ≡ set_right s3 g p) where
                pub r-can : CanAt balance_p s4 g
                r-can = can-right (lower r-down) fulls.0 (none_in r-down.held) r_back e4 on-up

                pub r-done : {s5 : List ℕ} {q : ℕ} → DoesAt Under balance_p s4 s5 g q → Step Marked Marked nothing (only fr) s s5 q t u
                r-done B = finish-right (lower r-down) fulls.0 (none_in r-down.held) r_back e4 on-up B
