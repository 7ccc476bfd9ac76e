-- After a call on a child: the link set, the digest made anew, the repair. Shared by insert and delete.
use mathlib.Core.Path.{◌≡◌}
use mathlib.Core.List.{List}
use mathlib.Core.Option.{some}
use Prim.Native.Nat.{ℕ, ◌+◌, ◌≤◌, ◌<◌}
use lib.ListN.{length}
use Rattle.slots.specs.Layout.{HasSlot}
use Rattle.slots.specs.Setters.{set_left, set_right}
use Rattle.llrb.specs.Tree.{Tree, nil, node, left, right}
use Rattle.llrb.specs.Panic.{balance_p}
use Rattle.rb_nodes.specs.Heap.{count, Full, Marked, Under, Step, Turn, CanAt, DoesAt, hang_left, hang_right}
use Rattle.rb_nodes.proofs.Steps.{after, before, link_left, link-right, link-ok}

pub full-left : (u t : Tree) → Full t → Full (hang_left u t)
full-left u nil f = absurd f
full-left u (node c x l r) f = tt

pub full-right : (u t : Tree) → Full t → Full (hang_right u t)
full-right u nil f = absurd f
full-right u (node c x l r) f = tt

-- `b`: the top is turned first; `d`: the call on its child; `o`: a slot that comes in is none of the tree's
module _ {D : List ℕ → Tree → Type 0} {new old : ℕ → ℕ} {s s1 s2 : List ℕ} {g p : ℕ} {t v y : Tree} (b : Turn D Under s s1 g t v) (f : Full v)
    (o : (x : ℕ) → count x v + new x ≤ 1) where
  module _ (d : Step Marked Marked new old s1 s2 p (left v) y) where
    pub ok-left : HasSlot (length s2) g × (p < 2048)
    ok-left = link-ok v b.held f d

    module _ {s3 : List ℕ} (e : s3 ≡ set_left s2 g p) {u : Tree} (w : balance_p (hang_left y v) ≡ some u) where
      pub can-left : CanAt balance_p s3 g
      can-left = (hang_left y v, (link_left v b.held f o d e).held, full-left y v f, u, w)

      pub finish-left : {s4 : List ℕ} {r : ℕ} → DoesAt Under balance_p s3 s4 g r → Step D Marked new old s s4 r t u
      finish-left B = let x = link_left v b.held f o d e in after b (before x (B (hang_left y v) u x.held (full-left y v f) w))

  module _ (d : Step Marked Marked new old s1 s2 p (right v) y) where
    pub ok-right : HasSlot (length s2) g × (p < 2048)
    ok-right = link-ok v b.held f d

    module _ {s3 : List ℕ} (e : s3 ≡ set_right s2 g p) {u : Tree} (w : balance_p (hang_right y v) ≡ some u) where
      pub can-right : CanAt balance_p s3 g
      can-right = (hang_right y v, (link-right v b.held f o d e).held, full-right y v f, u, w)

      pub finish-right : {s4 : List ℕ} {r : ℕ} → DoesAt Under balance_p s3 s4 g r → Step D Marked new old s s4 r t u
      finish-right B = let x = link-right v b.held f o d e in after b (before x (B (hang_right y v) u x.held (full-right y v f) w))
