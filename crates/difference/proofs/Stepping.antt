-- The steps of the walk through two stores, in the order of the code.
use mathlib.Core.Path.{◌≡◌, sym, ap, subst, ◌∙◌}
use mathlib.Core.Bool.{Bool, true, false}
use mathlib.Core.List.{List, [], ◌∷◌}
use Prim.Native.Nat.{ℕ, ◌≤◌}
use native.Mathlib.Omega.{arith}
use lib.ListN.{length}
use Rattle.std.specs.declared.cmp.Ordering.{Ordering}
use Rattle.std.specs.declared.cmp.Ordering.TheVariants.{Less, Equal, Greater}
use Rattle.key_order.specs.Order.{Key, cmp, is_same}
use Rattle.slots.specs.Layout.{slot, key_of, value_of}
use Rattle.llrb.specs.Tree.{Value, Entry}
use Rattle.llrb.specs.Map.{Pair, pair, pairs}
use Rattle.llrb.specs.Difference as paper
use Rattle.llrb.specs.Difference.{Line, line, with_both, difference}
use Rattle.llrb.proofs.Difference.{gone-last, gone-first, both_first, new-first, new-last, none_last}
use Rattle.std.specs.Prelude.{Option, Some, None}
use Rattle.search.specs.Search.{EntryAt}
use Rattle.difference.specs.declared.Change.TheVariants.{Gone, New, Other}
use Rattle.difference.specs.Walking.{entry_in, rest_of, Cursor, After, Ready, left_of, lines_of, Further, Says, Passes}
use Rattle.difference.proofs.Standing.{here}

known : {a f : Option ℕ} (P : Option ℕ → Type 0) → a ≡ f → P f → P a
known P e x = subst P (sym e) x

-- an answer about two strings that were read
carried : {R : Type 0} (f : List ℕ → List ℕ → R) {k l x y : List ℕ} → k ≡ x → l ≡ y → {c d : R} → c ≡ f k l → c ≡ d → f x y ≡ d
carried f {k} {l} {x} {y} ek el ec e = ap (λ (z : List ℕ). f z y) (sym ek) ∙ (ap (f k) (sym el) ∙ (sym ec ∙ e))

module _ {old new : List ℕ} where
  -- ---- where the two cursors are known

  module _ {i : ℕ} {b x : Option ℕ} (p : Ready old new (Some i) b) (q : After old i x) where
    gone-says : difference (pair (entry_in old i) ∷ pairs (rest_of old x)) (pairs (rest_of new b)) ≡ line paper.Gone (key_of (slot old i)) ∷ difference (pairs (rest_of old x)) (pairs (rest_of new b))
        → Says old new (Some i) b Gone i x b
    gone-says h =
        record {
          further = record {
            ready = record { old_sound = p.old_sound; new_sound = p.new_sound; old_at = q.cursor; new_at = p.new_at };
            fewer = omega (arith, ap length q.passed);
          };
          there = (here p.old_sound p.old_at).there;
          lines = ap (λ (M : List Entry). difference (pairs M) (pairs (rest_of new b))) q.passed ∙ h;
        }

  module _ {j : ℕ} {a y : Option ℕ} (p : Ready old new a (Some j)) (q : After new j y) where
    new-says : difference (pairs (rest_of old a)) (pair (entry_in new j) ∷ pairs (rest_of new y)) ≡ line paper.New (key_of (slot new j)) ∷ difference (pairs (rest_of old a)) (pairs (rest_of new y))
        → Says old new a (Some j) New j a y
    new-says h =
        record {
          further = record {
            ready = record { old_sound = p.old_sound; new_sound = p.new_sound; old_at = p.old_at; new_at = q.cursor };
            fewer = omega (arith, ap length q.passed);
          };
          there = (here p.new_sound p.new_at).there;
          lines = ap (λ (M : List Entry). difference (pairs (rest_of old a)) (pairs M)) q.passed ∙ h;
        }

  module _ {i j : ℕ} (p : Ready old new (Some i) (Some j)) where
    abbrev o : Pair
    o = pair (entry_in old i)

    abbrev n : Pair
    n = pair (entry_in new j)

    less-says : {x : Option ℕ} → cmp (key_of (slot old i)) (key_of (slot new j)) ≡ Less → After old i x → Says old new (Some i) (Some j) Gone i x (Some j)
    less-says {x} h q =
        let g = here p.new_sound p.new_at in
        gone-says p q
        (subst (λ (M : List Entry). difference (o ∷ pairs (rest_of old x)) (pairs M) ≡ line paper.Gone (key_of (slot old i)) ∷ difference (pairs (rest_of old x)) (pairs M)) (sym g.stands)
        (gone-first o (pairs (rest_of old x)) n (pairs g.rest) h))

    greater-says : {y : Option ℕ} → cmp (key_of (slot old i)) (key_of (slot new j)) ≡ Greater → After new j y → Says old new (Some i) (Some j) New j (Some i) y
    greater-says {y} h q =
        let g = here p.old_sound p.old_at in
        new-says p q
        (subst (λ (M : List Entry). difference (pairs M) (n ∷ pairs (rest_of new y)) ≡ line paper.New (key_of (slot new j)) ∷ difference (pairs M) (pairs (rest_of new y))) (sym g.stands)
        (new-first o (pairs g.rest) n (pairs (rest_of new y)) h))

    module _ {x y : Option ℕ} (h : cmp (key_of (slot old i)) (key_of (slot new j)) ≡ Equal) (q : After old i x) (r : After new j y) where
      on : Further old new (Some i) (Some j) x y
      on =
          record {
            ready = record { old_sound = p.old_sound; new_sound = p.new_sound; old_at = q.cursor; new_at = r.cursor };
            fewer = omega (arith, ap length q.passed, ap length r.passed);
          }

      together : lines_of old new (Some i) (Some j) ≡ with_both o n (lines_of old new x y)
      together =
          ap (λ (M : List Entry). difference (pairs M) (pairs (rest_of new (Some j)))) q.passed
          ∙ (ap (λ (M : List Entry). difference (o ∷ pairs (rest_of old x)) (pairs M)) r.passed
          ∙ both_first o (pairs (rest_of old x)) n (pairs (rest_of new y)) h)

      other-says : is_same (value_of (slot old i)) (value_of (slot new j)) ≡ false → Says old new (Some i) (Some j) Other i x y
      other-says e = record { further = on; there = (here p.old_sound p.old_at).there; lines = together ∙ rw e }

      same-passes : is_same (value_of (slot old i)) (value_of (slot new j)) ≡ true → Passes old new (Some i) (Some j) x y
      same-passes e = record { further = on; lines = together ∙ rw e }

  -- ---- in the order of the code

  module _ {a b : Option ℕ} (p : Ready old new a b) where
    pub at_old : {i : ℕ} → a ≡ Some i → Cursor old (Some i)
    at_old e = subst (Cursor old) e p.old_at

    pub at_new : {j : ℕ} → b ≡ Some j → Cursor new (Some j)
    at_new e = subst (Cursor new) e p.new_at

    pub there-old : {i : ℕ} → a ≡ Some i → EntryAt old i
    there-old e = (here p.old_sound (at_old e)).there

    pub there-new : {j : ℕ} → b ≡ Some j → EntryAt new j
    there-new e = (here p.new_sound (at_new e)).there

    pub meets-end : a ≡ None → b ≡ None → lines_of old new a b ≡ []
    meets-end u v = rw (u, v) none_last

  pub meets-new : {a b y : Option ℕ} {j : ℕ} → a ≡ None → b ≡ Some j → Ready old new a b → After new j y → Says old new a b New j None y
  meets-new {a} {b} {y} {j} u v =
      known (λ (f : Option ℕ). Ready old new f b → After new j y → Says old new f b New j None y) u
      (known (λ (g : Option ℕ). Ready old new None g → After new j y → Says old new None g New j None y) v
      (λ p q. new-says p q (new-last (pair (entry_in new j)) (pairs (rest_of new y)))))

  pub meets-gone : {a b x : Option ℕ} {i : ℕ} → a ≡ Some i → b ≡ None → Ready old new a b → After old i x → Says old new a b Gone i x None
  meets-gone {a} {b} {x} {i} u v =
      known (λ (f : Option ℕ). Ready old new f b → After old i x → Says old new f b Gone i x None) u
      (known (λ (g : Option ℕ). Ready old new (Some i) g → After old i x → Says old new (Some i) g Gone i x None) v
      (λ p q. gone-says p q (gone-last (pair (entry_in old i)) (pairs (rest_of old x)))))

  module _ {a b : Option ℕ} {i j : ℕ} (u : a ≡ Some i) (v : b ≡ Some j) {k l : Key} (ek : k ≡ key_of (slot old i)) (el : l ≡ key_of (slot new j)) {c : Ordering} (ec : c ≡ cmp k l) where
    pub meets-less : {x : Option ℕ} → c ≡ Less → Ready old new a b → After old i x → Says old new a b Gone i x (Some j)
    meets-less {x} e =
        known (λ (f : Option ℕ). Ready old new f b → After old i x → Says old new f b Gone i x (Some j)) u
        (known (λ (g : Option ℕ). Ready old new (Some i) g → After old i x → Says old new (Some i) g Gone i x (Some j)) v (λ p q. less-says p (carried cmp ek el ec e) q))

    pub meets-greater : {y : Option ℕ} → c ≡ Greater → Ready old new a b → After new j y → Says old new a b New j (Some i) y
    meets-greater {y} e =
        known (λ (f : Option ℕ). Ready old new f b → After new j y → Says old new f b New j (Some i) y) u
        (known (λ (g : Option ℕ). Ready old new (Some i) g → After new j y → Says old new (Some i) g New j (Some i) y) v (λ p q. greater-says p (carried cmp ek el ec e) q))

    module _ {s t : Value} (es : s ≡ value_of (slot old i)) (et : t ≡ value_of (slot new j)) {m : Bool} (em : m ≡ is_same s t) (e : c ≡ Equal) {x y : Option ℕ} where
      pub meets-other : m ≡ false → Ready old new a b → After old i x → After new j y → Says old new a b Other i x y
      meets-other w =
          known (λ (f : Option ℕ). Ready old new f b → After old i x → After new j y → Says old new f b Other i x y) u
          (known (λ (g : Option ℕ). Ready old new (Some i) g → After old i x → After new j y → Says old new (Some i) g Other i x y) v (λ p q r. other-says p (carried cmp ek el ec e) q r (carried is_same es et em w)))

      pub meets-same : m ≡ true → Ready old new a b → After old i x → After new j y → Passes old new a b x y
      meets-same w =
          known (λ (f : Option ℕ). Ready old new f b → After old i x → After new j y → Passes old new f b x y) u
          (known (λ (g : Option ℕ). Ready old new (Some i) g → After old i x → After new j y → Passes old new (Some i) g x y) v (λ p q r. same-passes p (carried cmp ek el ec e) q r (carried is_same es et em w)))

-- ---- equal entries passed over: from a and b to o and n

pub record Along (old new : List ℕ) (a b o n : Option ℕ) : Type 0 where
  pub ready : Ready old new o n
  pub lines : lines_of old new a b ≡ lines_of old new o n
  pub fewer : left_of old new o n ≤ left_of old new a b
