-- A node of the tree that is written: what is known at it, its five runs of bytes, and that the entries below it grow fewer.
use Rattle.std.specs.Prelude.{Option, Some, None, SomeIff, cond}
use Prim.Native.Nat.{ℕ, ◌+◌, ◌-◌, ◌≤◌, ◌<◌}
use mathlib.Core.Path.{◌≡◌, refl, sym, ap, ◌∙◌}
use mathlib.Core.Bool.{Bool, true, false}
use mathlib.Core.List.{List, [], ◌++◌}
use native.Mathlib.Omega.{arith}
use lib.Dec.{eqb, leb}
use lib.ListN.{length, length-append}
use borrow.Author.Tests.{leb-true, leb-false}
use Rattle.key_order.specs.Order.{Key, cmp}
use Rattle.hash_tree.specs.Written.{piece, write}
use Rattle.slots.specs.Layout.{slot}
use Rattle.llrb.specs.Tree.{Tree, nil, node, left, right}
use Rattle.store.specs.Decode.{entries_below}
use Rattle.search.specs.Search.{EntryAt}
use Rattle.search.proofs.Lying.{top-entry, top_in, lies-left, lies-right, below-lies}
use Rattle.llrb.proofs.Height.{size-node}
use Rattle.witness_walks.specs.declared.Walk.{Walk}
use Rattle.witness_walks.specs.declared.Walk.TheVariants as walk
use Rattle.witness_walks.specs.declared.What.{What}
use Rattle.witness_walks.specs.declared.Part.{Part}
use Rattle.witness_walks.specs.declared.Part.TheVariants.{Nothing, Hidden, Walked}
use Rattle.witness_walks.specs.declared.Arm.{Arm}
use Rattle.witness_walks.specs.declared.Shape.{Shape}
use Rattle.witness_walks.specs.declared.Shape.TheVariants.{M, ForkLM, ForkMR, ForkLPrunedMR, ForkLForkMR}
use Rattle.witness_walks.specs.declared.Records.{Records}
use Rattle.search.specs.Search.{slot_of}
use Rattle.witness_walks.specs.Arms.{arms_at}
use Rattle.witness_walks.specs.Records.{kind_of_part, kind_of_what, shape_of, records_of, records_at}
use Rattle.witness_walks.specs.Walked.{fork_bytes, part_bytes}
use Rattle.witness_walks.specs.InStore.{key_in, BoundsIn, PartIn, records_in, middle_in, MiddleAt, hidden_in, HiddenAt}
use Rattle.witness_walks.proofs.Laying.{records-held, middle-held, hidden_held}
use Rattle.witness_trees.proofs.Lists.{arms}
use Rattle.output.specs.Putting.{Puts, room_after}
use Rattle.witness.specs.Putting.{Laid, bytes_below}
use Rattle.output.proofs.Putting.{puts_then, puts-length}

-- ---- the bounds go down with the walk

abbrev ArmIn : List ℕ → Arm → Type 0
ArmIn s a = PartIn s a.left × PartIn s a.right

arm_in : (s : List ℕ) (w : Walk) (f : What) (k : Key) → BoundsIn s w → ArmIn s (arms_at (key_in s) w f k)
arm_in s walk.Full f k b = (tt, tt)
arm_in s (walk.Above lo) f k b = arms (ArmIn s) (cmp k (key_in s (slot_of lo))) (λ q. (tt, b)) (λ q. (tt, tt)) (λ q. (b, tt))
arm_in s (walk.Below hi) f k b = arms (ArmIn s) (cmp k (key_in s (slot_of hi))) (λ q. (tt, b)) (λ q. (tt, tt)) (λ q. (b, tt))
arm_in s (walk.Between lo hi) f k b =
    arms (ArmIn s) (cmp (key_in s (slot_of lo)) k)
    (λ p. arms (ArmIn s) (cmp k (key_in s (slot_of hi))) (λ q. (b, b)) (λ q. (b, tt)) (λ q. (b, tt)))
    (λ p. arms (ArmIn s) (cmp k (key_in s (slot_of hi))) (λ q. (tt, b)) (λ q. (tt, tt)) (λ q. (tt, b)))
    (λ p. (tt, b))
arm_in s (walk.Lookup i) f k b = arms (ArmIn s) (cmp (key_in s i) k) (λ q. (b, tt)) (λ q. (tt, tt)) (λ q. (tt, b))

shape-in : (s : List ℕ) (x : Shape) (l : Part) (m : What) (r : Part) → PartIn s l → PartIn s r → PartIn s (records_of x l m r).left × PartIn s (records_of x l m r).right
shape-in s M l m r a b = (tt, tt)
shape-in s ForkLM l m r a b = (a, tt)
shape-in s ForkMR l m r a b = (tt, b)
shape-in s ForkLPrunedMR l m r a b = (a, tt)
shape-in s ForkLForkMR l m r a b = (a, b)

records-in : (s : List ℕ) (a : Arm) (x y : Bool) → ArmIn s a → PartIn s (records_at a x y).left × PartIn s (records_at a x y).right
records-in s a x y h =
    shape-in s (shape_of (kind_of_part x a.left) (kind_of_what a.middle) (kind_of_part y a.right)) a.left a.middle a.right h.0 h.1

pub parts_in : (s : List ℕ) (n : ℕ) (w : Walk) (f : What) → BoundsIn s w → PartIn s (records_in s n w f).left × PartIn s (records_in s n w f).right
parts_in s n w f b = records-in s (arms_at (key_in s) w f (key_in s n)) (eqb (slot s n).left 0) (eqb (slot s n).right 0) (arm_in s w f (key_in s n) b)

-- ---- five runs of bytes

abbrev pub five : (a b c d e : List ℕ) → List ℕ
five a b c d e = a ++ (b ++ (c ++ (d ++ e)))

-- there is room for the front, and after it for the rest
pub front : (at n : ℕ) (u v : List ℕ) → at + length (u ++ v) ≤ n → at + length u ≤ n
front at n u v h = omega (arith, length-append u v)

pub rest : {o o' : List ℕ} {at x : ℕ} (u v : List ℕ) → Puts o o' at x u → at + length (u ++ v) ≤ length o → x + length v ≤ length o'
rest u v p h = omega (arith, length-append u v, puts-length u p, p.place)

-- ---- what is left of a room, if there is enough

pub room-iff : (n m : ℕ) {r : Option ℕ} → r ≡ room_after n (Some m) → SomeIff r (n ≤ m) (m - n)
room-iff n m e = rw e (go (leb n m) refl)
  where
    go : (t : Bool) → leb n m ≡ t → SomeIff (cond t (Some (m - n)) None) (n ≤ m) (m - n)
    go true f = (leb-true n m f, refl)
    go false f = λ h. omega (arith, leb-false n m f)

pub same-left : (r : Option ℕ) {P Q : Type 0} {v w : ℕ} → SomeIff r P v → (P → Q) → (Q → P) → (P → v ≡ w) → SomeIff r Q w
same-left None h f g e = λ q. h (g q)
same-left (Some x) h f g e = (f h.0, h.1 ∙ e h.0)

-- ---- no node

pub nil-bytes : {s : List ℕ} {n : ℕ} → n ≡ 0 → (w : Walk) (f : What) (t : Tree) → Laid s n t → bytes_below s f (Walked w) t ≡ piece 0 []
unfolding part_bytes write
nil-bytes e w f nil a = refl
nil-bytes e w f (node c x l r) a = absurd (omega (arith, (top_in a.lies).low))

pub hidden-bytes : {s : List ℕ} {n : ℕ} (f : What) (t : Tree) → Laid s n t → hidden_in s n ≡ bytes_below s f Hidden t
unfolding part_bytes
hidden-bytes f nil a = hidden_held nil a.lies a.digests
hidden-bytes f (node c x l r) a = hidden_held (node c x l r) a.lies a.digests

pub nothing-at : (s : List ℕ) (f : What) (t : Tree) → bytes_below s f Nothing t ≡ []
unfolding part_bytes
nothing-at s f nil = refl
nothing-at s f (node c x l r) = refl

pub hidden_at : {s : List ℕ} {n : ℕ} (t : Tree) → Laid s n t → HiddenAt s n
hidden_at nil a ne = absurd (ne (sym a.lies.top))
hidden_at (node c e l r) a ne = top_in a.lies

-- ---- a node

module _ {s : List ℕ} {n q : ℕ} (ne : n ≡ 0 → ⊥) where
  pub left-lies : (t : Tree) → Laid s n t → q ≡ (slot s n).left → Laid s q (left t)
  left-lies nil a e = absurd (ne (sym a.lies.top))
  left-lies (node c x l r) a e = record { lies = lies-left a.lies e; digests = a.digests.1 }

  pub right-lies : (t : Tree) → Laid s n t → q ≡ (slot s n).right → Laid s q (right t)
  right-lies nil a e = absurd (ne (sym a.lies.top))
  right-lies (node c x l r) a e = record { lies = lies-right a.lies e; digests = a.digests.2 }

  pub less-left : (t : Tree) → Laid s n t → q ≡ (slot s n).left → entries_below s q < entries_below s n
  less-left nil a e = absurd (ne (sym a.lies.top))
  less-left (node c x l r) a e =
      omega (arith, below-lies s q l (lies-left a.lies e), below-lies s n (node c x l r) a.lies, size-node c x l r)

  pub less-right : (t : Tree) → Laid s n t → q ≡ (slot s n).right → entries_below s q < entries_below s n
  less-right nil a e = absurd (ne (sym a.lies.top))
  less-right (node c x l r) a e =
      omega (arith, below-lies s q r (lies-right a.lies e), below-lies s n (node c x l r) a.lies, size-node c x l r)

pub node-entry : {s : List ℕ} {n : ℕ} → (n ≡ 0 → ⊥) → (t : Tree) → Laid s n t → EntryAt s n
node-entry ne nil a = absurd (ne (sym a.lies.top))
node-entry ne (node c e l r) a = top-entry a.lies

pub node-middle : {s : List ℕ} {n : ℕ} → (n ≡ 0 → ⊥) → (t : Tree) → Laid s n t → (w : Walk) (f : What) → MiddleAt s n (records_in s n w f).middle
node-middle ne nil a w f = absurd (ne (sym a.lies.top))
node-middle ne (node c e l r) a w f = (middle-held a.lies a.digests w f).1

-- the five runs of bytes of a node
abbrev pub runs : List ℕ → ℕ → What → Records → Tree → List ℕ
runs s n f x t =
    five (fork_bytes x.outer) (bytes_below s f x.left (left t)) (fork_bytes x.inner) (middle_in s n x.middle) (bytes_below s f x.right (right t))

pub node-bytes : {s : List ℕ} {n : ℕ} → (n ≡ 0 → ⊥) → (t : Tree) → Laid s n t → (w : Walk) (f : What)
    → bytes_below s f (Walked w) t ≡ runs s n f (records_in s n w f) t
unfolding part_bytes
node-bytes ne nil a w f = absurd (ne (sym a.lies.top))
node-bytes ne (node c e l r) a w f = rw (← (records-held a.lies w f), (middle-held a.lies a.digests w f).0)

-- ---- the steps of the two walks at a node, whose records are x

pub falls-to : {a b t : ℕ} → a < b → b ≡ t → a < t
falls-to p e = omega arith

module _ {s : List ℕ} {n : ℕ} (ne : n ≡ 0 → ⊥) (w : Walk) (f : What) (x : Records) (ex : x ≡ records_in s n w f) (t : Tree) (L : Laid s n t) where
  pub runs-bytes : bytes_below s f (Walked w) t ≡ runs s n f x t
  runs-bytes = node-bytes ne t L w f ∙ ap (λ (y : Records). runs s n f y t) (sym ex)

  pub node-length : length (bytes_below s f (Walked w) t)
      ≡ length (fork_bytes x.outer) + (length (bytes_below s f x.left (left t)) + (length (fork_bytes x.inner) + (length (middle_in s n x.middle) + length (bytes_below s f x.right (right t)))))
  node-length = rw runs-bytes (simp length-append)

  pub write-node : {o o₁ o₂ o₃ o₄ o₅ : List ℕ} {at a b c d r : ℕ}
      → Puts o o₁ at a (fork_bytes x.outer) → Puts o₁ o₂ a b (bytes_below s f x.left (left t)) → Puts o₂ o₃ b c (fork_bytes x.inner)
      → Puts o₃ o₄ c d (middle_in s n x.middle) → Puts o₄ o₅ d r (bytes_below s f x.right (right t))
      → Puts o o₅ at r (bytes_below s f (Walked w) t)
  write-node p₁ p₂ p₃ p₄ p₅ = rw runs-bytes (puts_then p₁ (puts_then p₂ (puts_then p₃ (puts_then p₄ p₅))))

  -- the room for each step, one after the other
  module _ (o : List ℕ) (at : ℕ) (h : at + length (bytes_below s f (Walked w) t) ≤ length o) where
    room₀ : at + length (runs s n f x t) ≤ length o
    room₀ = rw (← runs-bytes) h

    pub room₁ : at + length (fork_bytes x.outer) ≤ length o
    room₁ = omega (arith, room₀, length-append (fork_bytes x.outer) (bytes_below s f x.left (left t) ++ (fork_bytes x.inner ++ (middle_in s n x.middle ++ bytes_below s f x.right (right t)))))

    module _ {o₁ : List ℕ} {a : ℕ} (p₁ : Puts o o₁ at a (fork_bytes x.outer)) where
      next₁ : a + length (bytes_below s f x.left (left t) ++ (fork_bytes x.inner ++ (middle_in s n x.middle ++ bytes_below s f x.right (right t)))) ≤ length o₁
      next₁ = rest (fork_bytes x.outer) _ p₁ room₀

      pub room₂ : a + length (bytes_below s f x.left (left t)) ≤ length o₁
      room₂ = front a (length o₁) (bytes_below s f x.left (left t)) _ next₁

      module _ {o₂ : List ℕ} {b : ℕ} (p₂ : Puts o₁ o₂ a b (bytes_below s f x.left (left t))) where
        next₂ : b + length (fork_bytes x.inner ++ (middle_in s n x.middle ++ bytes_below s f x.right (right t))) ≤ length o₂
        next₂ = rest (bytes_below s f x.left (left t)) _ p₂ next₁

        pub room₃ : b + length (fork_bytes x.inner) ≤ length o₂
        room₃ = front b (length o₂) (fork_bytes x.inner) _ next₂

        module _ {o₃ : List ℕ} {c : ℕ} (p₃ : Puts o₂ o₃ b c (fork_bytes x.inner)) where
          next₃ : c + length (middle_in s n x.middle ++ bytes_below s f x.right (right t)) ≤ length o₃
          next₃ = rest (fork_bytes x.inner) _ p₃ next₂

          pub room₄ : c + length (middle_in s n x.middle) ≤ length o₃
          room₄ = front c (length o₃) (middle_in s n x.middle) _ next₃

          pub room₅ : {o₄ : List ℕ} {d : ℕ} → Puts o₃ o₄ c d (middle_in s n x.middle) → d + length (bytes_below s f x.right (right t)) ≤ length o₄
          room₅ p₄ = rest (middle_in s n x.middle) _ p₄ next₃
