-- Whether bytes hold a model can be told, so that a call's answer is a function of the bytes: `on_sound s f z` is f of the model that
-- s holds, and z where s is not sound.
use Rattle.std.specs.Prelude.{◌≡◌, refl, Bool, true, false, List, [], ◌∷◌, ℕ, zero, suc, length}
use Rattle.std.proofs.Common.{sym, ap, subst, true≢false, arith}
use Rattle.std.specs.declared.cmp.Ordering.{Ordering}
use Rattle.std.specs.declared.cmp.Ordering.TheVariants.{Less, Equal, Greater}
use Rattle.key_order.specs.Order.{Key, cmp}
use Rattle.slots.specs.declared.Header.{Header}
use Rattle.slots.specs.Layout.{current, store_length, header, Slot, Mark}
use Rattle.llrb.specs.Tree.{Entry, Tree, nil, node, is_red, entries}
use Rattle.llrb.specs.Sorted.{Above, Sorted}
use Rattle.llrb.specs.Shape.{RedsApart, LeansLeft, Blacks, SameBlacks}
use Rattle.store.specs.Counts.{numbers_to}
use Rattle.store.specs.Model.{Model, named}
use Rattle.store.specs.Sound.{header_in, Nodes, Marks, Chain, LaidIn, Short, Lawful, RepresentsIn}
use Rattle.store.specs.Decode.{decode}
use Rattle.store.specs.Deciding.{told, ◌&◌, three, nat?, le?, bytes?, bool?}
use Rattle.store.specs.Counting.{same?}

-- ---- the lines that speak of bytes

header? : (x y : Header) → Dec (x ≡ y)
header? x y =
    told
    (nat? x.edition y.edition & nat? x.capacity y.capacity & nat? x.live y.live & nat? x.root y.root & nat? x.free y.free
    & nat? x.zero y.zero)
    (λ h i. record {
      edition = h.0 i;
      capacity = h.1.0 i;
      live = h.1.1.0 i;
      root = h.1.1.1.0 i;
      free = h.1.1.1.1.0 i;
      zero = h.1.1.1.1.1 i;
    })
    (λ e. (
      ap (λ (z : Header). z.edition) e,
      (
        ap (λ (z : Header). z.capacity) e,
        (
          ap (λ (z : Header). z.live) e,
          (
            ap (λ (z : Header). z.root) e,
            (ap (λ (z : Header). z.free) e, ap (λ (z : Header). z.zero) e),
          ),
        ),
      ),
    ))

slot? : (x y : Slot) → Dec (x ≡ y)
slot? x y =
    told
    (bool? x.live y.live & bool? x.red y.red & nat? x.left y.left & nat? x.right y.right & nat? x.key_length y.key_length
    & nat? x.value_length y.value_length & bytes? x.key_room y.key_room & bytes? x.value_room y.value_room)
    (λ h i. record {
      live = h.0 i;
      red = h.1.0 i;
      left = h.1.1.0 i;
      right = h.1.1.1.0 i;
      key_length = h.1.1.1.1.0 i;
      value_length = h.1.1.1.1.1.0 i;
      key_room = h.1.1.1.1.1.1.0 i;
      value_room = h.1.1.1.1.1.1.1 i;
    })
    (λ e. (
      ap (λ (z : Slot). z.live) e,
      (
        ap (λ (z : Slot). z.red) e,
        (
          ap (λ (z : Slot). z.left) e,
          (
            ap (λ (z : Slot). z.right) e,
            (
              ap (λ (z : Slot). z.key_length) e,
              (
                ap (λ (z : Slot). z.value_length) e,
                (ap (λ (z : Slot). z.key_room) e, ap (λ (z : Slot). z.value_room) e),
              ),
            ),
          ),
        ),
      ),
    ))

mark? : (x y : Mark) → Dec (x ≡ y)
mark? x y =
    told (nat? x.count y.count & bytes? x.digest y.digest) (λ h i. record { count = h.0 i; digest = h.1 i })
    (λ e. (ap (λ (z : Mark). z.count) e, ap (λ (z : Mark). z.digest) e))

nodes? : (s : List ℕ) (t : Tree) → Dec (Nodes s t)
nodes? s nil = yes tt
nodes? s (node c e l r) = three (slot? _ _) (nodes? s l) (nodes? s r)

marks? : (d : ℕ) (s : List ℕ) (t : Tree) → Dec (Marks d s t)
marks? d s nil = yes tt
marks? d s (node c e l r) = three (mark? _ _) (marks? d s l) (marks? d s r)

chain? : (s : List ℕ) (free : List ℕ) → Dec (Chain s free)
chain? s [] = yes tt
chain? s (x ∷ free) = three (slot? _ _) (mark? _ _) (chain? s free)

laid? : (e : ℕ) (s : List ℕ) (m : Model) → Dec (LaidIn e s m)
laid? e s m =
    told
    (nat? (length s) (store_length m.capacity) & header? (header s) (header_in e m) & nodes? s m.tree & marks? e s m.tree & chain? s m.free)
    (λ h. record { len = h.0; header = h.1.0; nodes = h.1.1.0; marks = h.1.1.1.0; chain = h.1.1.1.1 })
    (λ a. (a.len, (a.header, (a.nodes, (a.marks, a.chain)))))

-- ---- the lines that do not

short? : (L : List Entry) → Dec (Short L)
short? [] = yes tt
short? (e ∷ L) = three (le? _ _) (le? _ _) (short? L)

less? : (o : Ordering) → Dec (o ≡ Less)
less? Less = yes refl
less? Equal = no (λ e. let z : ◌≡◌ {A = ℕ} 0 1 = cc in omega arith)
less? Greater = no (λ e. let z : ◌≡◌ {A = ℕ} 0 1 = cc in omega arith)

above? : (k : Key) (L : List Entry) → Dec (Above k L)
above? k [] = yes tt
above? k (e ∷ L) = less? (cmp k e.key) & above? k L

sorted? : (L : List Entry) → Dec (Sorted L)
sorted? [] = yes tt
sorted? (e ∷ L) = above? e.key L & sorted? L

reds_apart? : (t : Tree) → Dec (RedsApart t)
reds_apart? nil = yes tt
reds_apart? (node c e l r) = three (under? c) (reds_apart? l) (reds_apart? r)
  where
    under? : (c : Bool) → Dec (c ≡ true → (is_red l ≡ false) × (is_red r ≡ false))
    under? true = told (bool? (is_red l) false & bool? (is_red r) false) (λ h e. h) (λ h. h refl)
    under? false = yes (λ e. absurd (true≢false (sym e)))

leans_left? : (t : Tree) → Dec (LeansLeft t)
leans_left? nil = yes tt
leans_left? (node c e l r) = three (bool? _ _) (leans_left? l) (leans_left? r)

blacks? : (n : ℕ) (t : Tree) → Dec (Blacks n t)
blacks? n nil = nat? n 0
blacks? n (node true e l r) = blacks? n l & blacks? n r
blacks? zero (node false e l r) = no (λ h. omega (arith, h.1))
blacks? (suc n) (node false e l r) =
    told (blacks? n l & blacks? n r)
    (λ h. (n, refl, h.0, h.1))
    (λ h. let q : h.0 ≡ n = omega (arith, h.1) in (subst (λ (m : ℕ). Blacks m l) q h.2, subst (λ (m : ℕ). Blacks m r) q h.3))

-- the black nodes on the way down to the left
abbrev blacks_down : Tree → ℕ
blacks_down nil = 0
blacks_down (node true e l r) = blacks_down l
blacks_down (node false e l r) = suc (blacks_down l)

down : (n : ℕ) (t : Tree) → Blacks n t → n ≡ blacks_down t
down n nil h = h
down n (node true e l r) h = down n l h.0
down n (node false e l r) h = omega (arith, h.1, down h.0 l h.2)

same_blacks? : (t : Tree) → Dec (SameBlacks t)
same_blacks? t = told (blacks? (blacks_down t) t) (λ h. (blacks_down t, h)) (λ h. subst (λ (n : ℕ). Blacks n t) (down h.0 t h.1) h.1)

lawful? : (m : Model) → Dec (Lawful m)
lawful? m =
    told
    (le? 1 m.capacity & le? m.capacity 1024 & short? (entries m.tree) & sorted? (entries m.tree) & bool? (is_red m.tree) false & reds_apart? m.tree
    & leans_left? m.tree & same_blacks? m.tree & same? (named m) (numbers_to m.capacity))
    (λ h. record {
      least = h.0;
      most = h.1.0;
      short = h.1.1.0;
      ordered = h.1.1.1.0;
      root_black = h.1.1.1.1.0;
      reds_apart = h.1.1.1.1.1.0;
      leans_left = h.1.1.1.1.1.1.0;
      same_blacks = h.1.1.1.1.1.1.1.0;
      once = h.1.1.1.1.1.1.1.1;
    })
    (λ a. (a.least, (a.most, (a.short, (a.ordered, (a.root_black, (a.reds_apart, (a.leans_left, (a.same_blacks, a.once)))))))))

pub represents? : (e : ℕ) (s : List ℕ) (m : Model) → Dec (RepresentsIn e s m)
represents? e s m = told (laid? e s m & lawful? m) (λ h. record { laid = h.0; lawful = h.1 }) (λ a. (a.laid, a.lawful))

-- ---- calls

abbrev pub held : {A P : Type 0} → Dec P → A → A → A
held (yes h) a z = a
held (no n) a z = z

-- f of the model that s holds in an edition; z where s is not sound in it
unfoldable pub on_sound_in : {A : Type 0} → (edition : ℕ) → List ℕ → (Model → A) → A → A
on_sound_in e s f z = held (represents? e s (decode s)) (f (decode s)) z

abbrev pub on_sound : {A : Type 0} → List ℕ → (Model → A) → A → A
on_sound s f z = on_sound_in current s f z
