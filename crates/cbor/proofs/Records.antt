-- A tree's written form is that of its records, one after the other; what the loop that puts them keeps.
use Prim.Native.Nat.{ℕ, ◌+◌, ◌-◌, ◌<◌, ◌≤◌}
use mathlib.Core.Path.{◌≡◌, refl, sym, ap, subst, ◌∙◌}
use mathlib.Core.List.{List, [], ◌∷◌, ◌++◌, append_assoc, append-nil}
use native.Mathlib.Omega.{arith}
use native.Mathlib.Nat.{add-sub_cancel_left}
use lib.ListN.{length, take, drop, length-append, length-drop, drop_of_length-le}
use Rattle.hash_tree.specs.HashTree.{HashTree, Empty, Fork, Labeled, Leaf, Pruned}
use Rattle.hash_tree.specs.Written.{Lengths, max_depth}
use Rattle.hash_tree.specs.Parse.{Parsed, Got, Bad, Bytes}
use Rattle.hash_tree.specs.Form.{Taken, Shut, Form, Fits, write_by}
use Rattle.hash_tree.proofs.Forms.{Opening, ReadBy, parsed-written, empty-fits, fork-fits, label-fits, leaf-fits, pruned-fits}
use Rattle.output.specs.Putting.{Puts}
use Rattle.output.proofs.Putting.{puts_none, puts_then, puts-length}
use Rattle.std.specs.Prelude.{Option, Some, None}
use Rattle.std.specs.Option.{IsSome}
use Rattle.cbor.specs.declared.Item.{Item}
use Rattle.cbor.specs.declared.Way.{Way}
use Rattle.cbor.specs.Walks.{source, target, source_of, Lies, Reads, CanPut, Wrote}
use Rattle.cbor.proofs.Sizes.{some_bytes}
use Rattle.cbor.proofs.Judging.{opens}

-- a record without its children
record Piece : Type 0 where
  kind : ℕ
  own : List ℕ

abbrev piece : ℕ → List ℕ → Piece
piece k b = record { kind = k; own = b }

-- parent first
abbrev records : HashTree → List Piece
records Empty = piece 0 [] ∷ []
records (Fork l r) = piece 1 [] ∷ (records l ++ records r)
records (Labeled b t) = piece 2 b ∷ records t
records (Leaf b) = piece 3 b ∷ []
records (Pruned d) = piece 4 d ∷ []

abbrev joined : Form → List Piece → List ℕ
joined f [] = []
joined f (p ∷ ps) = f.put p.kind p.own ++ joined f ps

abbrev AllFit : List Piece → Type 0
AllFit [] = Unit {0}
AllFit (p ∷ ps) = Fits p.kind p.own × AllFit ps

joined-append : (f : Form) (a b : List Piece) → joined f (a ++ b) ≡ joined f a ++ joined f b
joined-append f [] b = refl
joined-append f (p ∷ a) b = rw (joined-append f a b) (sym (append_assoc (f.put p.kind p.own) (joined f a) (joined f b)))

all_append : (a b : List Piece) → AllFit a → AllFit b → AllFit (a ++ b)
all_append [] b h g = g
all_append (p ∷ a) b h g = (h.0, all_append a b h.1 g)

join-records : (f : Form) (t : HashTree) → joined f (records t) ≡ write_by f t
join-records f Empty = append-nil (f.put 0 [])
join-records f (Fork l r) = rw (joined-append f (records l) (records r), join-records f l, join-records f r)
join-records f (Labeled b t) = rw (join-records f t)
join-records f (Leaf b) = append-nil (f.put 3 b)
join-records f (Pruned d) = append-nil (f.put 4 d)

records-fit : (t : HashTree) → Lengths t → AllFit (records t)
records-fit Empty h = (empty-fits, tt)
records-fit (Fork l r) h = (fork-fits, all_append (records l) (records r) (records-fit l h.0) (records-fit r h.1))
records-fit (Labeled b t) h = (label-fits b h.0, records-fit t h.1)
records-fit (Leaf b) h = (leaf-fits b h, tt)
records-fit (Pruned d) h = (pruned-fits d h, tt)

-- ---- the loop

-- some records are put, and the others stand from `at` on
pub record Going (way : Way) (s o o' : List ℕ) (at to : ℕ) (z : Parsed) : Type 0 where
  tree : HashTree
  done : List Piece
  left : List Piece
  is : z ≡ Got tree []
  all : records tree ≡ done ++ left
  fit : AllFit left
  within : at ≤ length s
  stands : drop at s ≡ joined (source way) left
  pub put : Puts o o' 0 to (joined (target way) done)
  room : length (write_by (target way) tree) ≤ length o

module _ (way : Way) (s o : List ℕ) where
  begins : (z : Parsed) → CanPut (target way) o z → ReadBy (source way) max_depth s z → Going way s o o 0 0 z
  begins (Got t []) h r =
      record {
        tree = t;
        done = [];
        left = records t;
        is = refl;
        all = refl;
        fit = records-fit t r.1.0;
        within = omega arith;
        stands = r.0 ∙ append-nil (write_by (source way) t) ∙ sym (join-records (source way) t);
        put = puts_none o 0;
        room = h;
      }
  begins (Got t (x ∷ rest)) h r = absurd h
  begins Bad h r = absurd h

  pub going-begins : Bytes s → CanPut (target way) o (source_of way s) → Going way s o o 0 0 (source_of way s)
  going-begins bs h = begins (source_of way s) h (parsed-written (source way) (opens way) max_depth s bs)

  module _ (o' : List ℕ) (at to : ℕ) (z : Parsed) where
    -- the next record is what the form takes off
    next-piece : (f : Form) (p : Piece) (ps : List Piece) → Opening f → Fits p.kind p.own → drop at s ≡ joined f (p ∷ ps) → f.front (drop at s) ≡ Taken p.kind p.own (joined f ps)
    next-piece f p ps op h e = rw e (op.back p.kind p.own (joined f ps) h)

    none_left : (left : List Piece) → drop at s ≡ joined (source way) left → length s ≤ at → left ≡ []
    none_left [] e h = refl
    none_left (p ∷ ps) e h =
        let l : 0 ≡ length ((source way).put p.kind p.own) + length (joined (source way) ps) =
        ap length (sym (drop_of_length-le s h) ∙ e) ∙ length-append ((source way).put p.kind p.own) (joined (source way) ps)
        in
        absurd (omega (arith, some_bytes way p.kind p.own))

    ends : (g : Going way s o o' at to z) → length s ≤ at → Wrote (target way) o o' to z
    ends g h =
        let e : records g.tree ≡ g.done = g.all ∙ ap (λ (ps : List Piece). g.done ++ ps) (none_left g.left g.stands h) ∙ append-nil g.done in
        rw g.is (subst (λ (w : List ℕ). Puts o o' 0 to w) (ap (joined (target way)) (sym e) ∙ join-records (target way) g.tree) g.put)

    pub going-ends : Going way s o o' at to z → length s ≤ at → Wrote (target way) o o' to z
    going-ends = ends

    -- a record stands there
    shut_by : (left : List Piece) → AllFit left → drop at s ≡ joined (source way) left → (source way).front (drop at s) ≡ Shut → at < length s → ⊥
    shut_by [] h e f l = let i : length (drop at s) ≡ 0 = ap length e in omega (arith, i, length-drop at s)
    shut_by (p ∷ ps) h e f l =
        let i = next-piece (source way) p ps (opens way) h.0 e in
        let j : Taken p.kind p.own (joined (source way) ps) ≡ Shut = sym i ∙ f in
        cc

    pub going-some : Going way s o o' at to z → (r : Option Item) → Reads s ((source way).front (drop at s)) r → at < length s → IsSome r
    going-some g (Some i) h l = refl
    going-some g None h l = absurd (shut_by g.left g.fit g.stands h l)

    module _ (k start len : ℕ) (h : Lies s k start len ((source way).front (drop at s))) where
      abbrev own : List ℕ
      own = take len (drop start s)

      -- as the code cuts them out
      abbrev cut : List ℕ
      cut = take (start + len - start) (drop start s)

      cut-own : cut ≡ own
      cut-own = ap (λ (n : ℕ). take n (drop start s)) (add-sub_cancel_left start len)

      -- the record read is the first of those that are left
      record Head (left : List Piece) : Type 0 where
        others : List Piece
        is : left ≡ piece k own ∷ others
        fit : AllFit others
        rest : drop (start + len) s ≡ joined (source way) others

      head-by : (left : List Piece) → AllFit left → drop at s ≡ joined (source way) left → at < length s → Head left
      head-by [] f e l = let i : length (drop at s) ≡ 0 = ap length e in absurd (omega (arith, i, length-drop at s))
      head-by (p ∷ ps) f e l =
          let i : Taken k own (drop (start + len) s) ≡ Taken p.kind p.own (joined (source way) ps) = sym h.is ∙ next-piece (source way) p ps (opens way) f.0 e in
          let ek : k ≡ p.kind = cc in
          let eb : own ≡ p.own = cc in
          let er : drop (start + len) s ≡ joined (source way) ps = cc in
          record { others = ps; is = ap (λ (q : Piece). q ∷ ps) (λ j. record { kind = sym ek j; own = sym eb j }); fit = f.1; rest = er }

      head : (g : Going way s o o' at to z) → at < length s → Head g.left
      head g = head-by g.left g.fit g.stands

      -- it fits into the output
      room_by : (g : Going way s o o' at to z) → Head g.left → to + length ((target way).put k own) ≤ length o
      room_by g i =
          let f = target way in
          let e : write_by f g.tree ≡ joined f g.done ++ (f.put k own ++ joined f i.others) =
          sym (join-records f g.tree) ∙ ap (joined f) (g.all ∙ ap (λ (ps : List Piece). g.done ++ ps) i.is) ∙ joined-append f g.done (piece k own ∷ i.others)
          in
          let l : length (write_by f g.tree) ≡ length (joined f g.done) + (length (f.put k own) + length (joined f i.others)) =
          ap length e ∙ length-append (joined f g.done) (f.put k own ++ joined f i.others) ∙ ap (λ (n : ℕ). length (joined f g.done) + n) (length-append (f.put k own) (joined f i.others))
          in
          omega (arith, l, g.room, g.put.place)

      pub going-asks : Going way s o o' at to z → at < length s → Fits k cut × (to + length ((target way).put k cut) ≤ length o')
      going-asks g l = rw (cut-own, puts-length (joined (target way) g.done) g.put) (h.lawful, room_by g (head g l))

      put-by : (o'' : List ℕ) (x : ℕ) (g : Going way s o o' at to z) → Head g.left → Puts o' o'' to x ((target way).put k own) → Going way s o o'' (start + len) x z
      put-by o'' x g i p =
          record {
            tree = g.tree;
            done = g.done ++ (piece k own ∷ []);
            left = i.others;
            is = g.is;
            all = g.all ∙ ap (λ (ps : List Piece). g.done ++ ps) i.is ∙ sym (append_assoc g.done (piece k own ∷ []) i.others);
            fit = i.fit;
            within = h.within;
            stands = i.rest;
            put = rw (joined-append (target way) g.done (piece k own ∷ []), append-nil ((target way).put k own)) (puts_then g.put p);
            room = g.room;
          }

      pub going_on : (o'' : List ℕ) (x : ℕ) → Going way s o o' at to z → at < length s → Puts o' o'' to x ((target way).put k cut) → Going way s o o'' (start + len) x z
      going_on o'' x g l p = put-by o'' x g (head g l) (rw cut-own at p)

      -- the place moves on
      on-by : (left : List Piece) → drop at s ≡ joined (source way) left → Head left → start + len ≤ length s → at < length s → at < start + len
      on-by left e i w l =
          let f = source way in
          let j : drop at s ≡ f.put k own ++ drop (start + len) s = e ∙ ap (joined f) i.is ∙ ap (λ (r : List ℕ). f.put k own ++ r) (sym i.rest) in
          let m : length s - at ≡ length (f.put k own) + (length s - (start + len)) =
          sym (length-drop at s) ∙ ap length j ∙ length-append (f.put k own) (drop (start + len) s) ∙ ap (λ (n : ℕ). length (f.put k own) + n) (length-drop (start + len) s)
          in
          omega (arith, m, some_bytes way k own)

      pub going-further : Going way s o o' at to z → at < length s → at < start + len
      going-further g l = on-by g.left g.stands (head g l) h.within l
