-- What the walk that judges finds, by the record at its place, over plain lists.
use Prim.Native.Nat.{ℕ, zero, suc, ◌+◌, ◌-◌, ◌≤◌}
use mathlib.Core.Path.{◌≡◌, refl, sym, ap, ◌∙◌}
use mathlib.Core.List.{List, [], ◌∷◌, ◌++◌}
use native.Mathlib.Omega.{arith}
use native.Mathlib.Numerals.{sub-one}
use native.Mathlib.Nat.{not-suc-le-zero}
use Rattle.std.specs.Prelude.{Option, Some, None}
use lib.ListN.{length, take, drop, length-append, length-drop}
use lib.Seq.{drop-drop, drop_at, length-take-le}
use borrow.Author.Tests.{lt-leb}
use Rattle.hash_tree.specs.HashTree.{HashTree, Fork, Labeled}
use Rattle.hash_tree.specs.Record.{most}
use Rattle.hash_tree.specs.Parse.{Parsed, Got, Bad, by_kind, labeled, forked, fork, Bytes}
use Rattle.hash_tree.specs.Form.{Front, Taken, Shut, Form, Fits, write_by, parse_by}
use Rattle.hash_tree.proofs.Forms.{Opening, parsed-written}
use Rattle.hash_tree.proofs.Lawfulness.{bytes_drop}
use Rattle.hash_tree.proofs.ParseLaws as written-laws
use Rattle.output.specs.Putting.{room_after}
use Rattle.output.proofs.Putting.{room-then}
use Rattle.cbor.specs.declared.Way.{Way}
use Rattle.cbor.specs.declared.Way.TheVariants.{Writing, Reading}
use Rattle.cbor.specs.declared.Met.{Met}
use Rattle.cbor.specs.Walks.{source, target, Lies, Takes, code_of, room_of, met_of}
use Rattle.cbor.proofs.Opens as cbor-laws
use Rattle.cbor.proofs.Sizes.{own-most}

pub opens : (way : Way) → Opening (source way)
opens Writing = written-laws.opening
opens Reading = cbor-laws.opening

nil-of : (y : List ℕ) → length y ≡ 0 → y ≡ []
nil-of [] e = refl
nil-of (i ∷ y) e = absurd (omega (arith, e))

-- ---- room, as a number

pub room-code : (r : Option ℕ) → room_of (code_of r) ≡ r
room-code None = refl
room-code (Some m) = refl

-- a room that is short, or too small, is short after n bytes
pub less-short : (room n : ℕ) → room ≤ n → 0 ≡ code_of (room_after n (room_of room))
less-short zero n h = refl
less-short (suc m) n h = rw (lt-leb n m (omega arith))

-- ---- by the kind of a record, for any two forms

module _ (n : ℕ) (g : Form) (room : Option ℕ) where
  pub met-bad : (z : Parsed) → z ≡ Bad → None ≡ met_of n g room z
  met-bad z f = rw f

  pub fork-bad : (p : List ℕ → Parsed) (r : Option ℕ) (z : Parsed) → None ≡ met_of n g r z → None ≡ met_of n g room (fork p z)
  fork-bad p r (Got t rest) e = cc
  fork-bad p r Bad e = refl

  forked-met : (l : HashTree) (m : ℕ) (z : Parsed) → m ≡ length (g.put 1 []) → met_of n g (room_after (length (write_by g l)) (room_after m room)) z ≡ met_of n g room (forked l z)
  forked-met l m (Got r rest) e =
      let i : m + length (write_by g l) + length (write_by g r) ≡ length (write_by g (Fork l r)) =
      omega (arith, length-append (g.put 1 []) (write_by g l ++ write_by g r), length-append (write_by g l) (write_by g r))
      in
      rw (room-then m (length (write_by g l)) room, room-then (m + length (write_by g l)) (length (write_by g r)) room, i)
  forked-met l m Bad e = refl

  -- what is left of s after the first child is s from the place on that the walk found
  pub fork-met : (s : List ℕ) (p : List ℕ → Parsed) (m : ℕ) (l : Met) (q : Option Met) (z : Parsed) → n ≡ length s → ((t : HashTree) (rest : List ℕ) → z ≡ Got t rest → drop (n - length rest) s ≡ rest) → m ≡ length (g.put 1 [])
      → Some l ≡ met_of n g (room_after m room) z → q ≡ met_of n g (room_of l.room) (p (drop l.next s)) → q ≡ met_of n g room (fork p z)
  fork-met s p m l q (Got t rest) en b em e h =
      let f : l ≡ record { next = n - length rest; room = code_of (room_after (length (write_by g t)) (room_after m room)) } = cc in
      let x : l.next ≡ n - length rest = ap (λ (y : Met). y.next) f in
      let y : room_of l.room ≡ room_after (length (write_by g t)) (room_after m room) = ap (λ (y : Met). room_of y.room) f ∙ room-code (room_after (length (write_by g t)) (room_after m room)) in
      let i : q ≡ met_of n g (room_after (length (write_by g t)) (room_after m room)) (p rest) = rw (x, y, b t rest refl) at h in
      i ∙ forked-met t m (p rest) em
  fork-met s p m l q Bad en b em e h = cc

  pub labeled-met : (b : List ℕ) (m : ℕ) (z : Parsed) → m ≡ length (g.put 2 b) → met_of n g (room_after m room) z ≡ met_of n g room (labeled b z)
  labeled-met b m (Got t rest) e =
      let i : m + length (write_by g t) ≡ length (write_by g (Labeled b t)) = omega (arith, length-append (g.put 2 b) (write_by g t)) in
      rw (room-then m (length (write_by g t)) room, i)
  labeled-met b m Bad e = refl

  pub single-met : (p : List ℕ → Parsed) (k m x : ℕ) (b r : List ℕ) → Fits k b → (k ≡ 1 → ⊥) → (k ≡ 2 → ⊥) → m ≡ length (g.put k b) → x ≡ n - length r
      → Some (record { next = x; room = code_of (room_after m room) }) ≡ met_of n g room (by_kind p k b r)
  unfolding most
  single-met p zero m x [] r h h₁ h₂ e f = rw (e, f)
  single-met p zero m x (y ∷ b) r h h₁ h₂ e f = absurd (not-suc-le-zero h.high)
  single-met p (suc zero) m x b r h h₁ h₂ e f = absurd (h₁ refl)
  single-met p (suc (suc zero)) m x b r h h₁ h₂ e f = absurd (h₂ refl)
  single-met p (suc (suc (suc zero))) m x b r h h₁ h₂ e f = rw (e, f)
  single-met p (suc (suc (suc (suc zero)))) m x b r h h₁ h₂ e f = rw (e, f)
  single-met p (suc (suc (suc (suc (suc k))))) m x b r h h₁ h₂ e f = absurd (omega (arith, h.kind))

-- ---- at a place

pub parse-none : (f : Form) (d : ℕ) (xs : List ℕ) → d ≡ 0 → parse_by f d xs ≡ Bad
unfolding parse_by
parse-none f d xs e = rw e

pub parse-shut : (f : Form) (d : ℕ) (xs : List ℕ) → f.front xs ≡ Shut → parse_by f d xs ≡ Bad
unfolding parse_by
parse-shut f zero xs e = refl
parse-shut f (suc d) xs e = rw e

parse-taken : (f : Form) (d k : ℕ) (xs b r : List ℕ) → (d ≡ 0 → ⊥) → f.front xs ≡ Taken k b r → parse_by f d xs ≡ by_kind (parse_by f (d - 1)) k b r
unfolding parse_by
parse-taken f zero k xs b r h e = absurd (h refl)
parse-taken f (suc d) k xs b r h e = rw (e, sub-one (suc d))

-- a tree that was read at a place: the rest is s from some place on
left : (f : Form) (o : Opening f) (s : List ℕ) (d at : ℕ) → Bytes s → at ≤ length s → (t : HashTree) (rest : List ℕ) → parse_by f d (drop at s) ≡ Got t rest → drop (length s - length rest) s ≡ rest
left f o s d at bs h t rest e =
    let w : drop at s ≡ write_by f t ++ rest = (rw e at (parsed-written f o d (drop at s) (bytes_drop at s bs))).0 in
    let l : length s - at ≡ length (write_by f t) + length rest = sym (length-drop at s) ∙ ap length w ∙ length-append (write_by f t) rest in
    let m : length s - length rest ≡ at + length (write_by f t) = omega arith in
    rw (m, ← drop-drop (length (write_by f t)) at s, w) (drop_at (write_by f t) rest (length (write_by f t)) refl)

lies-length : (s : List ℕ) (k start len : ℕ) (f : Front) → Lies s k start len f → length (take len (drop start s)) ≡ len
lies-length s k start len f h = length-take-le len (drop start s) (omega (arith, length-drop start s, h.within))

pub lies-most : (s : List ℕ) (k start len : ℕ) (f : Front) → Lies s k start len f → len ≤ 64
lies-most s k start len f h = omega (arith, lies-length s k start len f h, h.lawful.high, own-most k)

module _ (way : Way) (s : List ℕ) (at d k start len m : ℕ) (room : Option ℕ) (pos : d ≡ 0 → ⊥) (h : Lies s k start len ((source way).front (drop at s))) (takes : Takes way k len m) where
  abbrev Answers : Option Met → Type 0
  Answers q = q ≡ met_of (length s) (target way) room (parse_by (source way) d (drop at s))

  abbrev bytes : List ℕ
  bytes = take len (drop start s)

  by-kind : parse_by (source way) d (drop at s) ≡ by_kind (parse_by (source way) (d - 1)) k bytes (drop (start + len) s)
  by-kind = parse-taken (source way) d k (drop at s) bytes (drop (start + len) s) pos h.is

  size : m ≡ length ((target way).put k bytes)
  size = takes bytes (lies-length s k start len ((source way).front (drop at s)) h)

  module _ (e : k ≡ 1) where
    empty : bytes ≡ []
    unfolding most
    empty = let i : length bytes ≤ most 1 = rw e at h.lawful.high in nil-of bytes (omega (arith, i))

    fork-size : m ≡ length ((target way).put 1 [])
    fork-size = rw (e, empty) at size

    at_fork : parse_by (source way) d (drop at s) ≡ fork (parse_by (source way) (d - 1)) (parse_by (source way) (d - 1) (drop (start + len) s))
    at_fork = by-kind ∙ rw e

    pub judged-fork-bad : (r : ℕ) → None ≡ met_of (length s) (target way) (room_of r) (parse_by (source way) (d - 1) (drop (start + len) s)) → Answers None
    judged-fork-bad r i = rw at_fork (fork-bad (length s) (target way) room (parse_by (source way) (d - 1)) (room_of r) (parse_by (source way) (d - 1) (drop (start + len) s)) i)

    pub judged-fork : Bytes s → (r : ℕ) (l : Met) (q : Option Met) → r ≡ code_of (room_after m room) → Some l ≡ met_of (length s) (target way) (room_of r) (parse_by (source way) (d - 1) (drop (start + len) s))
        → q ≡ met_of (length s) (target way) (room_of l.room) (parse_by (source way) (d - 1) (drop l.next s)) → Answers q
    judged-fork bs r l q er i x =
        rw at_fork
        (fork-met (length s) (target way) room s (parse_by (source way) (d - 1)) m l q (parse_by (source way) (d - 1) (drop (start + len) s)) refl
        (left (source way) (opens way) s (d - 1) (start + len) bs h.within) fork-size (rw (er, room-code (room_after m room)) at i) x)

  pub judged-labeled : k ≡ 2 → (r : ℕ) (q : Option Met) → r ≡ code_of (room_after m room) → q ≡ met_of (length s) (target way) (room_of r) (parse_by (source way) (d - 1) (drop (start + len) s)) → Answers q
  judged-labeled e r q er i =
      let f : parse_by (source way) d (drop at s) ≡ labeled bytes (parse_by (source way) (d - 1) (drop (start + len) s)) = by-kind ∙ rw e in
      i ∙ rw (er, room-code (room_after m room), f) (labeled-met (length s) (target way) room bytes m (parse_by (source way) (d - 1) (drop (start + len) s)) (rw e at size))

  pub judged-single : (k ≡ 1 → ⊥) → (k ≡ 2 → ⊥) → (r : ℕ) → r ≡ code_of (room_after m room) → Answers (Some (record { next = start + len; room = r }))
  judged-single h₁ h₂ r er =
      rw (by-kind, er)
      (single-met (length s) (target way) room (parse_by (source way) (d - 1)) k m (start + len) bytes (drop (start + len) s) h.lawful h₁ h₂ size (omega (arith, length-drop (start + len) s, h.within)))
