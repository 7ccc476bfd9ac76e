-- Moves between editions: a move answers 0 exactly for a store that is sound in the edition it leaves, changes nothing but the edition and counts,
-- and there and back gives the same bytes.
use mathlib.Core.Path.{◌≡◌, refl, sym, ap, ◌∙◌}
use mathlib.Core.List.{List}
use mathlib.Core.Option.{Option, none, some}
use Prim.Native.Nat.{ℕ, ◌<◌}
use native.Mathlib.Omega.{arith}
use Rattle.slots.specs.Bits.{Bytes}
use Rattle.slots.specs.declared.Header.{Header}
use Rattle.slots.specs.Layout.{Mark}
use Rattle.llrb.specs.Tree.{Tree}
use Rattle.llrb.specs.Path.{subtree_at}
use Rattle.store.specs.Numbers.{NotSound, refused, done}
use Rattle.store.specs.Model.{Model}
use Rattle.store.specs.Sound.{RepresentsIn, SoundIn}
use Rattle.store.specs.Encode.{top_mark, encode_in}
use Rattle.store.specs.Decode.{decode}
use Rattle.store.specs.Decide.{represents?}
use Rattle.store.specs.Moves.{move_answer, changed_in, with_edition, MovedOnly}
use Rattle.store.proofs.Decoding.{on-sound, on-unsound, sound-decodes}
use Rattle.store.proofs.Seats.{laid_shows}
use Rattle.store.proofs.Encoding.{encode-shows, encode-holds, encoded}

-- ---- what a move answers

module _ (from to : ℕ) {s : List ℕ} where
  pub move-done : {m : Model} → RepresentsIn from s m → move_answer from to s ≡ record { number = 0; store = encode_in to m }
  unfolding move_answer
  move-done a = ap (changed_in to s) (on-sound a done (refused NotSound))

  pub move-refused : (SoundIn from s → ⊥) → move_answer from to s ≡ record { number = 1; store = s }
  unfolding move_answer
  move-refused n = ap (changed_in to s) (on-unsound n done (refused NotSound))

  -- 0 exactly for a sound store
  pub moves-exactly : (move_answer from to s).number ≡ 0 → SoundIn from s
  moves-exactly h = at (represents? from s (decode s))
    where
      at : Dec (RepresentsIn from s (decode s)) → SoundIn from s
      at (yes a) = (decode s, a)
      at (no n) = absurd (let e = move-refused (λ x. n (sound-decodes x)) in let z : ◌≡◌ {A = ℕ} 0 1 = sym h ∙ ap (λ c. c.number) e in omega arith)

-- ---- what it leaves

same-digest : (d e : ℕ) (o : Option Tree) → (top_mark d o).digest ≡ (top_mark e o).digest
same-digest d e none = refl
same-digest d e (some t) = refl

module _ {from : ℕ} (to : ℕ) (fits : to < 16) {s : List ℕ} {m : Model} (a : RepresentsIn from s m) where
  pub moved-only : MovedOnly to s (encode_in to m)
  moved-only =
      let w = laid_shows a.lawful a.laid in
      let v = encode-shows a.lawful to fits in
      let c = ap (λ (h : Header). h.capacity) w.head in
      record {
        len = v.len ∙ sym w.len;
        header = v.head ∙ ap (with_edition to) (sym w.head);
        slots = λ i p q. v.slots i p (rw (← c) q) ∙ sym (w.slots i p (rw (← c) q));
        digests = λ i p q. ap (λ (z : Mark). z.digest) (v.marks i p (rw (← c) q)) ∙ same-digest to from (subtree_at i m.tree) ∙ sym (ap (λ (z : Mark). z.digest) (w.marks i p (rw (← c) q)));
      }

-- there and back, for any two editions
pub there_and_back : (from to : ℕ) → to < 16 → {s : List ℕ} → Bytes s → SoundIn from s → move_answer to from (move_answer from to s).store ≡ record { number = 0; store = s }
there_and_back from to fits {s} b (m, a) =
    ap (λ c. move_answer to from c.store) (move-done from to a)
    ∙ move-done to from (encode-holds a.lawful to fits)
    ∙ (λ i. record { number = 0; store = sym (encoded b a) i })
