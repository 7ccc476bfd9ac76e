-- What the walks' answers say of the whole call, over plain lists.
use Prim.Native.Nat.{ℕ, ◌+◌, ◌-◌, ◌<◌, ◌≤◌}
use mathlib.Core.Path.{◌≡◌, refl, sym, ap, ◌∙◌}
use mathlib.Core.List.{List, [], ◌∷◌, ◌++◌}
use native.Mathlib.Omega.{arith}
use native.Mathlib.Numerals.{add-one}
use lib.ListN.{length, length-append}
use borrow.Author.Tests.{lt-ltb, le-ltb}
use Rattle.answers.specs.declared.Refusal.{Refusal}
use Rattle.answers.specs.declared.Refusal.TheVariants.{Malformed, NotCbor, NoRoom}
use Rattle.std.specs.Prelude.{Option, Some, None, Ok, Err}
use Rattle.hash_tree.specs.HashTree.{HashTree}
use Rattle.hash_tree.specs.Written.{write, max_depth}
use Rattle.hash_tree.specs.Parse.{Parsed, Got, Bad, Bytes}
use Rattle.hash_tree.specs.Form.{Form, write_by, parse_by, written}
use Rattle.hash_tree.proofs.Forms.{parsed-written}
use Rattle.hash_tree.proofs.ParseLaws.{parse-by, write-by}
use Rattle.output.specs.Putting.{Puts, room_after}
use Rattle.output.proofs.Putting.{puts-front, room-left, room-short}
use Rattle.cbor.specs.declared.Way.{Way}
use Rattle.cbor.specs.declared.Way.TheVariants.{Writing, Reading}
use Rattle.cbor.specs.declared.Met.{Met}
use Rattle.cbor.specs.Cbor.{cbor_form, cbor}
use Rattle.cbor.specs.Answer.{answered, put_front, anew, cbor_written, cbor_read}
use Rattle.cbor.specs.Walks.{source, target, refusal_of, source_of, exchanged, code_of, room_of, met_of, CanPut, Wrote}
use Rattle.cbor.proofs.Judging.{opens}

front-short : (o w : List ℕ) → length o < length w → answered (Err NoRoom) o ≡ put_front o w
front-short o w h = rw (lt-ltb (length o) (length w) h)

front-put : (o o' : List ℕ) (k : ℕ) (w : List ℕ) → length w ≤ length o → Puts o o' 0 k w → answered (Ok k) o' ≡ put_front o w
front-put o o' k w h p =
    let q = puts-front w h p in
    rw (le-ltb (length o) (length w) h) (λ i. record { number = 0; size = q.0 i; output = q.1 i })

code-short : (r : Option ℕ) → code_of r ≡ 0 → r ≡ None
code-short None e = refl
code-short (Some m) e = absurd (omega arith)

code-left : (r : Option ℕ) → (code_of r ≡ 0 → ⊥) → (k : ℕ) × (r ≡ Some k)
code-left None f = absurd (f refl)
code-left (Some m) f = (m, refl)

module _ (n : Refusal) (g : Form) (o s : List ℕ) where
  refused-bad : (z : Parsed) → None ≡ met_of (length s) g (Some (length o)) z → answered (Err n) o ≡ anew n (write_by g) o z
  refused-bad (Got t rest) i = cc
  refused-bad Bad i = refl

  module _ (m : Met) where
    after : (t : HashTree) (rest : List ℕ) → Some m ≡ met_of (length s) g (Some (length o)) (Got t rest) → (m.next ≡ length s - length rest) × (m.room ≡ code_of (room_after (length (write_by g t)) (Some (length o))))
    after t rest i =
        let f : m ≡ record { next = length s - length rest; room = code_of (room_after (length (write_by g t)) (Some (length o))) } = cc in
        (ap (λ (x : Met). x.next) f, ap (λ (x : Met). x.room) f)

    refused-more : (z : Parsed) → Some m ≡ met_of (length s) g (Some (length o)) z → (m.next ≡ length s → ⊥) → answered (Err n) o ≡ anew n (write_by g) o z
    refused-more (Got t []) i f = absurd (f (omega (arith, (after t [] i).0)))
    refused-more (Got t (x ∷ rest)) i f = refl
    refused-more Bad i f = refl

    -- nothing is left
    module _ (whole : length s ≤ m.next) where
      short-by : (z : Parsed) → ((t : HashTree) (rest : List ℕ) → z ≡ Got t rest → length rest ≤ length s) → Some m ≡ met_of (length s) g (Some (length o)) z → m.room ≡ 0
          → answered (Err NoRoom) o ≡ anew n (write_by g) o z
      short-by (Got t []) l i f = front-short o (write_by g t) (room-short (length (write_by g t)) (length o) (code-short (room_after (length (write_by g t)) (Some (length o))) (sym (after t [] i).1 ∙ f)))
      short-by (Got t (x ∷ rest)) l i f = absurd (omega (arith, l t (x ∷ rest) refl, (after t (x ∷ rest) i).0))
      short-by Bad l i f = cc

      can-by : (z : Parsed) → ((t : HashTree) (rest : List ℕ) → z ≡ Got t rest → length rest ≤ length s) → Some m ≡ met_of (length s) g (Some (length o)) z → (m.room ≡ 0 → ⊥) → CanPut g o z
      can-by (Got t []) l i f =
          let w = code-left (room_after (length (write_by g t)) (Some (length o))) (λ e. f ((after t [] i).1 ∙ e)) in
          room-left (length (write_by g t)) (length o) w.0 w.1
      can-by (Got t (x ∷ rest)) l i f = absurd (omega (arith, l t (x ∷ rest) refl, (after t (x ∷ rest) i).0))
      can-by Bad l i f = cc

  put-by : (o' : List ℕ) (k : ℕ) (z : Parsed) → CanPut g o z → Wrote g o o' k z → answered (Ok k) o' ≡ anew n (write_by g) o z
  put-by o' k (Got t []) c w = front-put o o' k (write_by g t) c w
  put-by o' k (Got t (x ∷ rest)) c w = absurd c
  put-by o' k Bad c w = absurd c

module _ (way : Way) (s o : List ℕ) (bs : Bytes s) where
  rest-fits : (t : HashTree) (rest : List ℕ) → source_of way s ≡ Got t rest → length rest ≤ length s
  rest-fits t rest e =
      let w : s ≡ write_by (source way) t ++ rest = (rw e at (parsed-written (source way) (opens way) max_depth s bs)).0 in
      omega (arith, ap length w, length-append (write_by (source way) t) rest)

  pub not-a-tree : None ≡ met_of (length s) (target way) (room_of (length o + 1)) (source_of way s) → answered (Err (refusal_of way)) o ≡ exchanged way s o
  not-a-tree judged = refused-bad (refusal_of way) (target way) o s (source_of way s) (rw (add-one (length o)) at judged)

  module _ (m : Met) (judged : Some m ≡ met_of (length s) (target way) (room_of (length o + 1)) (source_of way s)) where
    met : Some m ≡ met_of (length s) (target way) (Some (length o)) (source_of way s)
    met = rw (add-one (length o)) at judged

    pub more-than-one : (m.next ≡ length s → ⊥) → answered (Err (refusal_of way)) o ≡ exchanged way s o
    more-than-one f = refused-more (refusal_of way) (target way) o s m (source_of way s) met f

    module _ (whole : length s ≤ m.next) where
      pub no_room : m.room ≡ 0 → answered (Err NoRoom) o ≡ exchanged way s o
      no_room f = short-by (refusal_of way) (target way) o s m whole (source_of way s) rest-fits met f

      pub can-put : (m.room ≡ 0 → ⊥) → CanPut (target way) o (source_of way s)
      can-put f = can-by (refusal_of way) (target way) o s m whole (source_of way s) rest-fits met f

      pub was-put : (size : ℕ) (o' : List ℕ) → (m.room ≡ 0 → ⊥) → Wrote (target way) o o' size (source_of way s) → answered (Ok size) o' ≡ exchanged way s o
      was-put size o' f w = put-by (refusal_of way) (target way) o s o' size (source_of way s) (can-put f) w

-- ---- the two ways are the two calls

anew-same : (n : Refusal) (f g : HashTree → List ℕ) (o : List ℕ) → ((t : HashTree) → f t ≡ g t) → (z : Parsed) → anew n f o z ≡ anew n g o z
anew-same n f g o h (Got t []) = ap (put_front o) (h t)
anew-same n f g o h (Got t (x ∷ rest)) = refl
anew-same n f g o h Bad = refl

pub writing-is : (s o : List ℕ) → exchanged Writing s o ≡ cbor_written s o
unfolding cbor_written cbor
writing-is s o = ap (anew Malformed (write_by cbor_form) o) (parse-by max_depth s)

pub reading-is : (s o : List ℕ) → exchanged Reading s o ≡ cbor_read s o
unfolding cbor_read
reading-is s o = anew-same NotCbor (write_by written) write o write-by (parse_by cbor_form max_depth s)
