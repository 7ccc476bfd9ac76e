-- What the two answers promise of each other, and of rebuild.
use Prim.Native.Nat.{ℕ}
use mathlib.Core.Path.{◌≡◌, refl, sym, ap, ◌∙◌}
use mathlib.Core.Bool.{Bool, true, false, cond}
use mathlib.Core.List.{List, [], ◌∷◌, append-nil}
use native.Mathlib.Omega.{arith}
use lib.ListN.{length}
use lib.Dec.{ltb}
use Rattle.answers.specs.Numbers.{refused, done}
use Rattle.answers.specs.declared.Refusal.TheVariants.{NoRoom, NotCbor}
use Rattle.answers.specs.Answers.{written}
use Rattle.hash_tree.specs.HashTree.{HashTree, digest}
use Rattle.hash_tree.specs.Written.{write, Lawful, max_depth}
use Rattle.hash_tree.specs.Parse.{Parsed, Got, Bad, Bytes, parse}
use Rattle.hash_tree.specs.Whole.{rebuilt, accepted}
use Rattle.hash_tree.specs.Form.{parse_by}
use Rattle.hash_tree.proofs.ParseLaws.{parse-write, write-parse}
use Rattle.hash_tree.proofs.Forms.{ReadBy, parsed-written}
use Rattle.hash_tree.proofs.Promises.{accepts}
use Rattle.cbor.specs.Cbor.{cbor_form, cbor}
use Rattle.cbor.specs.Answer.{Written, put_front, anew, cbor_written, cbor_read}
use Rattle.cbor.proofs.Opens.{opening}
use Rattle.cbor.proofs.Laws.{read_back, was-written}

-- of a lawful tree: its written form is written as its CBOR, and its CBOR is read as its written form
pub writes : (t : HashTree) → Lawful max_depth t → (out : List ℕ) → cbor_written (write t) out ≡ put_front out (cbor t)
unfolding cbor_written
writes t h out = rw (← append-nil (write t), parse-write max_depth t h [])

pub reads : (t : HashTree) → Lawful max_depth t → (out : List ℕ) → cbor_read (cbor t) out ≡ put_front out (write t)
unfolding cbor_read
reads t h out = rw (← append-nil (cbor t), read_back max_depth t h [])

-- write then read: of bytes that rebuild accepts, reading what was written gives them again
pub write_read : (bytes : List ℕ) (t : HashTree) → Bytes bytes → parse max_depth bytes ≡ Got t [] → (out : List ℕ)
    → cbor_read (cbor t) out ≡ put_front out bytes
write_read bytes t bs e out =
    let w = write-parse max_depth bytes t [] bs e in
    reads t w.1 out ∙ ap (put_front out) (sym (w.0 ∙ append-nil (write t)))

-- read then write: of bytes that read accepts, writing what was read gives them again
pub read-write : (bytes : List ℕ) (t : HashTree) → Bytes bytes → parse_by cbor_form max_depth bytes ≡ Got t [] → (out : List ℕ)
    → cbor_written (write t) out ≡ put_front out bytes
read-write bytes t bs e out =
    let w = was-written max_depth bytes t [] bs e in
    writes t w.1 out ∙ ap (put_front out) (sym (w.0 ∙ append-nil (cbor t)))

-- the digest is kept: rebuild of what was read is the digest of that tree
pub digest-kept : (bytes : List ℕ) (t : HashTree) → Bytes bytes → parse_by cbor_form max_depth bytes ≡ Got t []
    → rebuilt (write t) ≡ accepted (digest t)
digest-kept bytes t bs e = accepts t (was-written max_depth bytes t [] bs e).1

front-not : (out w : List ℕ) → (put_front out w).number ≡ 12 → ⊥
front-not out w = by (ltb (length out) (length w))
  where
    by : (v : Bool) → (written out (cond v (refused NoRoom) (done w))).number ≡ 12 → ⊥
    by true f = omega arith
    by false f = omega arith

not-twelve : (bytes out : List ℕ) (t : HashTree) → Lawful max_depth t → bytes ≡ cbor t → (cbor_read bytes out).number ≡ 12 → ⊥
not-twelve bytes out t h w e =
    let a : cbor_read bytes out ≡ put_front out (write t) = ap (λ (l : List ℕ). cbor_read l out) w ∙ reads t h out in
    front-not out (write t) (sym (ap (λ (x : Written). x.number) a) ∙ e)

-- 12 says exactly that the bytes are the CBOR of no lawful tree
twelve-by : (bytes out : List ℕ) (z : Parsed) → ReadBy cbor_form max_depth bytes z → ((t : HashTree) → Lawful max_depth t → bytes ≡ cbor t → ⊥)
    → (anew NotCbor write out z).number ≡ 12
unfolding cbor
twelve-by bytes out (Got t []) h f = absurd (f t h.1 (h.0 ∙ append-nil (cbor t)))
twelve-by bytes out (Got t (x ∷ rest)) h f = refl
twelve-by bytes out Bad h f = refl

pub twelve : (bytes out : List ℕ) → Bytes bytes
    → ((cbor_read bytes out).number ≡ 12 → (t : HashTree) → Lawful max_depth t → bytes ≡ cbor t → ⊥)
    × (((t : HashTree) → Lawful max_depth t → bytes ≡ cbor t → ⊥) → (cbor_read bytes out).number ≡ 12)
unfolding cbor_read
twelve bytes out bs =
    ((λ e t h w. not-twelve bytes out t h w e), (λ f. twelve-by bytes out (parse_by cbor_form max_depth bytes) (parsed-written cbor_form opening max_depth bytes bs) f))
