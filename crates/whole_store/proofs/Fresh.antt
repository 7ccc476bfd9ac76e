-- The bytes that `create` writes are those of a fresh model, whatever they were.
use mathlib.Core.Path.{◌≡◌, refl, sym, ap, subst, ◌∙◌}
use mathlib.Core.Bool.{Bool, true, false}
use mathlib.Core.Logic.{◌≢◌}
use mathlib.Core.List.{List}
use Prim.Native.Nat.{ℕ, zero, suc, ◌+◌, ◌-◌, ◌≤◌, ◌<◌}
use native.Mathlib.Omega.{arith}
use lib.Dec.{eqb, lit<}
use lib.ListN.{length}
use borrow.Author.Tests.{eqb-true, eqb-false, eq-eqb, ne_eqb}
use Rattle.slots.specs.declared.Header.{Header}
use Rattle.slots.specs.Bits.{Bytes}
use Rattle.slots.specs.Layout.{current, store_length, HasSlot, HeaderFits, slot, mark_of, no_mark, free_slot}
use Rattle.slots.specs.Setters.{set_header, clear_slot, Wrote, Headed}
use Rattle.slots.proofs.Writing.{wrote-free, headed}
use Rattle.llrb.specs.Tree.{size}
use Rattle.store.specs.Counts.{numbers_from, numbers_to}
use Rattle.store.specs.Model.{head, fresh}
use Rattle.store.specs.Sound.{Chain, Laid}
use Rattle.store.specs.Encode.{encode}
use Rattle.store.proofs.Operating.{fresh-lawful}
use Rattle.store.proofs.Encoding.{encoded}
use Rattle.whole_store.specs.Fresh.{next_of}

pub next_last : (cap x : ℕ) → x ≡ cap → next_of cap x ≡ 0
unfolding next_of
next_last cap x e = rw (eq-eqb x cap e)

pub next-on : (cap x : ℕ) → x ≢ cap → next_of cap x ≡ x + 1
unfolding next_of
next-on cap x e = rw (ne_eqb x cap e)

pub next-lt : (cap x : ℕ) → x ≤ 1024 → next_of cap x < 2048
next-lt cap x p = go (eqb x cap) refl
  where
    go : (b : Bool) → eqb x cap ≡ b → next_of cap x < 2048
    go true e = omega (arith, next_last cap x (eqb-true x cap e))
    go false e = omega (arith, next-on cap x (eqb-false x cap e))

abbrev pub fresh_header : ℕ → Header
fresh_header cap = record { edition = current; capacity = cap; live = 0; root = 0; free = 1; zero = 0 }

-- ---- the loop over the slots

-- as far as it has come: the first n slots are free, each naming the next, with no mark
pub record Chained (cap : ℕ) (s : List ℕ) (n : ℕ) : Type 0 where
  pub len : length s ≡ store_length cap
  pub bytes : Bytes s
  pub slots : (j : ℕ) → 1 ≤ j → j ≤ n → slot s j ≡ free_slot (next_of cap j)
  pub marks : (j : ℕ) → 1 ≤ j → j ≤ n → mark_of s j ≡ no_mark

pub chained-none : {cap : ℕ} {s : List ℕ} → length s ≡ store_length cap → Bytes s → Chained cap s 0
chained-none e b = record { len = e; bytes = b; slots = λ j p q. absurd (omega arith); marks = λ j p q. absurd (omega arith) }

module _ {cap : ℕ} (most : cap ≤ 1024) {s : List ℕ} {n : ℕ} (a : Chained cap s n) where
  pub chained-slot : (x : ℕ) → 1 ≤ x → x ≤ cap → HasSlot (length s) x
  chained-slot x p q = record { low = p; high = omega arith; fits = omega (arith, a.len) }

  module _ {s' : List ℕ} {y : ℕ} (p : n < cap) (ey : y ≡ next_of cap (n + 1)) (e : s' ≡ clear_slot s (n + 1) y) where
    w : Wrote s s' (n + 1) (free_slot y) no_mark
    w = wrote-free (chained-slot (n + 1) (omega arith) (omega arith)) e (omega (arith, ey, next-lt cap (n + 1) (omega arith)))

    by : (j : ℕ) → 1 ≤ j → j ≤ n + 1 → (b : Bool) → eqb j (n + 1) ≡ b → (slot s' j ≡ free_slot (next_of cap j)) × (mark_of s' j ≡ no_mark)
    by j l q true x =
        let i : j ≡ n + 1 = eqb-true j (n + 1) x in
        (ap (slot s') i ∙ w.here ∙ ap free_slot (ey ∙ ap (next_of cap) (sym i)), ap (mark_of s') i ∙ w.mark)
    by j l q false x =
        let ne : j ≢ n + 1 = eqb-false j (n + 1) x in
        let there : HasSlot (length s) j = chained-slot j l (omega arith) in
        let less : j ≤ n = omega (arith, q, ne) in
        (w.kept.slots j there ne ∙ a.slots j l less, w.kept.marks j there ne ∙ a.marks j l less)

    pub chained-next : Chained cap s' (n + 1)
    chained-next =
        record {
          len = w.kept.len ∙ a.len;
          bytes = w.kept.bytes a.bytes;
          slots = λ j l q. (by j l q (eqb j (n + 1)) refl).0;
          marks = λ j l q. (by j l q (eqb j (n + 1)) refl).1;
        }

-- the slot x freed, after those before it
pub chained-to : {cap : ℕ} → cap ≤ 1024 → {s s' : List ℕ} {x y : ℕ} → Chained cap s (x - 1) → 1 ≤ x → x ≤ cap → y ≡ next_of cap x → s' ≡ clear_slot s x y → Chained cap s' x
chained-to {cap} most {s} {s'} {x} {y} a l m ey e =
    let q : x - 1 + 1 ≡ x = omega arith in
    subst (Chained cap s') q (chained-next most a (omega arith) (ey ∙ ap (next_of cap) (sym q)) (e ∙ ap (λ (z : ℕ). clear_slot s z y) (sym q)))

-- ---- the header at last

pub header-fits : (cap : ℕ) → cap ≤ 1024 → HeaderFits (fresh_header cap)
header-fits cap most = record { edition = lit< tt; capacity = omega arith; live = lit< tt; root = lit< tt; free = lit< tt; zero = lit< tt }

module _ (cap : ℕ) (least : 1 ≤ cap) (most : cap ≤ 1024) {s s' : List ℕ} {n : ℕ} (a : Chained cap s n) (all : n ≡ cap) (e : s' ≡ set_header s (fresh_header cap)) where
  h : Headed s s' (fresh_header cap)
  h = headed (omega (arith, a.len)) e (header-fits cap most)

  next-is : (x n : ℕ) → x + n ≡ cap → head (numbers_from (suc x) n) ≡ next_of cap x
  next-is x zero p = sym (next_last cap x (omega arith))
  next-is x (suc n) p = omega (arith, next-on cap x (λ y. omega arith))

  first : (n : ℕ) → 1 ≤ n → head (numbers_to n) ≡ 1
  first zero p = absurd (omega arith)
  first (suc n) p = refl

  chain : (x m : ℕ) → 1 ≤ x → x + m ≡ suc cap → Chain s' (numbers_from x m)
  chain x zero p q = tt
  chain x (suc m) p q =
      let there : HasSlot (length s) x = chained-slot most a x p (omega arith) in (
        h.slots x there ∙ a.slots x p (omega arith) ∙ ap free_slot (sym (next-is x m (omega arith))),
        h.marks x there ∙ a.marks x p (omega arith),
        chain (suc x) m (omega arith) (omega arith),
      )

  laid : Laid s' (fresh cap)
  unfolding fresh size
  laid =
      let f = first cap least in
      record {
        len = h.len ∙ a.len;
        header = h.here ∙ (λ i. record { edition = current; capacity = cap; live = 0; root = 0; free = sym f i; zero = 0 });
        nodes = tt;
        marks = tt;
        chain = chain 1 cap (omega arith) (omega arith);
      }

  pub fresh-bytes : s' ≡ encode (fresh cap)
  fresh-bytes = encoded (h.bytes a.bytes) (record { laid = laid; lawful = fresh-lawful cap least most })
