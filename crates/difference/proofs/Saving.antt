-- The lines measured and written one after the other, and what the call answers of them.
use Prim.Native.Nat.{ℕ, ◌+◌, ◌*◌, ◌≤◌}
use mathlib.Core.Path.{◌≡◌, sym, ap, ap₂, subst, ◌∙◌}
use mathlib.Core.List.{List, [], ◌∷◌, ◌++◌, append_assoc, append-nil}
use native.Mathlib.Omega.{arith}
use native.Mathlib.Numerals.{add-one}
use lib.ListN.{length, set, length-append, length-take}
use borrow.Author.Tests.{le-ltb, lt-ltb}
use Rattle.key_order.specs.Order.{Key}
use Rattle.slots.specs.declared.Header.{Header}
use Rattle.slots.specs.Layout.{header, slot, key_of}
use Rattle.llrb.specs.Tree.{Entry, size}
use Rattle.llrb.specs.Map.{pairs}
use Rattle.llrb.specs.Difference.{Line, difference}
use Rattle.answers.specs.Answers.{answered, put_front}
use Rattle.answers.specs.declared.Refusal.TheVariants.{NoRoom}
use Rattle.output.specs.Putting.{Puts}
use Rattle.output.proofs.Putting.{puts_none, puts_then, puts-length, puts-front}
use Rattle.store.specs.Sound.{Sound}
use Rattle.store.specs.Difference.{line_bytes, lines_bytes, difference_answer}
use Rattle.store.specs.Decode.{decode}
use Rattle.store.proofs.Decoding.{sound-decodes, live-and-free}
use Rattle.store.proofs.Difference.{difference-of, difference-most}
use Rattle.std.specs.Prelude.{Option, Ok, Err}
use Rattle.search.specs.Search.{EntryAt}
use Rattle.difference.specs.declared.Change.{Change}
use Rattle.difference.specs.Walking.{First, Ready, lines_of, all_lines, line_in, Says}

pub key-short : (s : List ℕ) (i : ℕ) → EntryAt s i → length (key_of (slot s i)) ≤ 48
key-short s i a = omega (arith, length-take (slot s i).key_length (slot s i).key_room, a.key)

-- the first byte, and then the key that was read
pub puts-key : (o : List ℕ) {o' : List ℕ} {at to : ℕ} (n : ℕ) {k k' : List ℕ} → k ≡ k' → Puts (set o at (n + length k)) o' (at + 1) to k → Puts o o' at to ((n + length k') ∷ k')
puts-key o {o'} {at} {to} n {k} e p =
    subst (λ (z : List ℕ). Puts o o' at to ((n + length z) ∷ z)) e (record { place = omega (arith, p.place); bytes = p.bytes ∙ rw add-one })

-- a line and those after it
lines-first : {L M : List Line} (l : Line) → L ≡ l ∷ M → lines_bytes L ≡ line_bytes l ++ lines_bytes M
unfolding lines_bytes
lines-first l e = ap lines_bytes e

lines_end : {L : List Line} → L ≡ [] → lines_bytes L ≡ []
unfolding lines_bytes
lines_end e = ap lines_bytes e

module _ {old new : List ℕ} (p : Sound old) (q : Sound new) {a b : Option ℕ} (f : First old a) (g : First new b) where
  ready : Ready old new a b
  ready = record { old_sound = p; new_sound = q; old_at = f.cursor; new_at = g.cursor }

  whole : lines_of old new a b ≡ all_lines old new
  whole = ap₂ (λ (L M : List Entry). difference (pairs L) (pairs M)) f.all g.all

-- ---- measured: `left` is what the lines so far leave of the room

pub record Measured (old new : List ℕ) (room : ℕ) (a b : Option ℕ) (left : ℕ) : Type 0 where
  pub ready : Ready old new a b
  pub same : left + length (lines_bytes (all_lines old new)) ≡ room + length (lines_bytes (lines_of old new a b))

pub measure-start : {old new : List ℕ} → Sound old → Sound new → {a b : Option ℕ} → First old a → First new b → (room : ℕ) → Measured old new room a b room
measure-start p q f g room = record { ready = ready p q f g; same = ap (λ (L : List Line). room + length (lines_bytes L)) (sym (whole p q f g)) }

-- a line takes a byte and its key of the room
pub line-length : {old new : List ℕ} {a b x y : Option ℕ} {c : Change} {i : ℕ} → Says old new a b c i x y → {k : Key} → k ≡ (line_in old new c i).key
    → length (lines_bytes (lines_of old new a b)) ≡ 1 + length k + length (lines_bytes (lines_of old new x y))
line-length {old} {new} {a} {b} {x} {y} {c} {i} s {k} e =
    let l = line_in old new c i in
    omega (arith, ap length (lines-first l s.lines), length-append (line_bytes l) (lines_bytes (lines_of old new x y)), ap length e)

pub no-length : {L : List Line} → L ≡ [] → length (lines_bytes L) ≡ 0
no-length e = ap length (lines_end e)

-- ---- written: the lines so far stand at the front

pub record Putting (old new out₀ : List ℕ) (a b : Option ℕ) (out : List ℕ) (at : ℕ) : Type 0 where
  pub ready : Ready old new a b
  pub before : List ℕ
  pub puts : Puts out₀ out 0 at before
  pub rest : lines_bytes (all_lines old new) ≡ before ++ lines_bytes (lines_of old new a b)

pub put-start : {old new : List ℕ} → Sound old → Sound new → {a b : Option ℕ} → First old a → First new b → (out : List ℕ) → Putting old new out a b out 0
put-start p q f g out = record { ready = ready p q f g; before = []; puts = puts_none out 0; rest = ap lines_bytes (sym (whole p q f g)) }

module _ {old new out₀ : List ℕ} {a b : Option ℕ} {out : List ℕ} {at : ℕ} (m : Putting old new out₀ a b out at) where
  pub put-length : length out ≡ length out₀
  put-length = puts-length m.before m.puts

  pub put-end : lines_of old new a b ≡ [] → Puts out₀ out 0 at (lines_bytes (all_lines old new))
  put-end e = subst (Puts out₀ out 0 at) (sym (m.rest ∙ (ap (λ (w : List ℕ). m.before ++ w) (lines_end e) ∙ append-nil m.before))) m.puts

  module _ {c : Change} {i : ℕ} {x y : Option ℕ} (s : Says old new a b c i x y) where
    pub put-room : length (lines_bytes (all_lines old new)) ≤ length out₀ → at + length (line_bytes (line_in old new c i)) ≤ length out
    put-room h =
        let l = line_in old new c i in
        omega (
          arith,
          h,
          put-length,
          m.puts.place,
          ap length m.rest,
          length-append m.before (lines_bytes (lines_of old new a b)),
          ap length (lines-first l s.lines),
          length-append (line_bytes l) (lines_bytes (lines_of old new x y)),
        )

    pub put-line : {out' : List ℕ} {to : ℕ} → Puts out out' at to (line_bytes (line_in old new c i)) → Putting old new out₀ x y out' to
    put-line u =
        let l = line_in old new c i in
        record {
          ready = s.further.ready;
          before = m.before ++ line_bytes l;
          puts = puts_then m.puts u;
          rest =
              m.rest
              ∙ (ap (λ (w : List ℕ). m.before ++ w) (lines-first l s.lines) ∙ sym (append_assoc m.before (line_bytes l) (lines_bytes (lines_of old new x y))));
        }

-- ---- the answer

module _ {old new : List ℕ} (p : Sound old) (q : Sound new) (out : List ℕ) where
  abbrev bytes : List ℕ
  bytes = lines_bytes (all_lines old new)

  answer : difference_answer old new out ≡ put_front out bytes
  answer = difference-of (sound-decodes p) (sound-decodes q) out

  pub short-answer : (length bytes ≤ length out → ⊥) → answered (Err NoRoom) out ≡ difference_answer old new out
  short-answer n = sym (answer ∙ rw (lt-ltb (length out) (length bytes) (omega (arith, n))))

  -- there is no line
  pub empty-answer : length bytes ≡ 0 → answered (Ok 0) out ≡ difference_answer old new out
  empty-answer e = sym (answer ∙ none bytes e)
    where
      none : (w : List ℕ) → length w ≡ 0 → put_front out w ≡ record { number = 0; size = 0; output = out }
      none [] e = rw (le-ltb (length out) 0 (omega arith))
      none (x ∷ w) e = absurd (omega arith)

  pub put-answer : length bytes ≤ length out → {out' : List ℕ} {k : ℕ} → Puts out out' 0 k bytes → answered (Ok k) out' ≡ difference_answer old new out
  put-answer h {out'} {k} u =
      let z = puts-front bytes h u in
      sym (answer ∙ rw (le-ltb (length out) (length bytes) h) (sym (λ i. record { number = 0; size = z.0 i; output = z.1 i })))

-- ---- room for any list

live-is : {s : List ℕ} → Sound s → {h : Header} → h ≡ header s → h.live ≡ size (decode s).tree
live-is p e = ap (λ (x : Header). x.live) (e ∙ (sound-decodes p).laid.header)

pub live-few : {s : List ℕ} → Sound s → {h : Header} → h ≡ header s → h.live ≤ 1024
live-few p e = let g = (sound-decodes p).lawful in omega (arith, live-is p e, live-and-free g, g.most)

pub ample : {old new : List ℕ} → Sound old → Sound new → {h g : Header} → h ≡ header old → g ≡ header new → {n : ℕ} → 49 * (h.live + g.live) ≤ n
    → length (lines_bytes (all_lines old new)) ≤ n
ample p q e f l = omega (arith, l, difference-most (sound-decodes p).lawful (sound-decodes q).lawful, live-is p e, live-is q f)
