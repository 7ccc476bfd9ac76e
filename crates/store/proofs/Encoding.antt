-- The bytes of a lawful model hold it, and a store that holds a model is the model's bytes: encode and decode are each other's inverse.
use mathlib.Core.Path.{◌≡◌, sym, subst, ◌∙◌}
use mathlib.Core.Bool.{Bool, true, false, cond}
use mathlib.Core.List.{List, [], ◌∷◌, ◌++◌}
use Prim.Native.Nat.{ℕ, zero, suc, ◌≤◌, ◌<◌}
use native.Mathlib.Omega.{arith}
use lib.Dec.{eqb, lit<}
use lib.ListN.{length}
use Rattle.slots.specs.Bits.{Bytes}
use Rattle.slots.specs.Layout.{current, count_in, HeaderFits, SlotFits, free_slot}
use Rattle.slots.proofs.Writing.{length-zeros, node-fits, free-fits}
use Rattle.slots.proofs.Whole.{MarkFits, length-bytes_of, header-bytes_of, slot-bytes_of, mark-bytes_of, is-bytes_of}
use Rattle.hash_tree.proofs.DigestLaws.{empty_hash-length, fork_hash-length, labeled_hash-length}
use Rattle.llrb.specs.Tree.{Entry, Tree, nil, node, entries, size}
use Rattle.llrb.specs.Digests.{subtree_digest}
use Rattle.llrb.proofs.Height.{size-node}
use Rattle.llrb.specs.Path.{Sub, whole, on-left, on-right}
use Rattle.store.specs.Counts.{occurs}
use Rattle.store.specs.Counting.{is-self}
use Rattle.store.specs.Model.{Model, root, head}
use Rattle.store.specs.Sound.{header_in, Short, Lawful, RepresentsIn, SoundIn}
use Rattle.store.specs.Encode.{in_chain, slot_at, mark_at, encode_in}
use Rattle.store.specs.Decode.{decode}
use Rattle.store.proofs.Decoding.{live-and-free, decoded, sound-decodes}
use Rattle.store.proofs.Seats.{sub-left, sub-right, sub-occurs, top-occurs, Seat, missing, seated, seat, Shows, laid_shows, shows-laid, tree-within, chain-within}

-- ---- all fits its field

pub current-fits : current < 16
current-fits = lit< tt

pub subtree-digest-length : (t : Tree) → length (subtree_digest t) ≡ 32
unfolding subtree_digest
subtree-digest-length nil = empty_hash-length
subtree-digest-length (node c e nil nil) = labeled_hash-length e.key _
subtree-digest-length (node c e (node d x m n) nil) = fork_hash-length _ _
subtree-digest-length (node c e nil (node d x m n)) = fork_hash-length _ _
subtree-digest-length (node c e (node b y o p) (node d x m n)) = fork_hash-length _ _

pub short-left : (L M : List Entry) → Short (L ++ M) → Short L
short-left [] M a = tt
short-left (e ∷ L) M a = (a.0, a.1, short-left L M a.2)

pub short-right : (L M : List Entry) → Short (L ++ M) → Short M
short-right [] M a = a
short-right (e ∷ L) M a = short-right L M a.2

-- a count fits 11 bits
count_most : (d n : ℕ) → n < 2048 → count_in d n < 2048
count_most zero n p = lit< tt
count_most (suc zero) n p = lit< tt
count_most (suc (suc d)) n p = p

-- a subtree has no more entries
pub sub-size : {u t : Tree} → Sub u t → size u ≤ size t
sub-size whole = omega arith
sub-size (on-left {c = c} {e = e} {l = l} {r = r} p) = omega (arith, sub-size p, size-node c e l r)
sub-size (on-right {c = c} {e = e} {l = l} {r = r} p) = omega (arith, sub-size p, size-node c e l r)

-- the entries of a subtree are short too
pub sub-short : {u t : Tree} → Sub u t → Short (entries t) → Short (entries u)
sub-short whole a = a
sub-short (on-left {e = e} {l = l} {r = r} p) a = sub-short p (short-left (entries l) (e ∷ entries r) a)
sub-short (on-right {e = e} {l = l} {r = r} p) a = sub-short p (short-right (entries l) (e ∷ entries r) a).2

module _ {m : Model} (g : Lawful m) where
  few : m.capacity < 2048
  few = omega (arith, g.most)

  root-small : (t : Tree) → Sub t m.tree → root t < 2048
  root-small nil u = lit< tt
  root-small (node c e l r) u = let w = tree-within g e.slot (omega (arith, sub-occurs e.slot u, top-occurs c e l r)) in omega (arith, w, g.most)

  head_small : (f : List ℕ) → ((x : ℕ) → occurs x f ≤ occurs x m.free) → head f < 2048
  head_small [] o = lit< tt
  head_small (x ∷ f) o = let w = chain-within g x (omega (arith, o x, is-self x)) in omega (arith, w, g.most)

  header-fits : (e : ℕ) → e < 16 → HeaderFits (header_in e m)
  header-fits e p =
      record {
        edition = p;
        capacity = few;
        live = omega (arith, live-and-free g, g.most);
        root = root-small m.tree whole;
        free = head_small m.free (λ x. omega arith);
        zero = lit< tt;
      }

  chain_fits : (x : ℕ) (f : List ℕ) → ((y : ℕ) → occurs y f ≤ occurs y m.free) → SlotFits (in_chain x f)
  chain_fits x [] o = free-fits 0 (lit< tt)
  chain_fits x (y ∷ f) o = go (eqb x y) (chain_fits x f (λ z. omega (arith, o z)))
    where
      go : (b : Bool) → SlotFits (in_chain x f) → SlotFits (cond b (free_slot (head f)) (in_chain x f))
      go true i = free-fits (head f) (head_small f (λ z. omega (arith, o z)))
      go false i = i

  slot-fits : (x : ℕ) → SlotFits (slot_at m x)
  slot-fits x = at (seat x m.tree)
    where
      at : Seat x m.tree → SlotFits (slot_at m x)
      at (missing z h) = rw h (chain_fits x m.free (λ y. omega arith))
      at (seated c e l r h k u) =
          let a = short-right (entries l) (e ∷ entries r) (sub-short u g.short) in
          rw h (node-fits c e.key e.value (root l) (root r) a.0 a.1 (root-small l (sub-left u)) (root-small r (sub-right u)))

  mark-fits : (d x : ℕ) → MarkFits (mark_at d m x)
  mark-fits d x = at (seat x m.tree)
    where
      at : Seat x m.tree → MarkFits (mark_at d m x)
      at (missing z h) = rw h (record { count = lit< tt; digest = length-zeros 32 })
      at (seated c e l r h k u) =
          rw h (record { count = count_most d (size (node c e l r)) (omega (arith, sub-size u, live-and-free g, g.most)); digest = subtree-digest-length (node c e l r) })

  -- ---- every lawful model has a store, in any edition that 4 bits can say

  pub encode-shows : (e : ℕ) → e < 16 → Shows e (encode_in e m) m
  unfolding encode_in
  encode-shows e p =
      record {
        len = length-bytes_of (header_in e m) m.capacity (slot_at m) (mark_at e m);
        head = header-bytes_of (header_in e m) m.capacity (slot_at m) (mark_at e m) (header-fits e p);
        slots = slot-bytes_of (header_in e m) m.capacity (slot_at m) (mark_at e m) few (λ x p q. slot-fits x) (λ x p q. mark-fits e x);
        marks = mark-bytes_of (header_in e m) m.capacity (slot_at m) (mark_at e m) few (λ x p q. slot-fits x) (λ x p q. mark-fits e x);
      }

  pub encode-holds : (e : ℕ) → e < 16 → RepresentsIn e (encode_in e m) m
  encode-holds e p = record { laid = shows-laid g (encode-shows e p); lawful = g }

  pub encode-sound : (e : ℕ) → e < 16 → SoundIn e (encode_in e m)
  encode-sound e p = (m, encode-holds e p)

  pub decode-encode : (e : ℕ) → e < 16 → decode (encode_in e m) ≡ m
  decode-encode e p = decoded (encode-holds e p)

-- ---- and one only

pub encoded : {e : ℕ} {s : List ℕ} {m : Model} → Bytes s → RepresentsIn e s m → s ≡ encode_in e m
unfolding encode_in
encoded {e} {s} {m} b a =
    let w = laid_shows a.lawful a.laid in
    is-bytes_of m.capacity s (few a.lawful) b w.len (header_in e m) (slot_at m) (mark_at e m) w.head w.slots w.marks

pub bytes_same : {e : ℕ} {s t : List ℕ} {m : Model} → Bytes s → Bytes t → RepresentsIn e s m → RepresentsIn e t m → s ≡ t
bytes_same bs bt a b = encoded bs a ∙ sym (encoded bt b)

pub encode-decode : {e : ℕ} {s : List ℕ} → Bytes s → SoundIn e s → encode_in e (decode s) ≡ s
encode-decode b h = sym (encoded b (sound-decodes h))

-- a store is sound exactly when it is the bytes of a lawful model
pub sound-is : {e : ℕ} {s : List ℕ} → Bytes s → SoundIn e s → (m : Model) × Lawful m × (s ≡ encode_in e m)
sound-is b h = (h.0, h.1.lawful, encoded b h.1)

pub is-sound : {e : ℕ} {s : List ℕ} (m : Model) → e < 16 → Lawful m → s ≡ encode_in e m → SoundIn e s
is-sound {e} m p g q = subst (SoundIn e) (sym q) (encode-sound g e p)
