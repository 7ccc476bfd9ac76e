-- Every witness of a lawful model can be written, and its bytes rebuild to the root digest; and what a call puts into the output.
use mathlib.Core.Path.{◌≡◌, refl, ap, ◌∙◌}
use mathlib.Core.List.{List, [], ◌∷◌, ◌++◌}
use Prim.Native.Nat.{ℕ, ◌≤◌, ◌<◌}
use native.Mathlib.Omega.{arith}
use lib.ListN.{length, take, drop}
use borrow.Author.Tests.{le-ltb, lt-ltb}
use Rattle.hash_tree.specs.HashTree.{HashTree}
use Rattle.hash_tree.specs.Written as written
use Rattle.hash_tree.specs.Written.{write, depth, max_depth, Lengths}
use Rattle.hash_tree.specs.Whole as whole
use Rattle.hash_tree.proofs.Promises.{accepts}
use Rattle.hash_tree.proofs.DigestLaws.{fork_hash-length, labeled_hash-length, leaf_hash-length}
use Rattle.llrb.specs.Tree.{Entry, Tree, nil, node, entries, size}
use Rattle.llrb.specs.Digests.{root_hash}
use Rattle.llrb.proofs.Height.{height-20}
use Rattle.witness_trees.specs.Shown.{What, Hide, Label, Show, item, shown}
use Rattle.witness_trees.proofs.Shown.{join-cases, node-cases, shown-nil, depth-shown, digest-shown}
use Rattle.witness_trees.specs.Witness.{keys_only, values}
use Rattle.witness_trees.specs.Rules.{keys_of, range_rule, prefix_rule}
use Rattle.witness_trees.proofs.Calls.{as-hash-tree-is, keys-is, witness-is, keys-with-prefix-is, key-range-is, value-range-is}
use Rattle.store.specs.Demand.{WitnessesRebuild}
use Rattle.store.specs.Numbers.{NotSound, Outcome, refused, done}
use Rattle.store.specs.Model.{Model}
use Rattle.store.specs.Sound.{Short, Lawful, Represents}
use Rattle.store.specs.Answers.{Written, fitting}
use Rattle.store.specs.Calls.{witnessed}
use Rattle.store.proofs.Decoding.{live-and-free, on-sound}
use Rattle.store.proofs.Operating.{tree-lawful}
use Rattle.store.proofs.Encoding.{subtree-digest-length, short-left, short-right}

-- ---- what is shown of short entries can be written

item-lengths : (w : What) (e : Entry) → length e.key ≤ 48 → length e.value ≤ 64 → Lengths (item w e)
item-lengths Hide e p q = labeled_hash-length e.key _
item-lengths Label e p q = (p, leaf_hash-length e.value)
item-lengths Show e p q = (p, q)

pub shown-lengths : (f : Entry → What) (t : Tree) → Short (entries t) → Lengths (shown f t)
shown-lengths f nil a = rw (shown-nil f) tt
shown-lengths f (node c e l r) a =
    let p = shown-lengths f l (short-left (entries l) (e ∷ entries r) a) in
    let b = short-right (entries l) (e ∷ entries r) a in
    let q = shown-lengths f r b.2 in
    let k = item-lengths (f e) e b.0 b.1 in
    node-cases Lengths f c e l r (λ h. subtree-digest-length (node c e l r))
    (λ h. join-cases Lengths (shown f l) (item (f e) e) (shown f r)
    (λ x y. k) (λ x y. (p, k)) (λ x y. (k, q)) (λ x y u. fork_hash-length _ _) (λ x y u. (p, fork_hash-length _ _)) (λ x y u. (p, (k, q))))

pub shown-lawful : (f : Entry → What) {m : Model} → Lawful m → written.Lawful max_depth (shown f m.tree)
shown-lawful f {m} g =
    let few : size m.tree ≤ 1024 = omega (arith, live-and-free g, g.most) in
    let low : depth (shown f m.tree) ≤ max_depth = omega (arith, depth-shown f m.tree, height-20 (tree-lawful g) few) in
    (shown-lengths f m.tree g.short, low)

-- so it rebuilds to the root digest
pub shown-rebuilds : (f : Entry → What) {m : Model} → Lawful m → whole.rebuilt (write (shown f m.tree)) ≡ whole.accepted (root_hash m.tree)
shown-rebuilds f {m} g = accepts (shown f m.tree) (shown-lawful f g) ∙ ap whole.accepted (digest-shown f m.tree)

pub witnesses-rebuild : {m : Model} → Lawful m → WitnessesRebuild m.tree
witnesses-rebuild {m} g =
    let t = m.tree in
    let ks = keys_of (entries t) in
    record {
      as_hash_tree = rw (as-hash-tree-is t) (shown-rebuilds (λ e. Show) g);
      keys = rw (keys-is t) (shown-rebuilds (λ e. Label) g);
      witness = λ key. rw (witness-is key t g.ordered) (shown-rebuilds (range_rule key key ks values) g);
      keys_with_prefix = λ prefix. rw (keys-with-prefix-is prefix t g.ordered) (shown-rebuilds (prefix_rule prefix ks) g);
      key_range = λ first last o. rw (key-range-is first last t g.ordered o) (shown-rebuilds (range_rule first last ks keys_only) g);
      value_range = λ first last o. rw (value-range-is first last t g.ordered o) (shown-rebuilds (range_rule first last ks values) g);
    }

-- ---- the output

front : (w out : List ℕ) → take (length w) (w ++ out) ≡ w
front [] out = refl
front (x ∷ w) out = ap {B = List ℕ} (λ (z : List ℕ). x ∷ z) (front w out)

back : (w out : List ℕ) → drop (length w) (w ++ out) ≡ out
back [] out = refl
back (x ∷ w) out = back w out

module _ (make : Model → Outcome HashTree) {s : List ℕ} {m : Model} (t : HashTree) (out : List ℕ) (a : Represents s m) (e : make m ≡ done t) where
  -- a witness that has room: 0, its bytes at the front, and the rest of the output stays
  pub has_room : length (write t) ≤ length out
      → witnessed make s out ≡ record { number = 0; size = length (write t); output = write t ++ drop (length (write t)) out }
  unfolding witnessed fitting
  has_room r = rw (on-sound a make (refused NotSound), e, le-ltb (length out) (length (write t)) r)

  -- a witness that has none: 6, and the output stays
  pub no_room : length out < length (write t) → witnessed make s out ≡ record { number = 6; size = 0; output = out }
  unfolding witnessed fitting
  no_room r = rw (on-sound a make (refused NotSound), e, lt-ltb (length out) (length (write t)) r)

-- the front of the output is the witness, and the rest stays
pub record Fills (t : HashTree) (out : List ℕ) (a : Written) : Type 0 where
  pub number : a.number ≡ 0
  pub size : a.size ≡ length (write t)
  pub bytes : take a.size a.output ≡ write t
  pub rest : drop a.size a.output ≡ drop a.size out

pub fills : (make : Model → Outcome HashTree) {s : List ℕ} {m : Model} (t : HashTree) (out : List ℕ) → Represents s m → make m ≡ done t → length (write t) ≤ length out
    → Fills t out (witnessed make s out)
fills make {s} {m} t out a e r =
    rw (has_room make t out a e r)
    (record { number = refl; size = refl; bytes = front (write t) (drop (length (write t)) out); rest = back (write t) (drop (length (write t)) out) })
