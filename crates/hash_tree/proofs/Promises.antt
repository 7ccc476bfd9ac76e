-- What `rebuilt` promises, in words of the format: it accepts the written form of each lawful tree, with its digest, and nothing else.
use Prim.Native.Nat.{ℕ, suc, ◌≤◌}
use mathlib.Core.Path.{◌≡◌, refl, ap, ◌∙◌}
use mathlib.Core.Logic.{◌⊎◌, inl, inr}
use mathlib.Core.List.{List, [], ◌∷◌, ◌++◌, append-nil}
use native.Mathlib.Omega.{arith}
use lib.ListN.{length}
use Rattle.answers.specs.Answers.{Digested}
use Rattle.hash_tree.specs.HashTree.{HashTree, digest}
use Rattle.hash_tree.specs.Written.{write, piece, Lengths, Lawful, max_depth, max_label}
use Rattle.hash_tree.specs.Parse.{Parsed, Got, Bad, parse, Bytes}
use Rattle.hash_tree.specs.Whole.{alone, rebuilt, accepted, refused, Accepted}
use Rattle.hash_tree.proofs.ParseLaws.{parse-write, Read, read, unique}
use Rattle.hash_tree.specs.Deep.{Reaches}
use Rattle.hash_tree.proofs.Deep.{last-fork, last-labeled}

-- a written tree is accepted, with its digest
pub accepts : (t : HashTree) → Lawful max_depth t → rebuilt (write t) ≡ accepted (digest t)
unfolding rebuilt
accepts t h = rw (← append-nil (write t), parse-write max_depth t h [])

found : (s : List ℕ) (z : Parsed) → Read max_depth s z → (alone z).number ≡ 0 → Accepted s (alone z)
found s (Got t []) h e = record { tree = t; lawful = h.1; written = h.0 ∙ append-nil (write t); right = refl }
found s (Got t (x ∷ rest)) h e = absurd (omega arith)
found s Bad h e = absurd (omega arith)

pub sound : (bytes : List ℕ) → Bytes bytes → (rebuilt bytes).number ≡ 0 → Accepted bytes (rebuilt bytes)
unfolding rebuilt
sound s bs e = found s (parse max_depth s) (read max_depth s bs) e

-- the tree is the only one
pub only : (bytes : List ℕ) (r : Digested) (a : Accepted bytes r) (t : HashTree) → Lengths t → bytes ≡ write t → t ≡ a.tree
only bytes r a t h e = unique t a.tree h a.lawful.0 (cc (e, a.written))

-- the answer is one of two
either : (z : Parsed) → ((alone z).number ≡ 0) ⊎ (alone z ≡ refused)
either (Got t []) = inl refl
either (Got t (x ∷ rest)) = inr refl
either Bad = inr refl

pub zero-or-refused : (bytes : List ℕ) → ((rebuilt bytes).number ≡ 0) ⊎ (rebuilt bytes ≡ refused)
unfolding rebuilt
zero-or-refused s = either (parse max_depth s)

-- so 9 says exactly that the bytes are the written form of no lawful tree
pub nine : (bytes : List ℕ) → Bytes bytes
    → ((rebuilt bytes).number ≡ 9 → (t : HashTree) → Lawful max_depth t → bytes ≡ write t → ⊥)
    × (((t : HashTree) → Lawful max_depth t → bytes ≡ write t → ⊥) → (rebuilt bytes).number ≡ 9)
nine bytes h =
    ((λ e t l w. (let a : rebuilt bytes ≡ accepted (digest t) = rw w (accepts t l) in let z : ◌≡◌ {A = ℕ} 9 0 = cc in omega arith)), (λ f. refused-by (zero-or-refused bytes) f))
  where
    refused-by : ((rebuilt bytes).number ≡ 0) ⊎ (rebuilt bytes ≡ refused) → ((t : HashTree) → Lawful max_depth t → bytes ≡ write t → ⊥) → (rebuilt bytes).number ≡ 9
    refused-by (inl e) f = let a = sound bytes h e in absurd (f a.tree a.lawful a.written)
    refused-by (inr e) f = ap (λ (r : Digested). r.number) e

-- a Fork or a Labeled as the last record that the depth allows is refused, whatever follows
pub fork-too-deep : (n : ℕ) → suc n ≡ max_depth → (xs rest : List ℕ) → Reaches n xs (piece 1 [] ++ rest) → rebuilt xs ≡ refused
unfolding rebuilt
fork-too-deep n e xs rest r = rw (← e, last-fork n xs rest r)

pub labeled-too-deep : (n : ℕ) → suc n ≡ max_depth → (xs b rest : List ℕ) → length b ≤ max_label → Reaches n xs (piece 2 b ++ rest) → rebuilt xs ≡ refused
unfolding rebuilt
labeled-too-deep n e xs b rest h r = rw (← e, last-labeled n xs b rest h r)
