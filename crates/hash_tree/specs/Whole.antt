-- What `rebuild` answers: number 0 and the digest where the bytes are exactly one witness, else number 9 and 32 zero bytes.
use Rattle.std.specs.Prelude.{ℕ, ◌≡◌, List, [], ◌∷◌, replicate}
use Rattle.answers.specs.Numbers.{number_of}
use Rattle.answers.specs.Answers.{Digested}
use Rattle.answers.specs.declared.Refusal.TheVariants.{Malformed}
use Rattle.hash_tree.specs.HashTree.{HashTree, Digest, digest}
use Rattle.hash_tree.specs.Written.{write, Lawful, max_depth, digest_len}
use Rattle.hash_tree.specs.Parse.{Parsed, Got, Bad, parse}

abbrev pub accepted : Digest → Digested
accepted d = record { number = 0; digest = d }

abbrev pub refused : Digested
refused = record { number = number_of Malformed; digest = replicate digest_len 0 }

-- one tree, and nothing left
abbrev pub alone : Parsed → Digested
alone (Got t []) = accepted (digest t)
alone (Got t (x ∷ rest)) = refused
alone Bad = refused

unfoldable pub rebuilt : List ℕ → Digested
rebuilt bytes = alone (parse max_depth bytes)

-- what is accepted is the written form of a lawful tree and no byte more, and the digest is that tree's
pub record Accepted (bytes : List ℕ) (r : Digested) : Type 0 where
  pub tree : HashTree
  pub lawful : Lawful max_depth tree
  pub written : bytes ≡ write tree
  pub right : r ≡ accepted (digest tree)
