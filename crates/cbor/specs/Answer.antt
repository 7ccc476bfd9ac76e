-- What writing a witness in CBOR, and reading one, answers. Document 02, Q-9: 9 where the bytes are not exactly one witness, 12 where they are
-- not the CBOR of exactly one; then 6 where there is no room; else 0, the length, and the other form at the front of the output.
-- A refusal has the length 0 and changes no byte.
use Rattle.std.specs.Prelude.{ℕ, List, [], ◌∷◌}
use Rattle.answers.specs.Numbers.{refused}
use Rattle.answers.specs.declared.Refusal.{Refusal}
use Rattle.answers.specs.declared.Refusal.TheVariants.{Malformed, NotCbor}
use Rattle.answers.specs.Answers.{written}
use Rattle.hash_tree.specs.HashTree.{HashTree}
use Rattle.hash_tree.specs.Written.{write, max_depth}
use Rattle.hash_tree.specs.Parse.{Parsed, Got, Bad, parse}
use Rattle.hash_tree.specs.Form.{parse_by}
use Rattle.cbor.specs.Cbor.{cbor_form, cbor}
pub use Rattle.answers.specs.Answers.{Written, answered, put_front}

-- a tree and nothing left, put anew; else a refusal
abbrev pub anew : Refusal → (HashTree → List ℕ) → (out : List ℕ) → Parsed → Written
anew n form out (Got t []) = put_front out (form t)
anew n form out (Got t (x ∷ rest)) = written out (refused n)
anew n form out Bad = written out (refused n)

unfoldable pub cbor_written : (bytes out : List ℕ) → Written
cbor_written bytes out = anew Malformed cbor out (parse max_depth bytes)

unfoldable pub cbor_read : (bytes out : List ℕ) → Written
cbor_read bytes out = anew NotCbor write out (parse_by cbor_form max_depth bytes)
