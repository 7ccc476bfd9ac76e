-- What a call on a store answers, and the bytes that it leaves (crate answers has the rest): where an entry lies, the bytes of what a
-- call made of the model, and a witness at the front of an output.
use Rattle.std.specs.Prelude.{List, ℕ, length}
use Rattle.slots.specs.Layout.{key_at, value_at}
use Rattle.llrb.specs.Tree.{Entry}
use Rattle.hash_tree.specs.HashTree.{HashTree}
use Rattle.hash_tree.specs.Written.{write}
use Rattle.store.specs.Numbers.{number_of, Outcome, refused, done}
use Rattle.store.specs.Model.{Model}
use Rattle.store.specs.Encode.{encode}
use Rattle.answers.specs.Answers.{no_entry, fitted}
pub use Rattle.answers.specs.Answers.{Told, told, Counted, counted, Digested, digested, Found, Changed, changed_of, Written, written}

-- get and iteration: where in the store the key and the value lie, as offsets and lengths
abbrev pub found : (s : List ℕ) → Outcome Entry → Found
found s (refused r) = no_entry (number_of r)
found s (done e) =
    record {
      number = 0;
      key_at = key_at (length s) e.slot;
      key_length = length e.key;
      value_at = value_at (length s) e.slot;
      value_length = length e.value;
    }

-- create, insert, modify, delete
abbrev pub changed : (s : List ℕ) → Outcome Model → Changed
changed s (refused r) = changed_of (number_of r) s
changed s (done m) = changed_of 0 (encode m)

-- the witness's bytes, if the output has room for them
unfoldable pub fitting : (out : List ℕ) → Outcome HashTree → Outcome (List ℕ)
fitting out (refused r) = refused r
fitting out (done t) = fitted out (done (write t))
