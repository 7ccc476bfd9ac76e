-- What the next record of a witness is, and what is left after it.
use Rattle.std.specs.Prelude.{◌≡◌, ◌↔◌, IsTrue, ◌+◌, length, drop, slice_range, Option, Some, None}
use Rattle.hash_tree.specs.declared.Kind.TheVariants.{Labeled}
use Rattle.hash_tree.specs.Record.{record_of, a_record, place_after}
use Rattle.witness_reader.specs.declared.Records.{Records}
use Rattle.witness_reader.specs.declared.Shown.{Shown}

-- the record x stands at the place of s, with its own bytes; after it stands what t goes on with, under a label if x is one
pub record Stands (s : Records) (x : Shown) (t : Records) : Type 0 where
  pub at : x.at ≡ s.at
  pub whole : record_of (drop s.at s.src.now) ≡ a_record x.kind (length x.bytes.now)
  pub bytes : x.bytes.now ≡ slice_range s.src.now (s.at + 2) x.end
  pub labeled : x.labeled ≡ s.labeled
  pub end : x.end ≡ place_after s.src.now s.at
  pub after : t.at ≡ x.end
  pub under : IsTrue t.labeled ↔ (x.kind ≡ Labeled)

-- one step: the record that stands at the place; or none stands there, and nothing changes
abbrev pub StepsTo : Records → Option Shown → Records → Type 0
StepsTo s (Some x) t = (t.src ≡ s.src) × Stands s x t
StepsTo s None t = (record_of (drop s.at s.src.now) ≡ None) × (t ≡ s)
