use mathlib.Core.Path.{sym}
use native.Mathlib.Nat.{div-one}
use lib.Seq.{sets-eq}
use Rattle.runs.specs.Bits.{fields, octets}
use Rattle.runs.proofs.put_eight.Goals as goal

pub returns : goal.returns
unfolding fields
returns c =
    let a = c.args in
    rw (c.copy_from_slice.ensures.after, c.to_be_bytes.ensures, div-one) (sym (rw div-one at (sets-eq (fields (octets 8) a.h) a.s.now 0 c.requires)))
