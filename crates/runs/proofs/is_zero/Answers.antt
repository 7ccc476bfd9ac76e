use Rattle.std.proofs.Common.{Fits, w8}
use mathlib.Core.Path.{◌≡◌, sym, ◌∙◌}
use Prim.Native.Nat.{ℕ, ◌+◌, ◌-◌, ◌≤◌, ◌<◌}
use native.Mathlib.Nat.{add-sub_cancel_left}
use native.Mathlib.Omega.{arith}
use mathlib.Core.List.{List}
use lib.ListN.{length, get_or, drop}
use lib.Seq.{get_or-drop}
use Rattle.std.proofs.lemmas.List.{get_or-take}
use Rattle.runs.specs.Runs.{part}
use Rattle.runs.proofs.Runs.{part_length}
use Rattle.runs.proofs.Testing.{sum-next, zero_test}
use Rattle.runs.proofs.is_zero.Goals as goal

-- an element of the part is a byte
item : (s : List ℕ) (a n i : ℕ) → a + n ≤ length s → ((k : ℕ) → Fits w8 (get_or s k 0)) → i < length (part a (a + n - a) s) → get_or (part a (a + n - a) s) i 0 < 256
item s a n i p h q =
    let k : a + n - a ≡ n = add-sub_cancel_left a n in
    let l : i < n = omega (arith, rw k at q, part_length a n s p) in
    let e : get_or (part a (a + n - a) s) i 0 ≡ get_or s (a + i) 0 = rw k (get_or-take n (drop a s) i 0 l ∙ get_or-drop a s i 0) in
    rw e (omega (arith, h (a + i)))

pub loop-x-preserved : goal.loop-x-preserved
loop-x-preserved c =
    let a = c.args in
    let b = item a.s.now a.a a.n c.loop-x.x-index c.requires.0 c.type_inv.s c.loop-x-test.true in
    (omega (arith, b, c.loop-x.invariant.0, c.from-sum.ensures), rw (c.loop-x.invariant.1, c.from-sum.ensures) (sym (sum-next _ c.loop-x.x-index c.loop-x-test.true)))

pub returns : goal.returns
returns c =
    let a = c.args in
    let n : a.a + a.n - a.a ≡ a.n = add-sub_cancel_left a.a a.n in
    zero_test _ c.loop-x.x-index _ c.loop-x.sum (part_length a.a a.n a.s.now c.requires.0) (rw n at c.loop-x-test.false) (rw n at c.loop-x.invariant.1)
