use native.Mathlib.Omega.{arith}
use lib.ListN.{length-drop}
use Rattle.hash_tree.proofs.RecordLaws.{number_lt}
use Rattle.cbor.proofs.Reading.{sized-shut, sized-lies}
use Rattle.cbor.proofs.sized_at.Goals as goal

pub returns-then-len-least_len : goal.returns-then-len-least_len
returns-then-len-least_len c =
    let l = rw c.number-number.ensures at c.least_len.ensures in sized-shut _ _ _ (λ h₁ h₂ h₃. omega (arith, l))

pub returns-then-most_len-len : goal.returns-then-most_len-len
returns-then-most_len-len c =
    let m = rw c.number-number.ensures at c.most_len.ensures in sized-shut _ _ _ (λ h₁ h₂ h₃. omega (arith, m))

pub returns-then-s-start : goal.returns-then-s-start
returns-then-s-start c =
    sized-shut _ _ _ (λ h₁ h₂ h₃. omega (arith, length-drop c.args.start c.args.s.now))

pub returns : goal.returns
returns c =
    let l = rw c.number-number.ensures at c.least_len.ensures in let m = rw c.number-number.ensures at c.most_len.ensures in
    sized-lies c.args.s.now c.args.start _ _ (number_lt c.args.kind) (omega (arith, l)) (omega (arith, m)) (omega arith)
