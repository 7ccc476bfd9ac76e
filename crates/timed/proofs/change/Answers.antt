use Prim.Native.Nat.{ℕ}
use mathlib.Core.Path.{sym, ap, ◌∙◌}
use native.Mathlib.Omega.{arith}
use Rattle.store.specs.Answers as answers
use Rattle.register_map.proofs.Changing.{insert-after, modify-after, delete-after}
use Rattle.rb_tree.proofs.Sounding.{insert-sound, change-sound}
use Rattle.timed.specs.Rows.{changed}
use Rattle.timed.proofs.Rowing.{by-delete}
use Rattle.timed.proofs.change.Goals as goal

pub returns-in-0 : goal.returns-in-0
returns-in-0 c =
    let a = c.requires.sound in
    let p = c.requires.lengths in
    let w = c.insert.ensures a.0 a.1 in
    let e = insert-after a _ p.0 _ p.1 (λ k. omega (arith, c.slice_known-1.given k)) c.insert.result w in
    (insert-sound _ _ a c.insert.result w, ap (λ (x : answers.Changed). x.store) e ∙ ap (λ (o : ℕ). changed o c.args.key.now c.args.value.now c.args.s.now) (sym c.in-0.is))

pub returns-in-1 : goal.returns-in-1
returns-in-1 c =
    let a = c.requires.sound in
    let p = c.requires.lengths in
    let w = c.modify.ensures a.0 a.1 in
    let e = modify-after a _ p.0 _ p.1 (λ k. omega (arith, c.slice_known-1.given k)) c.modify.result w in
    (change-sound _ a _ c.modify.result w, ap (λ (x : answers.Changed). x.store) e ∙ ap (λ (o : ℕ). changed o c.args.key.now c.args.value.now c.args.s.now) (sym c.in-1.is))

pub returns-in_default : goal.returns-in_default
returns-in_default c =
    let a = c.requires.sound in
    let w = c.delete.ensures a.0 a.1 in
    let e = delete-after a _ c.requires.lengths.0 (λ k. omega (arith, c.slice_known-1.given k)) c.delete.result w in
    (change-sound _ a _ c.delete.result w, ap (λ (x : answers.Changed). x.store) e ∙ by-delete c.args.op c.args.key.now c.args.value.now c.args.s.now (λ q. omega arith) (λ q. omega arith))
