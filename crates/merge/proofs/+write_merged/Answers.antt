use borrow.Author.Rules.{rules}
use native.Mathlib.Omega.{arith}
use lib.ListN.{drop}
use mathlib.Core.Path.{◌≡◌, ap, ◌∙◌}
use Rattle.hash_tree.specs.declared.Kind.TheVariants.{Pruned}
use Rattle.hash_tree.specs.Record.{kind_number}
use Rattle.hash_tree.proofs.RecordLaws.{is_fork, is_labeled}
use Rattle.hash_tree.specs.Parse.{parse}
use Rattle.output.proofs.Putting.{puts-length}
use Rattle.merge.proofs.Standing.{is_pruned, stands}
use Rattle.merge.proofs.Writing.{can-pos, can-record, can-record-right, known-one, known-other, end_fits, part_room, pair-cut-room, pair-cut-room-right, pair-cut-wrote, pair-cut-wrote-right, pair-room, pair-first, pair-second, pair-fork-wrote, pair-labeled, pair-labeled-wrote, pair-single-wrote}
use Rattle.merge.proofs.+write_merged.Goals as goal

pub unwrap-mine-requires : goal.unwrap-mine-requires
unwrap-mine-requires t c =
    rw c.record_at.ensures (can-record c.args.out.now c.args.to c.args.depth (drop c.args.at.one c.args.one.now) (parse c.args.depth (drop c.args.at.other c.args.other.now)) c.requires.0)

pub unwrap-theirs-requires : goal.unwrap-theirs-requires
unwrap-theirs-requires t c =
    rw c.record_at-2.ensures (can-record-right c.args.out.now c.args.to c.args.depth (drop c.args.at.other c.args.other.now) (parse c.args.depth (drop c.args.at.one c.args.one.now)) c.requires.0)

pub overflow_add-after : goal.overflow_add-after
overflow_add-after t c =
    let h = known-one c.args.out.now c.args.to c.args.one.now c.args.other.now c.args.at.one c.args.at.other c.args.depth c.requires.0 c.unwrap-mine.result _ c.record_at.ensures c.unwrap-mine.ensures in
    let g = known-other c.args.out.now c.args.to c.args.one.now c.args.other.now c.args.at.one c.args.at.other c.args.depth c.requires.0 c.unwrap-theirs.result _ c.record_at-2.ensures c.unwrap-theirs.ensures in
    omega (arith, h.seen.fits, g.seen.fits)

pub overflow_add-after-2 : goal.overflow_add-after-2
overflow_add-after-2 t c =
    let h = known-one c.args.out.now c.args.to c.args.one.now c.args.other.now c.args.at.one c.args.at.other c.args.depth c.requires.0 c.unwrap-mine.result _ c.record_at.ensures c.unwrap-mine.ensures in
    let g = known-other c.args.out.now c.args.to c.args.one.now c.args.other.now c.args.at.one c.args.at.other c.args.depth c.requires.0 c.unwrap-theirs.result _ c.record_at-2.ensures c.unwrap-theirs.ensures in
    omega (arith, h.seen.fits, g.seen.fits)

pub overflow_add-after-3 : goal.overflow_add-after-3
overflow_add-after-3 t c =
    let h = known-one c.args.out.now c.args.to c.args.one.now c.args.other.now c.args.at.one c.args.at.other c.args.depth c.requires.0 c.unwrap-mine.result _ c.record_at.ensures c.unwrap-mine.ensures in
    let g = known-other c.args.out.now c.args.to c.args.one.now c.args.other.now c.args.at.one c.args.at.other c.args.depth c.requires.0 c.unwrap-theirs.result _ c.record_at-2.ensures c.unwrap-theirs.ensures in
    omega (arith, h.seen.fits, g.seen.fits)

pub overflow_add-after-4 : goal.overflow_add-after-4
overflow_add-after-4 t c =
    let h = known-one c.args.out.now c.args.to c.args.one.now c.args.other.now c.args.at.one c.args.at.other c.args.depth c.requires.0 c.unwrap-mine.result _ c.record_at.ensures c.unwrap-mine.ensures in
    let g = known-other c.args.out.now c.args.to c.args.one.now c.args.other.now c.args.at.one c.args.at.other c.args.depth c.requires.0 c.unwrap-theirs.result _ c.record_at-2.ensures c.unwrap-theirs.ensures in
    omega (arith, h.seen.fits, g.seen.fits)

pub slice_bounds-put_bytes-end : goal.slice_bounds-put_bytes-end
slice_bounds-put_bytes-end t c =
    let e = end_fits c.args.other.now c.args.at.other _ _ (parse c.args.depth (drop c.args.at.other c.args.other.now)) (stands c.args.other.now c.args.depth c.args.at.other) c.tree_at.ensures c.unwrap-end.ensures in
    omega (arith, e.0, e.1)

pub put_bytes-to-requires : goal.put_bytes-to-requires
put_bytes-to-requires t c =
    let kp : c.unwrap-mine.result.kind ≡ Pruned = search rules in
    let h = known-one c.args.out.now c.args.to c.args.one.now c.args.other.now c.args.at.one c.args.at.other c.args.depth c.requires.0 c.unwrap-mine.result _ c.record_at.ensures c.unwrap-mine.ensures in
    let g = known-other c.args.out.now c.args.to c.args.one.now c.args.other.now c.args.at.one c.args.at.other c.args.depth c.requires.0 c.unwrap-theirs.result _ c.record_at-2.ensures c.unwrap-theirs.ensures in
    let e = end_fits c.args.other.now c.args.at.other _ _ (parse c.args.depth (drop c.args.at.other c.args.other.now)) (stands c.args.other.now c.args.depth c.args.at.other) c.tree_at.ensures c.unwrap-end.ensures in
    part_room c.args.other.now c.args.at.other _ c.args.to _ e.0 e.1 (pair-cut-room c.args.one.now c.args.other.now c.args.at.one c.args.at.other c.args.depth _ _ _ _ c.args.to c.args.out.now h g c.requires.0 _ _ (ap kind_number kp) c.tree_at.ensures c.unwrap-end.ensures)

pub returns-then-eq : goal.returns-then-eq
returns-then-eq t c =
    let kp : c.unwrap-mine.result.kind ≡ Pruned = search rules in
    let h = known-one c.args.out.now c.args.to c.args.one.now c.args.other.now c.args.at.one c.args.at.other c.args.depth c.requires.0 c.unwrap-mine.result _ c.record_at.ensures c.unwrap-mine.ensures in
    let g = known-other c.args.out.now c.args.to c.args.one.now c.args.other.now c.args.at.one c.args.at.other c.args.depth c.requires.0 c.unwrap-theirs.result _ c.record_at-2.ensures c.unwrap-theirs.ensures in
    pair-cut-wrote c.args.one.now c.args.other.now c.args.at.one c.args.at.other c.args.depth _ _ _ _ c.args.to c.args.out.now h g c.requires.0 _ _ _ _ (λ i. omega (arith, c.type_inv.other i)) (ap kind_number kp) c.tree_at.ensures c.unwrap-end.ensures c.put_bytes-to.ensures

pub slice_bounds-put_bytes-end-then-eq-2 : goal.slice_bounds-put_bytes-end-then-eq-2
slice_bounds-put_bytes-end-then-eq-2 t c =
    let e = end_fits c.args.one.now c.args.at.one _ _ (parse c.args.depth (drop c.args.at.one c.args.one.now)) (stands c.args.one.now c.args.depth c.args.at.one) c.tree_at-then-eq-2.ensures c.unwrap-end-then-eq-2.ensures in
    omega (arith, e.0, e.1)

pub put_bytes-to-requires-then-eq-2 : goal.put_bytes-to-requires-then-eq-2
put_bytes-to-requires-then-eq-2 t c =
    let fp : c.unwrap-theirs.result.kind ≡ Pruned = search rules in
    let h = known-one c.args.out.now c.args.to c.args.one.now c.args.other.now c.args.at.one c.args.at.other c.args.depth c.requires.0 c.unwrap-mine.result _ c.record_at.ensures c.unwrap-mine.ensures in
    let g = known-other c.args.out.now c.args.to c.args.one.now c.args.other.now c.args.at.one c.args.at.other c.args.depth c.requires.0 c.unwrap-theirs.result _ c.record_at-2.ensures c.unwrap-theirs.ensures in
    let e = end_fits c.args.one.now c.args.at.one _ _ (parse c.args.depth (drop c.args.at.one c.args.one.now)) (stands c.args.one.now c.args.depth c.args.at.one) c.tree_at-then-eq-2.ensures c.unwrap-end-then-eq-2.ensures in
    part_room c.args.one.now c.args.at.one _ c.args.to _ e.0 e.1 (pair-cut-room-right c.args.one.now c.args.other.now c.args.at.one c.args.at.other c.args.depth _ _ _ _ c.args.to c.args.out.now h g c.requires.0 _ _ (ap kind_number fp) c.tree_at-then-eq-2.ensures c.unwrap-end-then-eq-2.ensures)

pub returns-then-eq-2 : goal.returns-then-eq-2
returns-then-eq-2 t c =
    let fp : c.unwrap-theirs.result.kind ≡ Pruned = search rules in
    let h = known-one c.args.out.now c.args.to c.args.one.now c.args.other.now c.args.at.one c.args.at.other c.args.depth c.requires.0 c.unwrap-mine.result _ c.record_at.ensures c.unwrap-mine.ensures in
    let g = known-other c.args.out.now c.args.to c.args.one.now c.args.other.now c.args.at.one c.args.at.other c.args.depth c.requires.0 c.unwrap-theirs.result _ c.record_at-2.ensures c.unwrap-theirs.ensures in
    pair-cut-wrote-right c.args.one.now c.args.other.now c.args.at.one c.args.at.other c.args.depth _ _ _ _ c.args.to c.args.out.now h g c.requires.0 _ _ _ _ (λ i. omega (arith, c.type_inv.one i)) (ap kind_number fp) c.tree_at-then-eq-2.ensures c.unwrap-end-then-eq-2.ensures c.put_bytes-to-then-eq-2.ensures

pub slice_bounds-put_bytes-end-2 : goal.slice_bounds-put_bytes-end-2
slice_bounds-put_bytes-end-2 t c =
    let h = known-one c.args.out.now c.args.to c.args.one.now c.args.other.now c.args.at.one c.args.at.other c.args.depth c.requires.0 c.unwrap-mine.result _ c.record_at.ensures c.unwrap-mine.ensures in
    omega (arith, h.seen.fits)

pub put_bytes-to-requires-2 : goal.put_bytes-to-requires-2
put_bytes-to-requires-2 t c =
    let kn : c.unwrap-mine.result.kind ≡ Pruned → ⊥ = search rules in
    let fn : c.unwrap-theirs.result.kind ≡ Pruned → ⊥ = search rules in
    let h = known-one c.args.out.now c.args.to c.args.one.now c.args.other.now c.args.at.one c.args.at.other c.args.depth c.requires.0 c.unwrap-mine.result _ c.record_at.ensures c.unwrap-mine.ensures in
    let g = known-other c.args.out.now c.args.to c.args.one.now c.args.other.now c.args.at.one c.args.at.other c.args.depth c.requires.0 c.unwrap-theirs.result _ c.record_at-2.ensures c.unwrap-theirs.ensures in
    let r = pair-room c.args.one.now c.args.other.now c.args.at.one c.args.at.other c.args.depth _ _ _ _ c.args.to c.args.out.now h g c.requires.0 (λ z. kn (is_pruned _ z)) (λ z. fn (is_pruned _ z)) in part_room c.args.one.now c.args.at.one _ c.args.to _ (omega arith) (omega (arith, h.seen.fits)) (omega (arith, r))

pub overflow_sub-depth : goal.overflow_sub-depth
overflow_sub-depth t c =
    let pos = can-pos c.args.out.now c.args.to c.args.depth (drop c.args.at.one c.args.one.now) (parse c.args.depth (drop c.args.at.other c.args.other.now)) c.requires.0 in
    omega (arith, pos)

pub overflow_sub-depth-in-Fork : goal.overflow_sub-depth-in-Fork
overflow_sub-depth-in-Fork t c =
    let pos = can-pos c.args.out.now c.args.to c.args.depth (drop c.args.at.one c.args.one.now) (parse c.args.depth (drop c.args.at.other c.args.other.now)) c.requires.0 in
    omega (arith, pos)

pub overflow_sub-depth-in-Labeled : goal.overflow_sub-depth-in-Labeled
overflow_sub-depth-in-Labeled t c =
    let pos = can-pos c.args.out.now c.args.to c.args.depth (drop c.args.at.one c.args.one.now) (parse c.args.depth (drop c.args.at.other c.args.other.now)) c.requires.0 in
    omega (arith, pos)

pub write_merged-l-requires : goal.write_merged-l-requires
write_merged-l-requires t c =
    let kn : c.unwrap-mine.result.kind ≡ Pruned → ⊥ = search rules in
    let fn : c.unwrap-theirs.result.kind ≡ Pruned → ⊥ = search rules in
    let h = known-one c.args.out.now c.args.to c.args.one.now c.args.other.now c.args.at.one c.args.at.other c.args.depth c.requires.0 c.unwrap-mine.result _ c.record_at.ensures c.unwrap-mine.ensures in
    let g = known-other c.args.out.now c.args.to c.args.one.now c.args.other.now c.args.at.one c.args.at.other c.args.depth c.requires.0 c.unwrap-theirs.result _ c.record_at-2.ensures c.unwrap-theirs.ensures in
    let pos = can-pos c.args.out.now c.args.to c.args.depth (drop c.args.at.one c.args.one.now) (parse c.args.depth (drop c.args.at.other c.args.other.now)) c.requires.0 in
    (omega (arith, pos, c.decreases), (pair-first c.args.one.now c.args.other.now c.args.at.one c.args.at.other c.args.depth _ _ _ _ c.args.to c.args.out.now h g c.requires.0 (λ z. kn (is_pruned _ z)) (λ z. fn (is_pruned _ z)) (λ i. omega (arith, c.type_inv.one i)) _ _ c.put_bytes-to-2.ensures (ap kind_number c.in-Fork.is) (puts-length _ c.put_bytes-to-2.ensures), omega (arith, c.requires.1)))

pub write_merged-requires : goal.write_merged-requires
write_merged-requires t c =
    let kn : c.unwrap-mine.result.kind ≡ Pruned → ⊥ = search rules in
    let fn : c.unwrap-theirs.result.kind ≡ Pruned → ⊥ = search rules in
    let h = known-one c.args.out.now c.args.to c.args.one.now c.args.other.now c.args.at.one c.args.at.other c.args.depth c.requires.0 c.unwrap-mine.result _ c.record_at.ensures c.unwrap-mine.ensures in
    let g = known-other c.args.out.now c.args.to c.args.one.now c.args.other.now c.args.at.one c.args.at.other c.args.depth c.requires.0 c.unwrap-theirs.result _ c.record_at-2.ensures c.unwrap-theirs.ensures in
    let pos = can-pos c.args.out.now c.args.to c.args.depth (drop c.args.at.one c.args.one.now) (parse c.args.depth (drop c.args.at.other c.args.other.now)) c.requires.0 in
    (omega (arith, pos, c.decreases), (pair-second c.args.one.now c.args.other.now c.args.at.one c.args.at.other c.args.depth _ _ _ _ c.args.to c.args.out.now h g c.requires.0 (λ z. kn (is_pruned _ z)) (λ z. fn (is_pruned _ z)) (λ i. omega (arith, c.type_inv.one i)) _ _ c.put_bytes-to-2.ensures (ap kind_number c.in-Fork.is) _ _ c.write_merged-l.ensures (c.write_merged-l.auto.out ∙ puts-length _ c.put_bytes-to-2.ensures), omega (arith, c.requires.1)))

pub write_merged-requires-in-Labeled : goal.write_merged-requires-in-Labeled
write_merged-requires-in-Labeled t c =
    let kn : c.unwrap-mine.result.kind ≡ Pruned → ⊥ = search rules in
    let fn : c.unwrap-theirs.result.kind ≡ Pruned → ⊥ = search rules in
    let h = known-one c.args.out.now c.args.to c.args.one.now c.args.other.now c.args.at.one c.args.at.other c.args.depth c.requires.0 c.unwrap-mine.result _ c.record_at.ensures c.unwrap-mine.ensures in
    let g = known-other c.args.out.now c.args.to c.args.one.now c.args.other.now c.args.at.one c.args.at.other c.args.depth c.requires.0 c.unwrap-theirs.result _ c.record_at-2.ensures c.unwrap-theirs.ensures in
    let pos = can-pos c.args.out.now c.args.to c.args.depth (drop c.args.at.one c.args.one.now) (parse c.args.depth (drop c.args.at.other c.args.other.now)) c.requires.0 in
    (omega (arith, pos, c.decreases), (pair-labeled c.args.one.now c.args.other.now c.args.at.one c.args.at.other c.args.depth _ _ _ _ c.args.to c.args.out.now h g c.requires.0 (λ z. kn (is_pruned _ z)) (λ z. fn (is_pruned _ z)) (λ i. omega (arith, c.type_inv.one i)) _ _ c.put_bytes-to-2.ensures (ap kind_number c.in-Labeled.is) (puts-length _ c.put_bytes-to-2.ensures), omega (arith, c.requires.1)))

pub returns-in-Fork : goal.returns-in-Fork
returns-in-Fork t c =
    let kn : c.unwrap-mine.result.kind ≡ Pruned → ⊥ = search rules in
    let fn : c.unwrap-theirs.result.kind ≡ Pruned → ⊥ = search rules in
    let h = known-one c.args.out.now c.args.to c.args.one.now c.args.other.now c.args.at.one c.args.at.other c.args.depth c.requires.0 c.unwrap-mine.result _ c.record_at.ensures c.unwrap-mine.ensures in
    let g = known-other c.args.out.now c.args.to c.args.one.now c.args.other.now c.args.at.one c.args.at.other c.args.depth c.requires.0 c.unwrap-theirs.result _ c.record_at-2.ensures c.unwrap-theirs.ensures in
    pair-fork-wrote c.args.one.now c.args.other.now c.args.at.one c.args.at.other c.args.depth _ _ _ _ c.args.to c.args.out.now h g c.requires.0 (λ z. kn (is_pruned _ z)) (λ z. fn (is_pruned _ z)) (λ i. omega (arith, c.type_inv.one i)) _ _ c.put_bytes-to-2.ensures (ap kind_number c.in-Fork.is) _ _ c.write_merged-l.ensures _ _ c.write_merged.ensures

pub returns-in-Labeled : goal.returns-in-Labeled
returns-in-Labeled t c =
    let kn : c.unwrap-mine.result.kind ≡ Pruned → ⊥ = search rules in
    let fn : c.unwrap-theirs.result.kind ≡ Pruned → ⊥ = search rules in
    let h = known-one c.args.out.now c.args.to c.args.one.now c.args.other.now c.args.at.one c.args.at.other c.args.depth c.requires.0 c.unwrap-mine.result _ c.record_at.ensures c.unwrap-mine.ensures in
    let g = known-other c.args.out.now c.args.to c.args.one.now c.args.other.now c.args.at.one c.args.at.other c.args.depth c.requires.0 c.unwrap-theirs.result _ c.record_at-2.ensures c.unwrap-theirs.ensures in
    pair-labeled-wrote c.args.one.now c.args.other.now c.args.at.one c.args.at.other c.args.depth _ _ _ _ c.args.to c.args.out.now h g c.requires.0 (λ z. kn (is_pruned _ z)) (λ z. fn (is_pruned _ z)) (λ i. omega (arith, c.type_inv.one i)) _ _ c.put_bytes-to-2.ensures (ap kind_number c.in-Labeled.is) _ _ c.write_merged-in-Labeled.ensures

pub returns-in_default : goal.returns-in_default
returns-in_default t c =
    let kn : c.unwrap-mine.result.kind ≡ Pruned → ⊥ = search rules in
    let fn : c.unwrap-theirs.result.kind ≡ Pruned → ⊥ = search rules in
    let h = known-one c.args.out.now c.args.to c.args.one.now c.args.other.now c.args.at.one c.args.at.other c.args.depth c.requires.0 c.unwrap-mine.result _ c.record_at.ensures c.unwrap-mine.ensures in
    let g = known-other c.args.out.now c.args.to c.args.one.now c.args.other.now c.args.at.one c.args.at.other c.args.depth c.requires.0 c.unwrap-theirs.result _ c.record_at-2.ensures c.unwrap-theirs.ensures in
    pair-single-wrote c.args.one.now c.args.other.now c.args.at.one c.args.at.other c.args.depth _ _ _ _ c.args.to c.args.out.now h g c.requires.0 (λ z. kn (is_pruned _ z)) (λ z. fn (is_pruned _ z)) (λ i. omega (arith, c.type_inv.one i)) _ _ c.put_bytes-to-2.ensures (λ e. c.in_default.not-Fork (is_fork _ e)) (λ e. c.in_default.not-Labeled (is_labeled _ e))
