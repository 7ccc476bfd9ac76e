use Rattle.sha256.specs.State.{end_blocks}
use Rattle.sha256.specs.Hash.{hash_value, digest, sha256}
use Rattle.sha256.proofs.Rows.{fill}
use Rattle.sha256.proofs.Absorbing.{short-is}
use Rattle.sha256_block.specs.declared.Eight.{Eight}
use Rattle.std.proofs.Common.{◌≡◌, ℕ, ◌+◌, [], ◌++◌, length, replicate, refl, ap, ◌∙◌, append_assoc, arith, length-append, rules}
use Rattle.sha256.proofs.short.Goals as goal

pub returns : goal.returns
returns c =
    let A = c.args.a.now in
    let B = c.args.b.now in
    let C = c.args.c.now in
    let o : ℕ = length A + length B + length C in
    let t = c.sealed.result in
    let one = c.copy.ensures ∙ fill (replicate 128 0) [] A 0 refl refl in
    let two = c.copy-2.ensures ∙ fill _ A B (length A) refl one in
    let three = c.copy-3.ensures ∙ fill _ (A ++ B) C (length A + length B) (length-append A B) two in
    let l : length ((A ++ B) ++ C) ≡ o = omega (arith, length-append A B, length-append (A ++ B) C) in
    let long : length t ≡ 128 = search rules in
    let e = c.sealed.ensures ((A ++ B) ++ C) l (omega arith) three in
    c.ended.ensures
    ∙ ap (λ (s : Eight). digest (hash_value s (end_blocks o) t)) c.start.ensures
    ∙ short-is ((A ++ B) ++ C) t o l (omega (arith, c.requires)) long e
    ∙ ap sha256 (append_assoc A B C)
