use Rattle.std.proofs.Common.{◌≡◌, ap, sym, ◌∙◌, arith}
use Rattle.std.specs.Slice.Iter.{chunks_rest, chunks_size}
use Rattle.text.proofs.Pairs.{begins, ends, at-one, at_other, at_pair}
use Rattle.text.proofs.hex.pairs.Goals as goal

pub loop-pair-init : goal.loop-pair-init
loop-pair-init c =
    let same = c.into_iter-pair-iterator.ensures.into_iter_gives in
    let e : chunks_rest c.into_iter-pair-iterator.result ≡ c.args.word.now = ap chunks_rest same ∙ c.chunks-pair-items.ensures.rest in
    record { pairs = ap chunks_size same ∙ c.chunks-pair-items.ensures.size; so_far = rw e (begins c.args.word.now _ c.none-few.ensures) }

pub returns-in_default : goal.returns-in_default
returns-in_default c =
    at-one c.loop-pair.invariant.so_far (omega (arith, c.in-Some.ensures.steps.1.1, c.in-Some.ensures.steps.1.2, c.loop-pair.invariant.pairs))

pub returns-in_err-joined : goal.returns-in_err-joined
returns-in_err-joined c =
    c.from_residual.ensures ∙ at_other c.loop-pair.invariant.so_far c.in-Some.pair.now _ c.in-Some.ensures.steps.1.0 (omega arith) (sym c.joined.ensures ∙ c.in_err-joined.was)

pub loop-pair-preserved : goal.loop-pair-preserved
loop-pair-preserved c =
    record {
      pairs = c.in-Some.ensures.steps.0 ∙ c.loop-pair.invariant.pairs;
      so_far = rw c.with-few.ensures (at_pair c.loop-pair.invariant.so_far c.in-Some.pair.now _ c.in-Some.ensures.steps.1.0 (omega arith) _ (sym c.joined.ensures ∙ c.in_ok-joined.was));
    }

pub returns : goal.returns
returns c = ends c.loop-pair.invariant.so_far c.in-None.ensures.steps.1.0
