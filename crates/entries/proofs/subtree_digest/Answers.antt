-- `entries::subtree_digest` meets its contract.
use mathlib.Core.Path.{◌∙◌}
use Rattle.entries.specs.Digests.{forked, compute_subtree_hash}
use Rattle.entries.proofs.subtree_digest.Goals as goal

pub returns : goal.returns
unfolding compute_subtree_hash
returns c =
    let l = c.left.ensures in
    let r = c.right.ensures in
    let d = c.data_digest-d.ensures in
    c.fork_with.ensures ∙ (λ i. forked c.args.s.now (l i) (r i) (d i))
