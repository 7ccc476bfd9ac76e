use Rattle.llrb.specs.Tree.{Tree}
use Rattle.llrb.specs.Panic.{and_then, balance₁_p, balance₂_p, balance₃_p, balance_p}
use Rattle.rb_balance.proofs.Balancing.{seq, can-first, can-next}
use Rattle.rb_balance.proofs.balance.Goals as goal

pub balance_1-a-requires : goal.balance_1-a-requires
unfolding balance_p
balance_1-a-requires c =
    can-first balance₁_p balance₂_p (can-first (λ (t : Tree). and_then (balance₁_p t) balance₂_p) balance₃_p c.requires)

pub balance_2-b-requires : goal.balance_2-b-requires
unfolding balance_p
balance_2-b-requires c =
    can-next c.balance_1-a.ensures (can-first (λ (t : Tree). and_then (balance₁_p t) balance₂_p) balance₃_p c.requires)

pub balance_3-requires : goal.balance_3-requires
unfolding balance_p
balance_3-requires c =
    can-next (seq c.balance_1-a.ensures c.balance_2-b.ensures) c.requires

pub returns : goal.returns
unfolding balance_p
returns c =
    seq (seq c.balance_1-a.ensures c.balance_2-b.ensures) c.balance_3.ensures
