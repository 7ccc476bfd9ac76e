-- What every call has to answer where a test of its code refuses it: the check tries these at each goal.
use Rattle.register_map.proofs.Refusing.{empty-unsound, count-unsound, root-unsound, get-unsound, first-unsound, next-unsound, get-long, next-long}
use Rattle.register_map.proofs.Changing.{insert-unsound, modify-unsound, delete-unsound, insert-long, modify-long, delete-long, insert-long-value, modify-long-value}
use Rattle.register_map.proofs.Witnessing.{as-hash-tree-unsound, keys-unsound, entry-unsound, prefix-unsound, key-range-unsound, value-range-unsound, entry-long, prefix-long, key-range-first, value-range-first, key-range-last, value-range-last}
use Rattle.register_map.proofs.Differing.{old-refused, new-refused}
use Rattle.store.proofs.Replaying.{replay-unsound}

pub ruleset refusals = (empty-unsound, count-unsound, root-unsound, get-unsound, first-unsound, next-unsound, get-long, next-long, insert-unsound, modify-unsound, delete-unsound, insert-long, modify-long, delete-long, insert-long-value, modify-long-value, as-hash-tree-unsound, keys-unsound, entry-unsound, prefix-unsound, key-range-unsound, value-range-unsound, entry-long, prefix-long, key-range-first, value-range-first, key-range-last, value-range-last, old-refused, new-refused, replay-unsound)
