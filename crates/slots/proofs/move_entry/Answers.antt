use Rattle.slots.proofs.Copying.{key_apart, value-apart, entry-head-fits, entry-moved}
use borrow.Author.Rules.{rules}
use borrow.Author.Rules.{rules}
use Rattle.slots.proofs.move_entry.Goals as goal

pub set_head-requires : goal.set_head-requires
set_head-requires c =
    record { has_slot = c.requires.has_slot; head_fits = entry-head-fits _ c.requires.has_slot c.requires.has_other c.head_of-h.ensures c.head_of-g.ensures }

pub copy_within-requires : goal.copy_within-requires
copy_within-requires c =
    key_apart _ c.args.i c.args.j _ _ (search rules) (search rules) c.requires.apart c.key_at-k.ensures.0 c.key_at-l.ensures.0 c.key_at-k.ensures.1 c.key_at-l.ensures.1

pub copy_within-requires-2 : goal.copy_within-requires-2
copy_within-requires-2 c =
    value-apart _ c.args.i c.args.j _ _ (search rules) (search rules) c.requires.apart c.value_at-v.ensures.0 c.value_at-w.ensures.0 c.value_at-v.ensures.1 c.value_at-w.ensures.1

pub returns : goal.returns
returns c =
    entry-moved _ _ _ _ _ _ _ _ _ _ c.requires.has_slot c.requires.has_other c.head_of-h.ensures c.head_of-g.ensures c.set_head.ensures c.key_at-k.ensures.0 c.key_at-l.ensures.0 c.copy_within.ensures c.value_at-v.ensures.0 c.value_at-w.ensures.0 c.copy_within-2.ensures
