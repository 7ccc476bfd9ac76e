use Rattle.runs.proofs.Testing.{decides-yes}
use Rattle.judge.proofs.Testing.{count-of, links-in}
use Rattle.judge.proofs.Store.node_ok.Goals as goal

pub count_ok-requires : goal.count_ok-requires
count_ok-requires c =
    record { links_in = links-in c.args.self.now.s.now c.args.self.now.cap c.args.i c.args.black c.requires.h_value c.args.self.now.sized c.requires.has_slot c.if-self-h.false c.if-self-h-2.false (decides-yes c.is_entry.result c.if-not-is_entry.false c.is_entry.ensures); n_value = count-of c.args.self.now.s.now c.args.self.now.cap c.args.i c.args.black c.requires.h_value }

pub subtree_digest-requires : goal.subtree_digest-requires
subtree_digest-requires c =
    links-in c.args.self.now.s.now c.args.self.now.cap c.args.i c.args.black c.requires.h_value c.args.self.now.sized c.requires.has_slot c.if-self-h.false c.if-self-h-2.false (decides-yes c.is_entry.result c.if-not-is_entry.false c.is_entry.ensures)
