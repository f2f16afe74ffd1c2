use Rattle.shared_table.proofs.CallLemmas.{is_met-tells}
use Rattle.shared_table.proofs.ReplayLemmas.{replayed-push}
use Rattle.shared_table.proofs.shared.Shared.apply.Goals as goal

pub invariant_of-self-2 : goal.invariant_of-self-2
invariant_of-self-2 c =
    rw (c.put.ensures, c.who.ensures, c.in_ok-make_room.ensures.items)
    (replayed-push c.self.inside.history.items c.args.call c.in_ok-reply.reply c.self.inside.leased c.make.new.self c.self.invariant
    c.in_ok-reply.ensures.reply c.in_ok-reply.ensures.table)

pub returns-clause-asked : goal.returns-clause-asked
returns-clause-asked c = is_met-tells c.args.call c.args.self.now.table
