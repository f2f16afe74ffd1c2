use Rattle.std.proofs.Common.{◌≡◌, Some, IfSome, subst}
use Rattle.std.specs.Option.{option_map}
use Rattle.machine.specs.Machine.{entry_at}
use Rattle.machine.specs.Replies.{reply_on}
use Rattle.machine.specs.Talking.{answered_as}
use Rattle.connections.specs.Owed.{reply_of}
use Rattle.mux_segment.specs.Lent.{lent}
use Rattle.node_engine.proofs.DoesLemmas.{does_other}
use Rattle.node_engine.proofs.Doings.{of_entry}
use Rattle.node_engine.proofs.StreamLemmas.{owed_as, answered-owed}
use Rattle.node_engine.proofs.node_state.NodeState.take_answer.Goals as goal

pub returns-in-Some : goal.returns-in-Some
returns-in-Some c =
    let id = c.args.item.now.id in
    does_other c.take_owed.result c.args.facts.now (answered_as (Some (owed_as id c.in-Some.reply)) (lent c.args.item.now))
    (λ e. answered_as (reply_on id e) (lent c.args.item.now) e)
    c.args.self.now c.take_owed.new.self c.args.actions.now c.args.actions.now c.take_owed.new.actions c.requires
    (λ e is same done. answered-owed (lent c.args.item.now) c.in-Some.reply c.reply.result e
    c.args.self.now c.take_owed.new.self c.args.actions.now c.take_owed.new.actions
    (of_entry (λ x. c.reply.result ≡ option_map reply_of (reply_on id x)) (entry_at c.args.facts.now.cid.0 c.args.self.now) e is
    (subst (λ m. IfSome (entry_at c.args.facts.now.cid.0 m) (λ x. c.reply.result ≡ option_map reply_of (reply_on id x))) c.self.view_is c.reply.ensures))
    c.in-Some.is done)
    c.take_owed.ensures
