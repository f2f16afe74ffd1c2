use Rattle.node_engine.proofs.Ends.{grace_due}
use Rattle.node_engine.proofs.node_state.NodeState.fire.Goals as goal

pub grace_over-requires-clause-over : goal.grace_over-requires-clause-over
grace_over-requires-clause-over c = grace_due c.args.deadline c.in-Some.facts c.args.self.now c.requires.orderly c.requires.next c.in-Some.ensures.id c.in-Some.ensures.known c.in-Grace.is
