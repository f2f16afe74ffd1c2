use Rattle.node_engine.proofs.StreamLemmas.{no_fault}
use Rattle.node_engine.proofs.node_state.NodeState.fail_by.Goals as goal

pub returns-in_default : goal.returns-in_default
returns-in_default c = no_fault c.args.cid c.args.fault c.args.self.now c.args.actions.now c.in_default.is
