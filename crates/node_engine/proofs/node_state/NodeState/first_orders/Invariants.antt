use Rattle.std.proofs.Common.{◌≤◌, length}
use Rattle.node_engine.specs.Rules.{orders_by}
use Rattle.node_engine.proofs.RuleSteps.{ArePassed}
use Rattle.node_engine.proofs.node_state.NodeState.first_orders.Given as goal

abbrev pub invariant-loop-rule : goal.invariant-loop-rule
invariant-loop-rule g l = record {
  passed : ArePassed (orders_by l.word) l.rules l.rest l.self;
  few : length l.rest ≤ length l.rules;
}

abbrev pub decreases-loop-rule : goal.decreases-loop-rule
decreases-loop-rule g l = length l.rest
