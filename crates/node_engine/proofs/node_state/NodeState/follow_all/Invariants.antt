use Rattle.std.proofs.Common.{length, map}
use Rattle.laws.specs.OrderNeeds.{MayFollow}
use Rattle.machine.specs.Govern.{rules}
use Rattle.node_engine.specs.Rules.{orders_by}
use Rattle.node_engine.proofs.Going.{IsGoing}
use Rattle.node_engine.proofs.node_state.NodeState.follow_all.Given as goal

abbrev pub invariant-loop-rest : goal.invariant-loop-rest
invariant-loop-rest g l = record {
  so_far : IsGoing rules (map (orders_by l.word) l.rules) (map (orders_by l.word) l.rest) l.fn.self l.fn.actions l.self l.actions;
  may : MayFollow (map (orders_by l.word) l.rest) l.self;
}

abbrev pub decreases-loop-rest : goal.decreases-loop-rest
decreases-loop-rest g l = length l.rest
