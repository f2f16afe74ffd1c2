use Rattle.std.proofs.Common.{drop}
use Rattle.laws.specs.OrderNeeds.{MayAll}
use Rattle.machine.specs.Govern.{carries_out}
use Rattle.node_engine.proofs.Going.{IsGoing}
use Rattle.node_engine.proofs.node_state.NodeState.carry_out_all.Given as goal

abbrev pub invariant-loop-order : goal.invariant-loop-order
invariant-loop-order l = record {
  so_far : IsGoing carries_out l.orders (drop l.order-index l.orders) l.fn.self l.fn.actions l.self l.actions;
  may : MayAll (drop l.order-index l.orders) l.self;
}
