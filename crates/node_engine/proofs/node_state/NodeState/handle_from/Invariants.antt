use Rattle.std.proofs.Common.{drop}
use Rattle.machine.specs.Stream.{handles}
use Rattle.node_engine.proofs.Going.{IsGoing}
use Rattle.node_engine.proofs.node_state.NodeState.handle_from.Given as goal

abbrev pub invariant-loop-place : goal.invariant-loop-place
invariant-loop-place l = IsGoing (handles l.cid) (drop l.from l.items) (drop l.place l.items) l.initial.self l.initial.actions l.self l.actions
