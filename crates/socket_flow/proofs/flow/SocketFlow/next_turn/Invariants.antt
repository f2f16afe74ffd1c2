use Rattle.std.specs.Prelude.{◌≡◌}
use Rattle.socket_flow.specs.Rounds.{HasPassed}
use Rattle.socket_flow.specs.Talk.{KeepsAll}
use Rattle.socket_flow.proofs.flow.SocketFlow.next_turn.Given as goal

abbrev pub invariant-loop : goal.invariant-loop
invariant-loop l = record {
  keeps : KeepsAll l.fn.self l.self;
  unsent : l.self.unsent ≡ l.fn.self.unsent;
  callers : l.self.callers ≡ l.fn.self.callers;
  passed : HasPassed l.self l.fn.self.turns l.self.turns;
}
