use Rattle.std.specs.Prelude.{◌≡◌}
use Rattle.socket_flow.specs.Talk.{MayLose}
use Rattle.socket_flow.proofs.flow.SocketFlow.lose_late.Given as goal

abbrev pub invariant-loop : goal.invariant-loop
invariant-loop l = record { loses : MayLose l.fn.self l.self; turns : l.self.turns ≡ l.fn.self.turns }
