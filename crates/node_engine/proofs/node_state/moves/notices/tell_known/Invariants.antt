use Rattle.std.proofs.Common.{◌≡◌, ◌++◌, take}
use Rattle.node_engine.specs.State.{known_notices}
use Rattle.node_engine.proofs.node_state.moves.notices.tell_known.Given as goal

abbrev pub invariant-loop-addr : goal.invariant-loop-addr
invariant-loop-addr l = l.actions ≡ l.fn.actions ++ known_notices (take l.addr-index l.addrs)
