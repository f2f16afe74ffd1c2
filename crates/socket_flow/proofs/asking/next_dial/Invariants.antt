use Rattle.std.specs.Prelude.{length}
use Rattle.socket_flow.specs.Asks.{HasNoDial}
use Rattle.socket_flow.proofs.asking.next_dial.Given as goal

abbrev pub invariant-loop-key : goal.invariant-loop-key
invariant-loop-key l = HasNoDial l.table l.connecting.items → HasNoDial l.table l.fn.connecting.items

abbrev pub decreases-loop-key : goal.decreases-loop-key
decreases-loop-key l = length l.connecting.items
