use Rattle.std.specs.Prelude.{ℕ, List, length}
use Rattle.net_base.specs.declared.address.Addr.{Addr}
use Rattle.socket_flow.specs.Peers.{NoneOf, IsNextOf}
use Rattle.socket_flow.proofs.asking.next_caller.Given as goal

abbrev pub invariant-loop-key : goal.invariant-loop-key
invariant-loop-key l = record {
  none : NoneOf l.table l.callers.items → NoneOf l.table l.fn.callers.items;
  next : (key : ℕ) (addr : Addr) (behind : List ℕ) → IsNextOf l.table l.callers.items key addr behind → IsNextOf l.table l.fn.callers.items key addr behind;
}

abbrev pub decreases-loop-key : goal.decreases-loop-key
decreases-loop-key l = length l.callers.items
