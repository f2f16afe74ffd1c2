use Rattle.clean_groups.proofs.Placing.{HasKept}
use Rattle.clean_groups.proofs.groups.keep_first.Given as goal

abbrev pub invariant-loop-addr : goal.invariant-loop-addr
invariant-loop-addr l = HasKept l.own l.place l.fn.places l.members l.kept l.places l.addr-index
