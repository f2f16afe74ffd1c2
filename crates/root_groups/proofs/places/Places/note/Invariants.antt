use Rattle.root_groups.proofs.Placing.{HasNoted}
use Rattle.root_groups.proofs.places.Places.note.Given as goal

abbrev pub invariant-loop-addr : goal.invariant-loop-addr
invariant-loop-addr l = HasNoted l.members l.place l.fn.self l.self l.addr-index
