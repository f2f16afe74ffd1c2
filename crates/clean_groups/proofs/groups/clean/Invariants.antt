use Rattle.clean_groups.proofs.Placing.{HasCleaned}
use Rattle.clean_groups.proofs.groups.clean.Given as goal

abbrev pub invariant-loop-group : goal.invariant-loop-group
invariant-loop-group l = HasCleaned l.own l.groups l.list l.places l.group-index
