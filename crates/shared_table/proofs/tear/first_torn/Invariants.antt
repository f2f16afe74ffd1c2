use Rattle.std.proofs.Common.{take}
use Rattle.shared_table.proofs.TearLemmas.{Agree}
use Rattle.shared_table.proofs.tear.first_torn.Given as goal

abbrev pub invariant-loop-entry : goal.invariant-loop-entry
invariant-loop-entry l = Agree (take l.entry-index l.history) l.outs l.ins l.seen
