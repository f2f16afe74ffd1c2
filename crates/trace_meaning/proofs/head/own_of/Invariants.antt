use Rattle.std.proofs.Common.{◌≡◌, drop}
use Rattle.trace_meaning.specs.Settings.{own_in}
use Rattle.trace_meaning.proofs.head.own_of.Given as goal

-- the lines before say nothing of it
abbrev pub invariant-loop-head : goal.invariant-loop-head
invariant-loop-head l = own_in (drop l.head-index l.heads) ≡ own_in l.heads
