use Rattle.std.proofs.Common.{◌≡◌, drop}
use Rattle.trace_meaning.specs.Settings.{version_in}
use Rattle.trace_meaning.proofs.head.version_of.Given as goal

-- the lines before say nothing of it
abbrev pub invariant-loop-head : goal.invariant-loop-head
invariant-loop-head l = version_in (drop l.head-index l.heads) ≡ version_in l.heads
