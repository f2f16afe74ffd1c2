use Rattle.std.proofs.Common.{◌≡◌, drop}
use Rattle.trace_meaning.specs.Settings.{set_in}
use Rattle.trace_meaning.proofs.head.set_at.Given as goal

-- the lines before say nothing of it
abbrev pub invariant-loop-head : goal.invariant-loop-head
invariant-loop-head l = set_in l.place (drop l.head-index l.heads) ≡ set_in l.place l.heads
