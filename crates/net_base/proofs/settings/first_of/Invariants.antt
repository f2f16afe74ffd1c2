use Rattle.std.proofs.Common.{◌≡◌, drop}
use Rattle.net_base.specs.Bounds.{first_failing}
use Rattle.net_base.proofs.settings.first_of.Given as goal

-- the tests passed by change nothing
abbrev pub invariant-loop-field : goal.invariant-loop-field
invariant-loop-field l = first_failing l.tests ≡ first_failing (drop l.field-index l.tests)
