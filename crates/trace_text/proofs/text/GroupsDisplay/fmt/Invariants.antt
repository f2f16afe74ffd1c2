use Rattle.std.proofs.Common.{◌∷◌, get_or, take}
use Rattle.std.specs.Fmt.{HasWritten, IsPlainFormatter}
use Rattle.trace_text.specs.Addresses.{joined_groups}
use Rattle.trace_text.proofs.text.GroupsDisplay.fmt.Given as goal

abbrev pub invariant-loop-group : goal.invariant-loop-group
invariant-loop-group g l =
    IsPlainFormatter l.fn.f → HasWritten g.W.Write.write_str_gives l.fn.f (joined_groups (get_or l.self.0.now 0 0 ∷ take l.group-index l.rest)) l.f
