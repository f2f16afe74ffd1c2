use Rattle.std.proofs.Common.{take}
use Rattle.std.specs.Fmt.{HasWritten, IsPlainFormatter}
use Rattle.std.specs.List.{flat_map}
use Rattle.trace_text.specs.EventTexts.{group_words, spaced}
use Rattle.trace_text.proofs.group_text.GroupTextsDisplay.fmt.Given as goal

abbrev pub invariant-loop-group : goal.invariant-loop-group
invariant-loop-group g l =
    IsPlainFormatter l.fn.f → HasWritten g.W.Write.write_str_gives l.fn.f (flat_map (λ group. spaced (group_words group)) (take l.group-index l.self.0.now)) l.f
