use Rattle.std.proofs.Common.{take}
use Rattle.std.specs.Fmt.{HasWritten, IsPlainFormatter}
use Rattle.std.specs.List.{flat_map}
use Rattle.trace_text.specs.HeadTexts.{ended, set_text_line}
use Rattle.trace_text.proofs.head_text.SetTextsDisplay.fmt.Given as goal

abbrev pub invariant-loop-text : goal.invariant-loop-text
invariant-loop-text g l =
    IsPlainFormatter l.fn.f → HasWritten g.W.Write.write_str_gives l.fn.f (flat_map (λ text. ended (set_text_line text)) (take l.text-index l.self.0.now)) l.f
