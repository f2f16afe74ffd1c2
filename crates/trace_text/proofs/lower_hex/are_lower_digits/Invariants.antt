use Rattle.std.proofs.Common.{◌≡◌, ◌&&◌, drop}
use Rattle.std.specs.List.{list_all}
use Rattle.trace_text.specs.Events.{is_lower_digit}
use Rattle.trace_text.proofs.lower_hex.are_lower_digits.Given as goal

abbrev pub invariant-loop-digit : goal.invariant-loop-digit
invariant-loop-digit l =
    (l.lower && list_all is_lower_digit (drop l.digit-index l.word)) ≡ list_all is_lower_digit l.word
