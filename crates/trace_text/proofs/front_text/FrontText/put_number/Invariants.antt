use Rattle.std.proofs.Common.{◌+◌, ◌≡◌, ◌≤◌, ◌<◌, ◌++◌, length, decimal, drop}
use Rattle.trace_text.proofs.front_text.FrontText.put_number.Given as goal

-- the last digits stand, and what is left of the number has room in front of them
abbrev pub invariant-loop-rest : goal.invariant-loop-rest
invariant-loop-rest l =
    (decimal l.rest ++ drop (l.start + 1) l.self-inside.bytes ≡ decimal l.number ++ drop l.initial.self-inside.start l.initial.self-inside.bytes)
    × (length (decimal l.rest) ≤ l.start + 1)
    × (l.start < 24)
    × (length l.self-inside.bytes ≡ 24)

abbrev pub decreases-loop-rest : goal.decreases-loop-rest
decreases-loop-rest l = l.rest
