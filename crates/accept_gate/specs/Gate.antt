-- The limits on counted connections.
use Rattle.std.specs.Prelude.{ℕ, ◌+◌, ◌-◌, ◌*◌, ◌/◌, nat_le, nat_lt, if◌then◌else◌}
use Rattle.accept_gate.specs.declared.gate.Gate.{Gate}
use Rattle.accept_gate.specs.declared.gate.Gate.TheVariants.{Free, Pause, Full}
use Rattle.net_base.specs.declared.settings.Settings.{Settings}

-- the pause where so many connections are counted, the new one among them
abbrev pub pause_of : Settings → ℕ → ℕ
pause_of s counted = s.delay * (counted - s.soft) / (s.hard - s.soft)

-- by how many are counted before the new one
abbrev pub gate_of : Settings → ℕ → Gate
gate_of s count =
    if nat_le s.hard count then Full
    else if nat_lt s.soft (count + 1) then Pause (pause_of s (count + 1))
    else Free
