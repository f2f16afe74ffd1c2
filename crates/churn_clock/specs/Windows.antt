-- Churn: near the end of every period of 55 minutes first the active target is lowered for a minute, then the
-- established one, and then the known one, so that peers are given up and others take their places.
use Rattle.std.specs.Prelude.{ℕ, ◌-◌, ◌/◌, ◌%◌, Bool, ◌&&◌, ◌||◌, ◌==◌, nat_le, nat_lt, max, if◌then◌else◌}
use Rattle.net_base.specs.declared.targets.Targets.{Targets}
use Rattle.net_base.specs.declared.targets.BigTargets.{BigTargets}

-- a fifth less, and at least one less; nothing is lowered below 0
abbrev pub lowered : ℕ → ℕ
lowered target = target - max 1 (target / 5)

-- how far the period has come
abbrev pub place_of : ℕ → ℕ
place_of moment = moment % 3300000

abbrev pub is_between : ℕ → ℕ → ℕ → Bool
is_between from until place = nat_le from place && nat_lt place until

abbrev pub lowers_active : ℕ → Bool
lowers_active moment = is_between 3120000 3180000 (place_of moment)

abbrev pub lowers_established : ℕ → Bool
lowers_established moment = is_between 3180000 3240000 (place_of moment)

abbrev pub lowers_known : ℕ → Bool
lowers_known moment = is_between 3240000 3300000 (place_of moment)

-- The targets that hold at a moment. Each stays at least as great as the one below it, and the root target stands.
abbrev pub effective_of : Targets → ℕ → Targets
effective_of t moment = record t {
  known = if lowers_known moment then max (lowered t.known) t.established else t.known;
  established = if lowers_established moment then max (lowered t.established) t.active else t.established;
  active = if lowers_active moment then lowered t.active else t.active;
}

-- those of big ledger peers, lowered in the same windows by the same formulas
abbrev pub effective_big_of : BigTargets → ℕ → BigTargets
effective_big_of t moment =
    let all = effective_of (record { root = 0; known = t.known; established = t.established; active = t.active }) moment in
    record { known = all.known; established = all.established; active = all.active }

-- a moment at which one of the three windows begins or ends
abbrev pub is_edge : ℕ → Bool
is_edge moment =
    place_of moment == 0 || place_of moment == 3120000 || place_of moment == 3180000 || place_of moment == 3240000
