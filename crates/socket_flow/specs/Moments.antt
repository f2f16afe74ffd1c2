-- The moment of a node, and its ticks. All in milliseconds since it was opened.
use Rattle.std.specs.Prelude.{ℕ, ◌+◌, ◌-◌, ◌%◌, ◌^◌, min, max, Bool, nat_le, nat_lt, List, [], ◌∷◌, if◌then◌else◌}
use Rattle.net_base.specs.declared.event.Event.{Event}
use Rattle.net_base.specs.declared.event.Event.TheVariants.{Now}

pub record Times : Type 0 where
  pub moment : ℕ
  -- the last moment that the node was told
  pub told : ℕ
  pub tick : ℕ
  pub next_tick : ℕ

-- it is moment 0, and the first tick comes when one has passed
abbrev pub started : ℕ → Times
started tick = record { moment = 0; told = 0; tick = max tick 1; next_tick = max tick 1 }

-- It is this moment: never an earlier one than before, and none beyond the greatest.
abbrev pub reached : Times → ℕ → Times
reached times moment = record times { moment = max times.moment (min moment (2 ^ 48)) }

-- the node is to be told the moment
abbrev pub is_news : Times → Bool
is_news times = nat_lt times.told times.moment

-- what is told of the moment, once it is this one
abbrev pub moments_told : Times → ℕ → List Event
moments_told times moment = if is_news (reached times moment) then Now (reached times moment).moment ∷ [] else []

abbrev pub after_telling : Times → Times
after_telling times = record times { told = times.moment }

-- a tick has come
abbrev pub is_due : Times → Bool
is_due times = nat_le times.next_tick times.moment

-- the next tick is the first multiple behind the moment: those that nobody looked for are left out
abbrev pub after_tick : Times → Times
after_tick times = record times { next_tick = min (times.moment - times.moment % times.tick + times.tick) (2 ^ 64 - 1) }
