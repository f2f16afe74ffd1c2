-- The whole that carries the laws: the start has it, and each event keeps it.
use Rattle.std.specs.Prelude.{ℕ, ◌<◌, ◌≤◌, All, AllPairs}
use Rattle.laws.specs.Words.{AreSound, Machine, Entry}
use Rattle.laws.specs.Laws.{LiveAddressesDistinct, WithinHardLimit, DeadlinesAhead}

abbrev pub HasLowerId : Entry → Entry → Type 0
HasLowerId e f = e.facts.cid.0 < f.facts.cid.0

-- at least 1, and below the next id
abbrev pub HasGivenId : ℕ → Entry → Type 0
HasGivenId next_id e = (1 ≤ e.facts.cid.0) × (e.facts.cid.0 < next_id)

-- what holds at every moment, in the middle of an event too
pub record IsOrderly (m : Machine) : Type 0 where
  -- the settings are such as the check passes
  pub settings : AreSound m.settings
  -- ids are given from 1 on
  pub next_id : 1 ≤ m.next_id
  -- each connection has an id that was given
  pub ids_given : All (HasGivenId m.next_id) m.connections
  -- connections stand in order of id, so no two have one id
  pub ids_rise : AllPairs HasLowerId m.connections
  -- no two live connections have one address
  pub addresses : LiveAddressesDistinct m

-- what holds after each event
pub record IsSound (m : Machine) : Type 0 where
  pub orderly : IsOrderly m
  pub open orderly use *
  -- no more connections are counted than the hard limit says
  pub counted : WithinHardLimit m
  -- every deadline is above now
  pub deadlines : DeadlinesAhead m
