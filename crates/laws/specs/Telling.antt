-- Whether the actions of a part tell what it does, all of it and nothing else.
use Rattle.std.specs.Prelude.{ℕ, ◌≡◌, ◌≤◌, Option, Some, None}
use Rattle.laws.specs.Words.{Addr, Effect, Machine, Entry, entry_at}
use Rattle.laws.specs.Stages.{stage_at, causes_in, IsOneEnd}
use Rattle.laws.specs.InActions.{closes_in, ends_in, dials_in, dial_promotions_in, given_in, CountUp, AreAt, LeadTo, temp_at, notes_in, noted, is_change, state_at, names_in, is_other_name, same_state}

abbrev pub KeepsAddress : Option Entry → Option Entry → Type 0
KeepsAddress None after = Unit {0}
KeepsAddress (Some e) None = Unit {0}
KeepsAddress (Some e) (Some f) = f.facts.addr ≡ e.facts.addr

-- What becomes of the connection of an id: its names are told, it keeps its address, never goes back, and ends once at most.
pub record GoesOn (cid : ℕ) (before : Machine) (effect : Effect) : Type 0 where
  pub names : LeadTo is_other_name same_state (state_at cid before) (names_in cid effect.actions) (state_at cid effect.machine)
  pub address : KeepsAddress (entry_at cid before) (entry_at cid effect.machine)
  pub forward : stage_at cid before ≤ stage_at cid effect.machine
  pub ends : IsOneEnd (causes_in cid effect.moves) (stage_at cid before) (stage_at cid effect.machine)

pub record IsTold (before : Machine) (effect : Effect) : Type 0 where
  -- what is closed are the ends, with their causes
  pub closes : closes_in effect.actions ≡ ends_in effect.moves
  -- what is dialed are the promotions by dial
  pub dials : dials_in effect.actions ≡ dial_promotions_in effect.moves
  -- each id that is given out is admitted or dialed
  pub given : CountUp before.next_id (given_in effect.actions) effect.machine.next_id
  pub addresses : AreAt (given_in effect.actions) effect.machine
  -- each change of a peer is told
  pub peers : (addr : Addr) → LeadTo is_change noted (temp_at addr before) (notes_in addr effect.actions) (temp_at addr effect.machine)
  -- each change of a connection is told
  pub connections : (cid : ℕ) → GoesOn cid before effect
