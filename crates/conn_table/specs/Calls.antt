-- What each call of a table asks of it, what it makes of it and what it answers. The contracts of the calls cite these, and so does
-- whatever speaks of many calls on a table.
use Rattle.std.specs.Prelude.{ℕ, ◌≡◌, ◌+◌, ◌<◌, ◌≤◌, ◌^◌, true, false, Option, Some, None, IsSomeAnd}
use Rattle.std.specs.Option.{option_map}
use Rattle.net_base.specs.declared.address.Addr.{Addr}
use Rattle.net_base.specs.declared.connection.Agreed.{Agreed}
use Rattle.net_base.specs.declared.connection.Cid.{Cid}
use Rattle.net_base.specs.declared.connection.Facts.{Facts}
use Rattle.conn_state.specs.Counted.{counted}
use Rattle.conn_state.specs.Moves.{connected, released, awakened, idled}
use Rattle.conn_state.specs.Protocols.{has_responder}
use Rattle.conn_state.specs.Use.{facts_at, live_at, is_dialing, is_greeting, runs}
use Rattle.conn_table.specs.Answers.{any_at, acquire_of, after_acquire, lease_of, is_due, grace_end_of}
use Rattle.conn_table.specs.Choices.{negotiated, grace_ended}
use Rattle.conn_table.specs.Conditions.{CanAwake}
use Rattle.conn_table.specs.Table.{Table, with_accepted, with_dialing, with_moved, without}
use Rattle.conn_table.specs.declared.acquire.Acquire.{Acquire}
use Rattle.conn_table.specs.declared.grace_end.GraceEnd.{GraceEnd}

-- ---- what holds of a table

-- moments go up to this one
abbrev pub IsMoment : ℕ → Type 0
IsMoment now = now ≤ 2 ^ 48

-- another id may be given
abbrev pub MayGive : Table → Type 0
MayGive t = t.given < 2 ^ 48

-- no live connection has the address
abbrev pub IsNotLive : Addr → Table → Type 0
IsNotLive addr t = live_at addr t.facts ≡ None

-- no connection has the address, closed or not
abbrev pub IsUnknown : Addr → Table → Type 0
IsUnknown addr t = any_at addr t.facts ≡ false

-- the connection with an id stands, and this side is dialing it
abbrev pub IsDialed : ℕ → Table → Type 0
IsDialed cid t = IsSomeAnd (facts_at cid t.facts) (λ f. is_dialing f ≡ true)

-- it stands, and is in its handshake
abbrev pub IsGreeted : ℕ → Table → Type 0
IsGreeted cid t = IsSomeAnd (facts_at cid t.facts) (λ f. is_greeting f ≡ true)

-- it stands, and is in local use
abbrev pub IsInUse : ℕ → Table → Type 0
IsInUse cid t = IsSomeAnd (facts_at cid t.facts) (λ f. f.local ≡ true)

-- it stands, and is in no local use
abbrev pub IsUnused : ℕ → Table → Type 0
IsUnused cid t = IsSomeAnd (facts_at cid t.facts) (λ f. f.local ≡ false)

-- ---- what each call asks for

pub record CanAdmit (addr : Addr) (now : ℕ) (t : Table) : Type 0 where
  pub not_live : IsNotLive addr t
  pub below_hard : counted t.facts < t.settings.hard
  pub few_given : MayGive t
  pub moment : IsMoment now

pub record CanDial (addr : Addr) (t : Table) : Type 0 where
  pub unknown : IsUnknown addr t
  pub few_given : MayGive t

pub record CanConnect (cid now : ℕ) (t : Table) : Type 0 where
  pub dialed : IsDialed cid t
  pub moment : IsMoment now

pub record CanNegotiate (cid now : ℕ) (t : Table) : Type 0 where
  pub greeted : IsGreeted cid t
  pub moment : IsMoment now

pub record CanRelease (lease now : ℕ) (t : Table) : Type 0 where
  pub in_use : IsInUse lease t
  pub moment : IsMoment now

pub record CanStart (cid protocol : ℕ) (t : Table) : Type 0 where
  pub known : has_responder protocol ≡ true
  pub able : IsSomeAnd (facts_at cid t.facts) (CanAwake protocol)

pub record CanStop (cid protocol now : ℕ) (t : Table) : Type 0 where
  pub running : IsSomeAnd (facts_at cid t.facts) (λ f. runs protocol f.running ≡ true)
  pub moment : IsMoment now

pub record CanEndGrace (cid now : ℕ) (t : Table) : Type 0 where
  pub due : IsSomeAnd (facts_at cid t.facts) (λ f. is_due now f.grace ≡ true)
  pub moment : IsMoment now

abbrev pub CanDrop : ℕ → Table → Type 0
CanDrop cid t = IsUnused cid t

abbrev pub CanDropLeased : ℕ → Table → Type 0
CanDropLeased lease t = IsInUse lease t

-- ---- what it makes of the table

abbrev pub after_admit : Addr → ℕ → Table → Table
after_admit addr now t = with_accepted addr now t

abbrev pub after_dial : Addr → Table → Table
after_dial addr t = with_dialing addr t

abbrev pub after_connect : ℕ → ℕ → Table → Table
after_connect cid now t = with_moved cid (connected (now + t.settings.handshake)) t

abbrev pub after_negotiate : ℕ → Agreed → ℕ → Table → Table
after_negotiate cid agreed now t = with_moved cid (negotiated agreed (now + t.settings.idle)) t

abbrev pub after_acquire_at : Addr → Table → Table
after_acquire_at addr t = after_acquire (acquire_of addr t.facts) t

abbrev pub after_release : ℕ → ℕ → Table → Table
after_release lease now t = with_moved lease (released (now + t.settings.idle)) t

abbrev pub after_awake : ℕ → ℕ → Table → Table
after_awake cid protocol t = with_moved cid (awakened protocol) t

abbrev pub after_idle : ℕ → ℕ → ℕ → Table → Table
after_idle cid protocol now t = with_moved cid (idled protocol (now + t.settings.idle)) t

abbrev pub after_grace : ℕ → ℕ → Table → Table
after_grace cid now t = with_moved cid (grace_ended (now + t.settings.timewait)) t

abbrev pub after_drop : ℕ → Table → Table
after_drop cid t = without cid t

-- ---- what it answers

-- the id that the next connection is given
abbrev pub next_id : Table → Cid
next_id t = record { 0 = t.given + 1 }

abbrev pub lease_at : Option Facts → Option Cid
lease_at None = None
lease_at (Some f) = lease_of f

-- the lease that comes with the end of a handshake
abbrev pub negotiated_lease : ℕ → Table → Option Cid
negotiated_lease cid t = lease_at (facts_at cid t.facts)

-- to the wish to use the connection of an address
abbrev pub acquire_at : Addr → Table → Acquire
acquire_at addr t = acquire_of addr t.facts

-- what becomes of the one whose grace is over, where it stands
abbrev pub grace_end_at : ℕ → Table → Option GraceEnd
grace_end_at cid t = option_map grace_end_of (facts_at cid t.facts)
