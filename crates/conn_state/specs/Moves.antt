-- What each move makes of the facts of a connection. Moments are handed in.
use Rattle.std.specs.Prelude.{ℕ, true, false, ◌||◌, if◌then◌else◌, Some, None}
use Rattle.net_base.specs.declared.address.Addr.{Addr}
use Rattle.net_base.specs.declared.connection.Agreed.{Agreed}
use Rattle.net_base.specs.declared.connection.Facts.{Facts}
use Rattle.net_base.specs.declared.connection.Grace.TheVariants.{Off, ForRemote, ForLocal}
use Rattle.net_base.specs.declared.connection.Phase.{Phase}
use Rattle.net_base.specs.declared.connection.Phase.TheVariants.{Dialing, Greeting, Negotiated, Closing}
use Rattle.net_base.specs.declared.connection.Provenance.{Provenance}
use Rattle.net_base.specs.declared.connection.Provenance.TheVariants.{FromRemote, FromLocal}
use Rattle.conn_state.specs.Use.{none_running, some_runs, with_responder, is_for_remote}

-- a connection before its handshake: nothing is agreed, and nobody uses it
abbrev pub unused_in : Provenance → Phase → ℕ → Addr → Facts
unused_in provenance phase cid addr = record {
  cid = record { 0 = cid };
  addr = addr;
  provenance = provenance;
  phase = phase;
  agreed = None;
  local = false;
  running = none_running;
  grace = Off;
}

-- a peer has connected, and its handshake may take until a moment
abbrev pub accepted : ℕ → Addr → ℕ → Facts
accepted cid addr until = unused_in FromRemote (Greeting until) cid addr

-- this node dials
abbrev pub dialing : ℕ → Addr → Facts
dialing cid addr = unused_in FromLocal Dialing cid addr

-- the dialed socket is open
abbrev pub connected : ℕ → Facts → Facts
connected until f = record f { phase = Greeting until }

-- kept for the other side
abbrev pub agreed_inbound : Agreed → ℕ → Facts → Facts
agreed_inbound agreed until f = record f {
  phase = Negotiated;
  agreed = Some agreed;
  grace = ForRemote until;
}

-- in local use, and the other side has time to use it where it may
abbrev pub agreed_outbound : Agreed → ℕ → Facts → Facts
agreed_outbound agreed until f = record f {
  phase = Negotiated;
  agreed = Some agreed;
  local = true;
  grace = if agreed.initiator_only then Off else ForRemote until;
}

-- the grace stays
abbrev pub acquired : Facts → Facts
acquired f = record f { local = true }

-- Where the other side uses the connection or it is kept for it, the grace stays; else it is kept for this side.
abbrev pub released : ℕ → Facts → Facts
released until f = record f {
  local = false;
  grace = if some_runs f.running || is_for_remote f.grace then f.grace else ForLocal until;
}

-- a responder starts
abbrev pub awakened : ℕ → Facts → Facts
awakened protocol f = record f {
  running = with_responder protocol true f.running;
  grace = Off;
}

-- a responder stops; with the last one the connection is kept for the other side
abbrev pub idled : ℕ → ℕ → Facts → Facts
idled protocol until f =
    let running = with_responder protocol false f.running in
    record f {
      running = running;
      grace = if some_runs running then f.grace else ForRemote until;
    }

-- a grace is over while the connection is in local use
abbrev pub expired : Facts → Facts
expired f = record f { grace = Off }

-- this side has closed
abbrev pub closing : ℕ → Facts → Facts
closing until f = record f {
  phase = Closing until;
  agreed = None;
  local = false;
  running = none_running;
  grace = Off;
}
