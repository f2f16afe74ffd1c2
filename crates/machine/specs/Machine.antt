-- The record that a node keeps.
use Rattle.std.specs.Prelude.{ℕ, List, [], map, Option, find}
use Rattle.net_base.specs.declared.address.Addr.{Addr}
use Rattle.net_base.specs.declared.connection.Cid.{Cid}
use Rattle.net_base.specs.declared.connection.Facts.{Facts}
use Rattle.net_base.specs.declared.event.Group.{Group}
use Rattle.net_base.specs.declared.peer.Peer.{Peer}
use Rattle.net_base.specs.declared.settings.Settings.{Settings}
use Rattle.net_base.specs.declared.targets.BigTargets.{BigTargets}
use Rattle.net_base.specs.declared.targets.Targets.{Targets}
use Rattle.net_base.specs.Shared.{Undecoded, nothing_undecoded, RootState, first_roots}
use Rattle.conn_state.specs.Counted.{counted}
use Rattle.conn_state.specs.Use.{has_id, is_live_at}

-- a reply that the other side owes: on which protocol, until when, and to what
pub record Owed : Type 0 where
  pub protocol : ℕ
  pub until : ℕ
  -- the cookie that was sent on keep-alive, how many addresses were asked for on peer-sharing, else 0
  pub asked : ℕ

-- a connection
pub record Entry : Type 0 where
  pub facts : Facts
  pub undecoded : Undecoded
  -- in order of protocol, at most one on each
  pub owed : List Owed

pub record Machine : Type 0 where
  pub settings : Settings
  -- milliseconds
  pub now : ℕ
  pub targets : Targets
  pub big_targets : BigTargets
  pub groups : List Group
  pub roots : RootState
  -- in order of id
  pub connections : List Entry
  -- in order of address
  pub peers : List Peer
  pub next_id : ℕ

abbrev pub start_of : Settings → Machine
start_of settings = record {
  settings = settings;
  now = 0;
  targets = record { root = 0; known = 0; established = 0; active = 0 };
  big_targets = record { known = 0; established = 0; active = 0 };
  groups = [];
  roots = first_roots;
  connections = [];
  peers = [];
  next_id = 1;
}

-- a connection of which nothing is known yet but its facts
abbrev pub fresh_entry : Facts → Entry
fresh_entry facts = record { facts = facts; undecoded = nothing_undecoded; owed = [] }

abbrev pub facts_of : Machine → List Facts
facts_of m = map (λ e. e.facts) m.connections

-- how many connections the limits speak of
abbrev pub counted_in : Machine → ℕ
counted_in m = counted (facts_of m)

abbrev pub entry_at : ℕ → Machine → Option Entry
entry_at cid m = find (λ e. has_id cid e.facts) m.connections

abbrev pub live_entry_at : Addr → Machine → Option Entry
live_entry_at addr m = find (λ e. is_live_at addr e.facts) m.connections

abbrev pub next_cid : Machine → Cid
next_cid m = record { 0 = m.next_id }
