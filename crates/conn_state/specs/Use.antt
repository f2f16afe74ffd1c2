-- Who uses a connection, and whether it stands open.
use Rattle.std.specs.Prelude.{ℕ, Bool, true, false, ◌&&◌, ◌||◌, ◌==◌, not, if◌then◌else◌, Option, Some, None, List, find}
use Rattle.conn_state.specs.Protocols.{chain_sync, block_fetch, tx_submission, keep_alive, peer_sharing}
use Rattle.net_base.specs.Address.{same_address}
use Rattle.net_base.specs.declared.address.Addr.{Addr}
use Rattle.net_base.specs.declared.connection.Agreed.{Agreed}
use Rattle.net_base.specs.declared.connection.Facts.{Facts}
use Rattle.net_base.specs.declared.connection.Grace.{Grace}
use Rattle.net_base.specs.declared.connection.Grace.TheVariants.{Off, ForRemote, ForLocal}
use Rattle.net_base.specs.declared.connection.Phase.{Phase}
use Rattle.net_base.specs.declared.connection.Phase.TheVariants.{Dialing, Greeting, Negotiated, Closing}
use Rattle.net_base.specs.declared.connection.Provenance.{Provenance}
use Rattle.net_base.specs.declared.connection.Provenance.TheVariants.{FromRemote, FromLocal}
use Rattle.net_base.specs.declared.connection.Responders.{Responders}

-- the flow that was agreed on: both sides may run protocols
abbrev pub agreed_duplex : Option Agreed → Bool
agreed_duplex None = false
agreed_duplex (Some agreed) = not agreed.initiator_only

-- peer sharing was agreed on
abbrev pub agreed_sharing : Option Agreed → Bool
agreed_sharing None = false
agreed_sharing (Some agreed) = agreed.sharing

abbrev pub is_duplex : Facts → Bool
is_duplex f = agreed_duplex f.agreed

abbrev pub is_outbound_by : Provenance → Bool
is_outbound_by FromRemote = false
is_outbound_by FromLocal = true

abbrev pub is_outbound : Facts → Bool
is_outbound f = is_outbound_by f.provenance

-- remote use: some responder runs
abbrev pub some_runs : Responders → Bool
some_runs r = r.chain_sync || r.block_fetch || r.tx_submission || r.keep_alive || r.peer_sharing

-- chain-sync, block-fetch or tx-submission runs
abbrev pub some_hot_runs : Responders → Bool
some_hot_runs r = r.chain_sync || r.block_fetch || r.tx_submission

abbrev pub none_running : Responders
none_running = record {
  chain_sync = false;
  block_fetch = false;
  tx_submission = false;
  keep_alive = false;
  peer_sharing = false;
}

-- whether the responder of a protocol runs
abbrev pub runs : ℕ → Responders → Bool
runs protocol r =
    if protocol == chain_sync then r.chain_sync
    else if protocol == block_fetch then r.block_fetch
    else if protocol == tx_submission then r.tx_submission
    else if protocol == keep_alive then r.keep_alive
    else if protocol == peer_sharing then r.peer_sharing
    else false

-- the responders after that of a protocol has started or stopped
abbrev pub with_responder : ℕ → Bool → Responders → Responders
with_responder protocol runs_now r =
    if protocol == chain_sync then record r { chain_sync = runs_now }
    else if protocol == block_fetch then record r { block_fetch = runs_now }
    else if protocol == tx_submission then record r { tx_submission = runs_now }
    else if protocol == keep_alive then record r { keep_alive = runs_now }
    else if protocol == peer_sharing then record r { peer_sharing = runs_now }
    else r

-- a connection is live until this side closes it
abbrev pub live_phase : Phase → Bool
live_phase Dialing = true
live_phase (Greeting until) = true
live_phase Negotiated = true
live_phase (Closing until) = false

abbrev pub is_live : Facts → Bool
is_live f = live_phase f.phase

-- the socket is opened or the handshake is under way
abbrev pub opening_phase : Phase → Bool
opening_phase Dialing = true
opening_phase (Greeting until) = true
opening_phase Negotiated = false
opening_phase (Closing until) = false

abbrev pub is_opening : Facts → Bool
is_opening f = opening_phase f.phase

abbrev pub is_dialing_phase : Phase → Bool
is_dialing_phase Dialing = true
is_dialing_phase (Greeting until) = false
is_dialing_phase Negotiated = false
is_dialing_phase (Closing until) = false

abbrev pub is_dialing : Facts → Bool
is_dialing f = is_dialing_phase f.phase

abbrev pub is_greeting_phase : Phase → Bool
is_greeting_phase Dialing = false
is_greeting_phase (Greeting until) = true
is_greeting_phase Negotiated = false
is_greeting_phase (Closing until) = false

abbrev pub is_greeting : Facts → Bool
is_greeting f = is_greeting_phase f.phase

abbrev pub is_negotiated_phase : Phase → Bool
is_negotiated_phase Dialing = false
is_negotiated_phase (Greeting until) = false
is_negotiated_phase Negotiated = true
is_negotiated_phase (Closing until) = false

abbrev pub is_negotiated : Facts → Bool
is_negotiated f = is_negotiated_phase f.phase

abbrev pub is_for_remote : Grace → Bool
is_for_remote Off = false
is_for_remote (ForRemote until) = true
is_for_remote (ForLocal until) = false

abbrev pub is_for_local : Grace → Bool
is_for_local Off = false
is_for_local (ForRemote until) = false
is_for_local (ForLocal until) = true

-- the outbound governor may take the connection into use
abbrev pub is_acquirable : Facts → Bool
is_acquirable f = is_negotiated f && is_duplex f && not f.local && not (is_for_local f.grace)

-- an outbound connection that is on its way: its peer is pending
abbrev pub is_pending : Facts → Bool
is_pending f = is_outbound f && is_opening f

-- the live connection of an address
abbrev pub is_live_at : Addr → Facts → Bool
is_live_at addr f = same_address f.addr addr && is_live f

abbrev pub live_at : Addr → List Facts → Option Facts
live_at addr = find (is_live_at addr)

abbrev pub has_id : ℕ → Facts → Bool
has_id cid f = f.cid.0 == cid

abbrev pub facts_at : ℕ → List Facts → Option Facts
facts_at cid = find (has_id cid)
