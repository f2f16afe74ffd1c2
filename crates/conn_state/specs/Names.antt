-- The name of a connection's state, as in the Ouroboros network specification's connection manager.
use Rattle.std.specs.Prelude.{ℕ, Bool, true, false, ◌==◌}
use Rattle.net_base.specs.declared.action.StateName.{StateName}
use Rattle.net_base.specs.declared.action.StateName.TheVariants.{ReservedOutbound, UnnegotiatedInbound, UnnegotiatedOutbound, Duplex, OutboundUni, OutboundDupTicking, OutboundDupExpired, Inbound, InboundIdle, OutboundIdle, Terminating, Terminated}
use Rattle.net_base.specs.declared.connection.Facts.{Facts}
use Rattle.net_base.specs.declared.connection.Grace.{Grace}
use Rattle.net_base.specs.declared.connection.Grace.TheVariants.{Off, ForRemote, ForLocal}
use Rattle.net_base.specs.declared.connection.Phase.{Phase}
use Rattle.net_base.specs.declared.connection.Phase.TheVariants.{Dialing, Greeting, Negotiated, Closing}
use Rattle.net_base.specs.declared.connection.Provenance.{Provenance}
use Rattle.net_base.specs.declared.connection.Provenance.TheVariants.{FromRemote, FromLocal}
use Rattle.conn_state.specs.Use.{is_duplex, some_runs}

abbrev pub name_while_greeting : Provenance → StateName
name_while_greeting FromRemote = UnnegotiatedInbound
name_while_greeting FromLocal = UnnegotiatedOutbound

-- in local use alone and duplex: the other side still has time to use it, or had it
abbrev pub name_while_ticking : Grace → StateName
name_while_ticking Off = OutboundDupExpired
name_while_ticking (ForRemote until) = OutboundDupTicking
name_while_ticking (ForLocal until) = OutboundDupExpired

-- in no use: kept for the other side, or for this one
abbrev pub name_while_idle : Grace → StateName
name_while_idle Off = OutboundIdle
name_while_idle (ForRemote until) = InboundIdle
name_while_idle (ForLocal until) = OutboundIdle

-- by local use, remote use and flow
abbrev pub name_in_use : Bool → Bool → Bool → Grace → StateName
name_in_use true true duplex grace = Duplex
name_in_use true false true grace = name_while_ticking grace
name_in_use true false false grace = OutboundUni
name_in_use false true duplex grace = Inbound
name_in_use false false duplex grace = name_while_idle grace

abbrev pub name_in_phase : Phase → Facts → StateName
name_in_phase Dialing f = ReservedOutbound
name_in_phase (Greeting until) f = name_while_greeting f.provenance
name_in_phase Negotiated f = name_in_use f.local (some_runs f.running) (is_duplex f) f.grace
name_in_phase (Closing until) f = Terminating

-- `Terminated` is no entry's name: it is told when an entry goes
abbrev pub name_of : Facts → StateName
name_of f = name_in_phase f.phase f

-- the place of a name in the list of names
abbrev pub name_place : StateName → ℕ
name_place ReservedOutbound = 0
name_place UnnegotiatedInbound = 1
name_place UnnegotiatedOutbound = 2
name_place Duplex = 3
name_place OutboundUni = 4
name_place OutboundDupTicking = 5
name_place OutboundDupExpired = 6
name_place Inbound = 7
name_place InboundIdle = 8
name_place OutboundIdle = 9
name_place Terminating = 10
name_place Terminated = 11

abbrev pub same_name : StateName → StateName → Bool
same_name a b = name_place a == name_place b
