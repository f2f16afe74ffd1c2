-- A connection by the type of its state, and what it is after a move whose end the facts decide.
use Rattle.std.specs.Prelude.{if◌then◌else◌}
use Rattle.net_base.specs.declared.connection.Facts.{Facts}
use Rattle.conn_state.specs.Shapes.{IsReservedOutbound, IsUnnegotiated, IsOutboundUni, IsOutboundDup, IsInboundIdle, IsInbound, IsDuplex, IsOutboundIdle, IsTerminating}
use Rattle.conn_state.specs.Use.{is_for_remote, some_runs}
use Rattle.conn_state.specs.declared.after_inbound.AfterInbound.{AfterInbound}
use Rattle.conn_state.specs.declared.after_inbound.AfterInbound.TheVariants as after_inbound
use Rattle.conn_state.specs.declared.after_duplex.AfterDuplex.{AfterDuplex}
use Rattle.conn_state.specs.declared.after_duplex.AfterDuplex.TheVariants as after_duplex
use Rattle.conn_state.specs.declared.released.Released.{Released}
use Rattle.conn_state.specs.declared.released.Released.TheVariants.{ToInboundIdle, ToOutboundIdle}
use Rattle.conn_state.specs.declared.state.ConnState.{ConnState}
use Rattle.conn_state.specs.declared.state.ConnState.TheVariants.{ReservedOutbound, Unnegotiated, OutboundUni, OutboundDup, InboundIdle, Inbound, Duplex, OutboundIdle, Terminating}

-- what is known of a connection
abbrev pub facts_of : ConnState → Facts
facts_of (ReservedOutbound f) = f
facts_of (Unnegotiated f) = f
facts_of (OutboundUni f) = f
facts_of (OutboundDup f) = f
facts_of (InboundIdle f) = f
facts_of (Inbound f) = f
facts_of (Duplex f) = f
facts_of (OutboundIdle f) = f
facts_of (Terminating f) = f

-- what its type says of them
abbrev pub HasShape : ConnState → Type 0
HasShape (ReservedOutbound f) = IsReservedOutbound f
HasShape (Unnegotiated f) = IsUnnegotiated f
HasShape (OutboundUni f) = IsOutboundUni f
HasShape (OutboundDup f) = IsOutboundDup f
HasShape (InboundIdle f) = IsInboundIdle f
HasShape (Inbound f) = IsInbound f
HasShape (Duplex f) = IsDuplex f
HasShape (OutboundIdle f) = IsOutboundIdle f
HasShape (Terminating f) = IsTerminating f

-- released by this side: kept for the other one where its grace still runs, and else for this one
abbrev pub as_released : Facts → Released
as_released f = if is_for_remote f.grace then ToInboundIdle f else ToOutboundIdle f

-- a responder has stopped: the last one, or not
abbrev pub as_after_inbound : Facts → AfterInbound
as_after_inbound f = if some_runs f.running then after_inbound.Still f else after_inbound.Quiet f

abbrev pub as_after_duplex : Facts → AfterDuplex
as_after_duplex f = if some_runs f.running then after_duplex.Still f else after_duplex.Quiet f
