-- Connections that this node dials or takes into use.
use Rattle.std.specs.Prelude.{[], ◌∷◌, true, codes}
use Rattle.net_base.specs.declared.action.Action.TheVariants.{Admit, Dial, Send, Close, State, Peer}
use Rattle.net_base.specs.declared.action.CloseCause.TheVariants.{Unused, Fault}
use Rattle.net_base.specs.declared.action.FaultKind.TheVariants.{ReplyWait}
use Rattle.net_base.specs.declared.action.PeerNote.TheVariants as note
use Rattle.net_base.specs.declared.action.StateName.TheVariants as state
use Rattle.net_base.specs.declared.event.Event.TheVariants.{Now, Govern, Accepted, Dialed, Bytes, Locals}
use Rattle.machine.specs.Traces.{Trace, brings, usual, node, cid, group, bytes_of}

-- a peer is dialed, used, given up and forgotten
abbrev pub outbound_duplex_life : Trace
outbound_duplex_life = record {
  settings = usual;
  happenings =
      brings (Locals (group 0 1 true (node 3002 ∷ []) ∷ [])) (Peer (node 3002) note.Known ∷ [])
      ∷ brings (Govern 0) (Dial (cid 1) (node 3002) ∷ State (cid 1) state.ReservedOutbound ∷ [])
      ∷ brings (Dialed (cid 1) true) (
      State (cid 1) state.UnnegotiatedOutbound
      ∷ Send (cid 1) (bytes_of (codes "00000000000000118200a20d84182af401f40e84182af401f4"))
      ∷ [])
      ∷ brings (Bytes (cid 1) (bytes_of (codes "000000008000000983010e84182af401f4"))) (
      State (cid 1) state.OutboundDupTicking
      ∷ Peer (node 3002) note.Warm
      ∷ Send (cid 1) (bytes_of (codes "0000000000080003820001"))
      ∷ [])
      ∷ brings (Bytes (cid 1) (bytes_of (codes "0000000080080003820101"))) []
      ∷ brings (Now 5000) (State (cid 1) state.OutboundDupExpired ∷ [])
      ∷ brings (Now 6000) []
      ∷ brings (Locals []) []
      ∷ brings (Govern 0) (
      Send (cid 1) (bytes_of (codes "005b8d80000a00028102"))
      ∷ Send (cid 1) (bytes_of (codes "005b8d80000800028102"))
      ∷ State (cid 1) state.OutboundIdle
      ∷ Peer (node 3002) note.Cold
      ∷ [])
      ∷ brings (Now 11000) (Close (cid 1) Unused ∷ State (cid 1) state.Terminating ∷ [])
      ∷ brings (Now 71000) (State (cid 1) state.Terminated ∷ [])
      ∷ brings (Govern 0) (Peer (node 3002) note.Forgotten ∷ [])
      ∷ [];
}

-- it is given up while the other side may still use it
abbrev pub outbound_release_within_grace : Trace
outbound_release_within_grace = record {
  settings = usual;
  happenings =
      brings (Locals (group 0 1 true (node 3002 ∷ []) ∷ [])) (Peer (node 3002) note.Known ∷ [])
      ∷ brings (Govern 0) (Dial (cid 1) (node 3002) ∷ State (cid 1) state.ReservedOutbound ∷ [])
      ∷ brings (Dialed (cid 1) true) (
      State (cid 1) state.UnnegotiatedOutbound
      ∷ Send (cid 1) (bytes_of (codes "00000000000000118200a20d84182af401f40e84182af401f4"))
      ∷ [])
      ∷ brings (Bytes (cid 1) (bytes_of (codes "000000008000000983010e84182af401f4"))) (
      State (cid 1) state.OutboundDupTicking
      ∷ Peer (node 3002) note.Warm
      ∷ Send (cid 1) (bytes_of (codes "0000000000080003820001"))
      ∷ [])
      ∷ brings (Bytes (cid 1) (bytes_of (codes "0000000080080003820101"))) []
      ∷ brings (Now 4000) []
      ∷ brings (Locals []) []
      ∷ brings (Govern 0) (
      Send (cid 1) (bytes_of (codes "003d0900000a00028102"))
      ∷ Send (cid 1) (bytes_of (codes "003d0900000800028102"))
      ∷ State (cid 1) state.InboundIdle
      ∷ Peer (node 3002) note.Cold
      ∷ [])
      ∷ brings (Now 5000) (Close (cid 1) Unused ∷ State (cid 1) state.Terminating ∷ [])
      ∷ [];
}

-- a connection that a peer dialed is taken into use
abbrev pub inbound_reused_outbound : Trace
inbound_reused_outbound = record {
  settings = usual;
  happenings =
      brings (Accepted (node 3002)) (Admit (cid 1) (node 3002) ∷ State (cid 1) state.UnnegotiatedInbound ∷ [])
      ∷ brings (Bytes (cid 1) (bytes_of (codes "00000000000000118200a20d84182af401f40e84182af401f4"))) (
      Send (cid 1) (bytes_of (codes "000000008000000983010e84182af401f4"))
      ∷ State (cid 1) state.InboundIdle
      ∷ [])
      ∷ brings (Locals (group 0 1 true (node 3002 ∷ []) ∷ [])) (Peer (node 3002) note.Known ∷ [])
      ∷ brings (Govern 0) (
      State (cid 1) state.OutboundDupTicking
      ∷ Peer (node 3002) note.Warm
      ∷ Send (cid 1) (bytes_of (codes "0000000000080003820001"))
      ∷ [])
      ∷ brings (Now 5000) (State (cid 1) state.OutboundDupExpired ∷ [])
      ∷ [];
}

-- taken into use later, it keeps its grace
abbrev pub reuse_keeps_grace : Trace
reuse_keeps_grace = record {
  settings = usual;
  happenings =
      brings (Accepted (node 3002)) (Admit (cid 1) (node 3002) ∷ State (cid 1) state.UnnegotiatedInbound ∷ [])
      ∷ brings (Bytes (cid 1) (bytes_of (codes "00000000000000118200a20d84182af401f40e84182af401f4"))) (
      Send (cid 1) (bytes_of (codes "000000008000000983010e84182af401f4"))
      ∷ State (cid 1) state.InboundIdle
      ∷ [])
      ∷ brings (Now 1000) []
      ∷ brings (Locals (group 0 1 true (node 3002 ∷ []) ∷ [])) (Peer (node 3002) note.Known ∷ [])
      ∷ brings (Govern 0) (
      State (cid 1) state.OutboundDupTicking
      ∷ Peer (node 3002) note.Warm
      ∷ Send (cid 1) (bytes_of (codes "000f424000080003820001"))
      ∷ [])
      ∷ brings (Now 4999) []
      ∷ brings (Now 5000) (State (cid 1) state.OutboundDupExpired ∷ [])
      ∷ [];
}

-- a reply does not come, and the grace is over before that
abbrev pub reply_wait_after_grace : Trace
reply_wait_after_grace = record {
  settings = usual;
  happenings =
      brings (Locals (group 0 1 true (node 3002 ∷ []) ∷ [])) (Peer (node 3002) note.Known ∷ [])
      ∷ brings (Govern 0) (Dial (cid 1) (node 3002) ∷ State (cid 1) state.ReservedOutbound ∷ [])
      ∷ brings (Dialed (cid 1) true) (
      State (cid 1) state.UnnegotiatedOutbound
      ∷ Send (cid 1) (bytes_of (codes "00000000000000118200a20d84182af401f40e84182af401f4"))
      ∷ [])
      ∷ brings (Bytes (cid 1) (bytes_of (codes "000000008000000983010e84182af401f4"))) (
      State (cid 1) state.OutboundDupTicking
      ∷ Peer (node 3002) note.Warm
      ∷ Send (cid 1) (bytes_of (codes "0000000000080003820001"))
      ∷ [])
      ∷ brings (Now 10000) (
      State (cid 1) state.OutboundDupExpired
      ∷ Close (cid 1) (Fault ReplyWait)
      ∷ State (cid 1) state.Terminated
      ∷ Peer (node 3002) note.Cold
      ∷ [])
      ∷ [];
}

-- a warm peer becomes hot, and warm again
abbrev pub hot_and_warm_again : Trace
hot_and_warm_again = record {
  settings = usual;
  happenings =
      brings (Locals (group 0 1 true (node 3002 ∷ []) ∷ [])) (Peer (node 3002) note.Known ∷ [])
      ∷ brings (Govern 0) (Dial (cid 1) (node 3002) ∷ State (cid 1) state.ReservedOutbound ∷ [])
      ∷ brings (Dialed (cid 1) true) (
      State (cid 1) state.UnnegotiatedOutbound
      ∷ Send (cid 1) (bytes_of (codes "00000000000000118200a20d84182af401f40e84182af401f4"))
      ∷ [])
      ∷ brings (Bytes (cid 1) (bytes_of (codes "000000008000000983010e84182af401f4"))) (
      State (cid 1) state.OutboundDupTicking
      ∷ Peer (node 3002) note.Warm
      ∷ Send (cid 1) (bytes_of (codes "0000000000080003820001"))
      ∷ [])
      ∷ brings (Bytes (cid 1) (bytes_of (codes "0000000080080003820101"))) []
      ∷ brings (Locals (group 1 1 true (node 3002 ∷ []) ∷ [])) []
      ∷ brings (Govern 0) (Send (cid 1) (bytes_of (codes "0000000000020003820480")) ∷ [])
      ∷ brings (Bytes (cid 1) (bytes_of (codes "00000000800200058206828000"))) (Peer (node 3002) note.Hot ∷ [])
      ∷ brings (Locals (group 0 1 true (node 3002 ∷ []) ∷ [])) []
      ∷ brings (Govern 0) (Send (cid 1) (bytes_of (codes "00000000000200028107")) ∷ Peer (node 3002) note.Warm ∷ [])
      ∷ [];
}
