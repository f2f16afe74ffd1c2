-- Handshakes of peers that connect.
use Rattle.std.specs.Prelude.{[], ◌∷◌, codes}
use Rattle.net_base.specs.declared.action.Action.TheVariants.{Admit, Send, Close, State}
use Rattle.net_base.specs.declared.action.CloseCause.TheVariants.{Refused, Query, Fault}
use Rattle.net_base.specs.declared.action.FaultKind.TheVariants.{Malformed, Protocol, UnknownId, HandshakeWait}
use Rattle.net_base.specs.declared.action.StateName.TheVariants as state
use Rattle.net_base.specs.declared.event.Event.TheVariants.{Now, Accepted, Bytes}
use Rattle.machine.specs.Traces.{Trace, brings, usual, node, cid, bytes_of}

-- a proposal is accepted, with the greatest version
abbrev pub inbound_duplex_accept : Trace
inbound_duplex_accept = record {
  settings = usual;
  happenings =
      brings (Accepted (node 3002)) (Admit (cid 1) (node 3002) ∷ State (cid 1) state.UnnegotiatedInbound ∷ [])
      ∷ brings (Bytes (cid 1) (bytes_of (codes "00000000000000118200a20d84182af401f40e84182af401f4"))) (
      Send (cid 1) (bytes_of (codes "000000008000000983010e84182af401f4"))
      ∷ State (cid 1) state.InboundIdle
      ∷ [])
      ∷ [];
}

-- no version is common
abbrev pub inbound_no_common_version : Trace
inbound_no_common_version = record {
  settings = usual;
  happenings =
      brings (Accepted (node 3002)) (Admit (cid 1) (node 3002) ∷ State (cid 1) state.UnnegotiatedInbound ∷ [])
      ∷ brings (Bytes (cid 1) (bytes_of (codes "00000000000000068200a1186380"))) (
      Send (cid 1) (bytes_of (codes "000000008000000782028200820d0e"))
      ∷ Close (cid 1) Refused
      ∷ State (cid 1) state.Terminated
      ∷ [])
      ∷ [];
}

-- another network
abbrev pub inbound_other_magic : Trace
inbound_other_magic = record {
  settings = usual;
  happenings =
      brings (Accepted (node 3002)) (Admit (cid 1) (node 3002) ∷ State (cid 1) state.UnnegotiatedInbound ∷ [])
      ∷ brings (Bytes (cid 1) (bytes_of (codes "00000000000000118200a20d84182bf401f40e84182bf401f4"))) (
      Send (cid 1) (bytes_of (codes "000000008000001b820283020e756e6574776f726b206d616769632064696666657273"))
      ∷ Close (cid 1) Refused
      ∷ State (cid 1) state.Terminated
      ∷ [])
      ∷ [];
}

-- a peer only asks for the versions
abbrev pub inbound_query : Trace
inbound_query = record {
  settings = usual;
  happenings =
      brings (Accepted (node 3002)) (Admit (cid 1) (node 3002) ∷ State (cid 1) state.UnnegotiatedInbound ∷ [])
      ∷ brings (Bytes (cid 1) (bytes_of (codes "00000000000000118200a20d84182af401f50e84182af401f5"))) (
      Send (cid 1) (bytes_of (codes "00000000800000118203a20d84182af401f40e84182af401f4"))
      ∷ Close (cid 1) Query
      ∷ State (cid 1) state.Terminated
      ∷ [])
      ∷ [];
}

-- a handshake takes too long
abbrev pub handshake_wait_inbound : Trace
handshake_wait_inbound = record {
  settings = usual;
  happenings =
      brings (Accepted (node 3002)) (Admit (cid 1) (node 3002) ∷ State (cid 1) state.UnnegotiatedInbound ∷ [])
      ∷ brings (Now 10000) (Close (cid 1) (Fault HandshakeWait) ∷ State (cid 1) state.Terminated ∷ [])
      ∷ [];
}

-- a break alone is no item
abbrev pub greeting_break_alone : Trace
greeting_break_alone = record {
  settings = usual;
  happenings =
      brings (Accepted (node 3002)) (Admit (cid 1) (node 3002) ∷ State (cid 1) state.UnnegotiatedInbound ∷ [])
      ∷ brings (Bytes (cid 1) (bytes_of (codes "0000000000000001ff"))) (Close (cid 1) (Fault Malformed) ∷ State (cid 1) state.Terminated ∷ [])
      ∷ [];
}

-- an item that is no message
abbrev pub greeting_no_message : Trace
greeting_no_message = record {
  settings = usual;
  happenings =
      brings (Accepted (node 3002)) (Admit (cid 1) (node 3002) ∷ State (cid 1) state.UnnegotiatedInbound ∷ [])
      ∷ brings (Bytes (cid 1) (bytes_of (codes "000000000000000101"))) (Close (cid 1) (Fault Malformed) ∷ State (cid 1) state.Terminated ∷ [])
      ∷ [];
}

-- a protocol number that is none
abbrev pub greeting_unknown_protocol : Trace
greeting_unknown_protocol = record {
  settings = usual;
  happenings =
      brings (Accepted (node 3002)) (Admit (cid 1) (node 3002) ∷ State (cid 1) state.UnnegotiatedInbound ∷ [])
      ∷ brings (Bytes (cid 1) (bytes_of (codes "0000000000050000"))) (Close (cid 1) (Fault UnknownId) ∷ State (cid 1) state.Terminated ∷ [])
      ∷ [];
}

-- the responder's side
abbrev pub greeting_wrong_side : Trace
greeting_wrong_side = record {
  settings = usual;
  happenings =
      brings (Accepted (node 3002)) (Admit (cid 1) (node 3002) ∷ State (cid 1) state.UnnegotiatedInbound ∷ [])
      ∷ brings (Bytes (cid 1) (bytes_of (codes "000000008000000100"))) (Close (cid 1) (Fault Protocol) ∷ State (cid 1) state.Terminated ∷ [])
      ∷ [];
}

-- keep-alive before the handshake
abbrev pub greeting_other_protocol : Trace
greeting_other_protocol = record {
  settings = usual;
  happenings =
      brings (Accepted (node 3002)) (Admit (cid 1) (node 3002) ∷ State (cid 1) state.UnnegotiatedInbound ∷ [])
      ∷ brings (Bytes (cid 1) (bytes_of (codes "0000000000080003820007"))) (Close (cid 1) (Fault Protocol) ∷ State (cid 1) state.Terminated ∷ [])
      ∷ [];
}

-- a header that stays cut
abbrev pub greeting_cut_header : Trace
greeting_cut_header = record {
  settings = usual;
  happenings =
      brings (Accepted (node 3002)) (Admit (cid 1) (node 3002) ∷ State (cid 1) state.UnnegotiatedInbound ∷ [])
      ∷ brings (Bytes (cid 1) (bytes_of (codes "00000000000000"))) []
      ∷ brings (Now 10000) (Close (cid 1) (Fault HandshakeWait) ∷ State (cid 1) state.Terminated ∷ [])
      ∷ [];
}
