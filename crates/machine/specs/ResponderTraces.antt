-- What the other side begins, and what it is answered.
use Rattle.std.specs.Prelude.{[], ◌∷◌, codes}
use Rattle.net_base.specs.declared.action.Action.TheVariants.{Admit, Send, Close, State}
use Rattle.net_base.specs.declared.action.CloseCause.TheVariants.{Unused, Fault}
use Rattle.net_base.specs.declared.action.FaultKind.TheVariants.{Protocol}
use Rattle.net_base.specs.declared.action.StateName.TheVariants as state
use Rattle.net_base.specs.declared.event.Event.TheVariants.{Now, Accepted, Bytes}
use Rattle.machine.specs.Traces.{Trace, brings, usual, node, cid, bytes_of}

-- nothing comes in before the grace is over
abbrev pub idle_grace_timer_first : Trace
idle_grace_timer_first = record {
  settings = usual;
  happenings =
      brings (Accepted (node 3002)) (Admit (cid 1) (node 3002) ∷ State (cid 1) state.UnnegotiatedInbound ∷ [])
      ∷ brings (Bytes (cid 1) (bytes_of (codes "00000000000000118200a20d84182af401f40e84182af401f4"))) (
      Send (cid 1) (bytes_of (codes "000000008000000983010e84182af401f4"))
      ∷ State (cid 1) state.InboundIdle
      ∷ [])
      ∷ brings (Now 5000) (Close (cid 1) Unused ∷ State (cid 1) state.Terminating ∷ [])
      ∷ brings (Bytes (cid 1) (bytes_of (codes "0000000000080003820007"))) []
      ∷ brings (Now 65000) (State (cid 1) state.Terminated ∷ [])
      ∷ [];
}

-- a keep-alive comes in one millisecond before
abbrev pub idle_grace_bytes_first : Trace
idle_grace_bytes_first = record {
  settings = usual;
  happenings =
      brings (Accepted (node 3002)) (Admit (cid 1) (node 3002) ∷ State (cid 1) state.UnnegotiatedInbound ∷ [])
      ∷ brings (Bytes (cid 1) (bytes_of (codes "00000000000000118200a20d84182af401f40e84182af401f4"))) (
      Send (cid 1) (bytes_of (codes "000000008000000983010e84182af401f4"))
      ∷ State (cid 1) state.InboundIdle
      ∷ [])
      ∷ brings (Now 4999) []
      ∷ brings (Bytes (cid 1) (bytes_of (codes "0000000000080003820007"))) (
      State (cid 1) state.Inbound
      ∷ Send (cid 1) (bytes_of (codes "004c475880080003820107"))
      ∷ [])
      ∷ brings (Now 5000) []
      ∷ [];
}

-- chain-sync meets an empty chain, and is done
abbrev pub inbound_empty_chain : Trace
inbound_empty_chain = record {
  settings = usual;
  happenings =
      brings (Accepted (node 3002)) (Admit (cid 1) (node 3002) ∷ State (cid 1) state.UnnegotiatedInbound ∷ [])
      ∷ brings (Bytes (cid 1) (bytes_of (codes "00000000000000118200a20d84182af401f40e84182af401f4"))) (
      Send (cid 1) (bytes_of (codes "000000008000000983010e84182af401f4"))
      ∷ State (cid 1) state.InboundIdle
      ∷ [])
      ∷ brings (Bytes (cid 1) (bytes_of (codes "0000000000020003820480"))) (
      State (cid 1) state.Inbound
      ∷ Send (cid 1) (bytes_of (codes "00000000800200058206828000"))
      ∷ [])
      ∷ brings (Bytes (cid 1) (bytes_of (codes "00000000000200028107"))) (State (cid 1) state.InboundIdle ∷ [])
      ∷ [];
}

-- a keep-alive and its end in one segment
abbrev pub keep_alive_and_done_in_one_segment : Trace
keep_alive_and_done_in_one_segment = record {
  settings = usual;
  happenings =
      brings (Accepted (node 3002)) (Admit (cid 1) (node 3002) ∷ State (cid 1) state.UnnegotiatedInbound ∷ [])
      ∷ brings (Bytes (cid 1) (bytes_of (codes "00000000000000118200a20d84182af401f40e84182af401f4"))) (
      Send (cid 1) (bytes_of (codes "000000008000000983010e84182af401f4"))
      ∷ State (cid 1) state.InboundIdle
      ∷ [])
      ∷ brings (Bytes (cid 1) (bytes_of (codes "00000000000800058200078102"))) (
      State (cid 1) state.Inbound
      ∷ Send (cid 1) (bytes_of (codes "0000000080080003820107"))
      ∷ State (cid 1) state.InboundIdle
      ∷ [])
      ∷ [];
}

-- a reply that is not owed
abbrev pub negotiated_unowed_reply : Trace
negotiated_unowed_reply = record {
  settings = usual;
  happenings =
      brings (Accepted (node 3002)) (Admit (cid 1) (node 3002) ∷ State (cid 1) state.UnnegotiatedInbound ∷ [])
      ∷ brings (Bytes (cid 1) (bytes_of (codes "00000000000000118200a20d84182af401f40e84182af401f4"))) (
      Send (cid 1) (bytes_of (codes "000000008000000983010e84182af401f4"))
      ∷ State (cid 1) state.InboundIdle
      ∷ [])
      ∷ brings (Bytes (cid 1) (bytes_of (codes "0000000080080003820100"))) (Close (cid 1) (Fault Protocol) ∷ State (cid 1) state.Terminated ∷ [])
      ∷ [];
}

-- a handshake message once the handshake is done
abbrev pub negotiated_handshake_item : Trace
negotiated_handshake_item = record {
  settings = usual;
  happenings =
      brings (Accepted (node 3002)) (Admit (cid 1) (node 3002) ∷ State (cid 1) state.UnnegotiatedInbound ∷ [])
      ∷ brings (Bytes (cid 1) (bytes_of (codes "00000000000000118200a20d84182af401f40e84182af401f4"))) (
      Send (cid 1) (bytes_of (codes "000000008000000983010e84182af401f4"))
      ∷ State (cid 1) state.InboundIdle
      ∷ [])
      ∷ brings (Bytes (cid 1) (bytes_of (codes "000000000000000100"))) (Close (cid 1) (Fault Protocol) ∷ State (cid 1) state.Terminated ∷ [])
      ∷ [];
}

-- an item that is no keep-alive message
abbrev pub negotiated_no_keep_alive : Trace
negotiated_no_keep_alive = record {
  settings = usual;
  happenings =
      brings (Accepted (node 3002)) (Admit (cid 1) (node 3002) ∷ State (cid 1) state.UnnegotiatedInbound ∷ [])
      ∷ brings (Bytes (cid 1) (bytes_of (codes "00000000000000118200a20d84182af401f40e84182af401f4"))) (
      Send (cid 1) (bytes_of (codes "000000008000000983010e84182af401f4"))
      ∷ State (cid 1) state.InboundIdle
      ∷ [])
      ∷ brings (Bytes (cid 1) (bytes_of (codes "00000000000800028103"))) (Close (cid 1) (Fault Protocol) ∷ State (cid 1) state.Terminated ∷ [])
      ∷ [];
}

-- an item without a first number
abbrev pub negotiated_no_first_number : Trace
negotiated_no_first_number = record {
  settings = usual;
  happenings =
      brings (Accepted (node 3002)) (Admit (cid 1) (node 3002) ∷ State (cid 1) state.UnnegotiatedInbound ∷ [])
      ∷ brings (Bytes (cid 1) (bytes_of (codes "00000000000000118200a20d84182af401f40e84182af401f4"))) (
      Send (cid 1) (bytes_of (codes "000000008000000983010e84182af401f4"))
      ∷ State (cid 1) state.InboundIdle
      ∷ [])
      ∷ brings (Bytes (cid 1) (bytes_of (codes "000000000002000180"))) (Close (cid 1) (Fault Protocol) ∷ State (cid 1) state.Terminated ∷ [])
      ∷ [];
}

-- a message whose body is passed over
abbrev pub negotiated_passed_over : Trace
negotiated_passed_over = record {
  settings = usual;
  happenings =
      brings (Accepted (node 3002)) (Admit (cid 1) (node 3002) ∷ State (cid 1) state.UnnegotiatedInbound ∷ [])
      ∷ brings (Bytes (cid 1) (bytes_of (codes "00000000000000118200a20d84182af401f40e84182af401f4"))) (
      Send (cid 1) (bytes_of (codes "000000008000000983010e84182af401f4"))
      ∷ State (cid 1) state.InboundIdle
      ∷ [])
      ∷ brings (Bytes (cid 1) (bytes_of (codes "00000000000200028105"))) (State (cid 1) state.Inbound ∷ [])
      ∷ [];
}

-- an end of a protocol that did not run
abbrev pub negotiated_done_awakes_first : Trace
negotiated_done_awakes_first = record {
  settings = usual;
  happenings =
      brings (Accepted (node 3002)) (Admit (cid 1) (node 3002) ∷ State (cid 1) state.UnnegotiatedInbound ∷ [])
      ∷ brings (Bytes (cid 1) (bytes_of (codes "00000000000000118200a20d84182af401f40e84182af401f4"))) (
      Send (cid 1) (bytes_of (codes "000000008000000983010e84182af401f4"))
      ∷ State (cid 1) state.InboundIdle
      ∷ [])
      ∷ brings (Bytes (cid 1) (bytes_of (codes "00000000000800028102"))) (State (cid 1) state.Inbound ∷ State (cid 1) state.InboundIdle ∷ [])
      ∷ [];
}

-- a hundred addresses are asked for, and there are none
abbrev pub negotiated_share_request_of_hundred : Trace
negotiated_share_request_of_hundred = record {
  settings = usual;
  happenings =
      brings (Accepted (node 3002)) (Admit (cid 1) (node 3002) ∷ State (cid 1) state.UnnegotiatedInbound ∷ [])
      ∷ brings (Bytes (cid 1) (bytes_of (codes "00000000000000118200a20d84182af401f40e84182af401f4"))) (
      Send (cid 1) (bytes_of (codes "000000008000000983010e84182af401f4"))
      ∷ State (cid 1) state.InboundIdle
      ∷ [])
      ∷ brings (Bytes (cid 1) (bytes_of (codes "00000000000a000482001864"))) (
      State (cid 1) state.Inbound
      ∷ Send (cid 1) (bytes_of (codes "00000000800a0003820180"))
      ∷ [])
      ∷ [];
}
