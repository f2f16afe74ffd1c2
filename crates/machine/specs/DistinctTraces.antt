-- Connections under settings no two of which are equal, so that none can stand for another.
use Rattle.std.specs.Prelude.{[], ◌∷◌, true, false, codes}
use Rattle.net_base.specs.declared.action.Action.TheVariants.{Admit, Turnaway, Dial, Send, Close, Pause, State, Peer}
use Rattle.net_base.specs.declared.action.Away.TheVariants.{Full}
use Rattle.net_base.specs.declared.action.CloseCause.TheVariants.{Unused, Pruned, Overwritten, Fault}
use Rattle.net_base.specs.declared.action.FaultKind.TheVariants.{HandshakeWait, ReplyWait, Protocol}
use Rattle.net_base.specs.declared.action.PeerNote.TheVariants as note
use Rattle.net_base.specs.declared.action.StateName.TheVariants as state
use Rattle.net_base.specs.declared.event.Event.TheVariants.{Now, Govern, Accepted, Dialed, Bytes, Closed, Locals}
use Rattle.machine.specs.Traces.{Trace, brings, distinct, node, cid, group, bytes_of}

-- the pause grows from the soft limit to the hard one
abbrev pub pause_grows : Trace
pause_grows = record {
  settings = distinct;
  happenings =
      brings (Accepted (node 3002)) (Admit (cid 1) (node 3002) ∷ State (cid 1) state.UnnegotiatedInbound ∷ [])
      ∷ brings (Accepted (node 3003)) (Admit (cid 2) (node 3003) ∷ State (cid 2) state.UnnegotiatedInbound ∷ [])
      ∷ brings (Accepted (node 3004)) (Admit (cid 3) (node 3004) ∷ State (cid 3) state.UnnegotiatedInbound ∷ [])
      ∷ brings (Accepted (node 3005)) (Admit (cid 4) (node 3005) ∷ State (cid 4) state.UnnegotiatedInbound ∷ Pause 33 ∷ [])
      ∷ brings (Accepted (node 3006)) (Admit (cid 5) (node 3006) ∷ State (cid 5) state.UnnegotiatedInbound ∷ Pause 66 ∷ [])
      ∷ brings (Accepted (node 3007)) (Admit (cid 6) (node 3007) ∷ State (cid 6) state.UnnegotiatedInbound ∷ Pause 100 ∷ [])
      ∷ brings (Accepted (node 3008)) (Turnaway Full ∷ [])
      ∷ [];
}

-- An inbound connection is kept for the other side after its handshake and after the last responder, and then for the
-- time-wait.
abbrev pub inbound_waits : Trace
inbound_waits = record {
  settings = distinct;
  happenings =
      brings (Accepted (node 3002)) (Admit (cid 1) (node 3002) ∷ State (cid 1) state.UnnegotiatedInbound ∷ [])
      ∷ brings (Bytes (cid 1) (bytes_of (codes "00000000000000118200a20d84182af401f40e84182af401f4"))) (
      Send (cid 1) (bytes_of (codes "000000008000000983010e84182af401f4"))
      ∷ State (cid 1) state.InboundIdle
      ∷ [])
      ∷ brings (Accepted (node 3003)) (Admit (cid 2) (node 3003) ∷ State (cid 2) state.UnnegotiatedInbound ∷ [])
      ∷ brings (Bytes (cid 2) (bytes_of (codes "00000000000000118200a20d84182af401f40e84182af401f4"))) (
      Send (cid 2) (bytes_of (codes "000000008000000983010e84182af401f4"))
      ∷ State (cid 2) state.InboundIdle
      ∷ [])
      ∷ brings (Now 100) []
      ∷ brings (Bytes (cid 1) (bytes_of (codes "0000000000080003820007"))) (
      State (cid 1) state.Inbound
      ∷ Send (cid 1) (bytes_of (codes "000186a080080003820107"))
      ∷ [])
      ∷ brings (Now 200) []
      ∷ brings (Bytes (cid 1) (bytes_of (codes "00000000000800028102"))) (State (cid 1) state.InboundIdle ∷ [])
      ∷ brings (Now 299) []
      ∷ brings (Now 300) (Close (cid 2) Unused ∷ State (cid 2) state.Terminating ∷ [])
      ∷ brings (Now 499) []
      ∷ brings (Now 500) (Close (cid 1) Unused ∷ State (cid 1) state.Terminating ∷ [])
      ∷ brings (Now 999) []
      ∷ brings (Now 1000) (State (cid 2) state.Terminated ∷ [])
      ∷ brings (Now 1199) []
      ∷ brings (Now 1200) (State (cid 1) state.Terminated ∷ [])
      ∷ [];
}

-- A dial is answered once. The handshake that it begins has its wait.
abbrev pub dial_answered_again : Trace
dial_answered_again = record {
  settings = distinct;
  happenings =
      brings (Locals (group 0 1 true (node 3002 ∷ []) ∷ [])) (Peer (node 3002) note.Known ∷ [])
      ∷ brings (Govern 0) (Dial (cid 1) (node 3002) ∷ State (cid 1) state.ReservedOutbound ∷ [])
      ∷ brings (Dialed (cid 1) true) (
      State (cid 1) state.UnnegotiatedOutbound
      ∷ Send (cid 1) (bytes_of (codes "00000000000000118200a20d84182af401f40e84182af401f4"))
      ∷ [])
      ∷ brings (Now 500) []
      ∷ brings (Dialed (cid 1) true) []
      ∷ brings (Dialed (cid 1) false) []
      ∷ brings (Now 1099) []
      ∷ brings (Now 1100) (Close (cid 1) (Fault HandshakeWait) ∷ State (cid 1) state.Terminated ∷ [])
      ∷ [];
}

-- a dialer takes an acceptance on side 1 alone, and a proposal on side 0 alone
abbrev pub dialer_on_other_sides : Trace
dialer_on_other_sides = record {
  settings = distinct;
  happenings =
      brings (Locals (group 0 2 true (node 3002 ∷ node 3003 ∷ []) ∷ [])) (Peer (node 3002) note.Known ∷ Peer (node 3003) note.Known ∷ [])
      ∷ brings (Govern 0) (
      Dial (cid 1) (node 3002)
      ∷ State (cid 1) state.ReservedOutbound
      ∷ Dial (cid 2) (node 3003)
      ∷ State (cid 2) state.ReservedOutbound
      ∷ [])
      ∷ brings (Dialed (cid 1) true) (
      State (cid 1) state.UnnegotiatedOutbound
      ∷ Send (cid 1) (bytes_of (codes "00000000000000118200a20d84182af401f40e84182af401f4"))
      ∷ [])
      ∷ brings (Dialed (cid 2) true) (
      State (cid 2) state.UnnegotiatedOutbound
      ∷ Send (cid 2) (bytes_of (codes "00000000000000118200a20d84182af401f40e84182af401f4"))
      ∷ [])
      ∷ brings (Bytes (cid 1) (bytes_of (codes "000000000000000983010e84182af401f4"))) (Close (cid 1) (Fault Protocol) ∷ State (cid 1) state.Terminated ∷ [])
      ∷ brings (Bytes (cid 2) (bytes_of (codes "00000000800000118200a20d84182af401f40e84182af401f4"))) (
      Close (cid 2) (Fault Protocol)
      ∷ State (cid 2) state.Terminated
      ∷ [])
      ∷ [];
}

-- one that wants to begin protocols alone is served
abbrev pub inbound_unidirectional_served : Trace
inbound_unidirectional_served = record {
  settings = distinct;
  happenings =
      brings (Accepted (node 3002)) (Admit (cid 1) (node 3002) ∷ State (cid 1) state.UnnegotiatedInbound ∷ [])
      ∷ brings (Bytes (cid 1) (bytes_of (codes "00000000000000118200a20d84182af501f40e84182af501f4"))) (
      Send (cid 1) (bytes_of (codes "000000008000000983010e84182af501f4"))
      ∷ State (cid 1) state.InboundIdle
      ∷ [])
      ∷ brings (Bytes (cid 1) (bytes_of (codes "0000000000080003820007"))) (
      State (cid 1) state.Inbound
      ∷ Send (cid 1) (bytes_of (codes "0000000080080003820107"))
      ∷ [])
      ∷ [];
}

-- A reply does not come. Its peer is left alone for the back-off.
abbrev pub reply_wait_and_back_off : Trace
reply_wait_and_back_off = record {
  settings = distinct;
  happenings =
      brings (Locals (group 0 1 true (node 3002 ∷ []) ∷ [])) (Peer (node 3002) note.Known ∷ [])
      ∷ brings (Govern 0) (Dial (cid 1) (node 3002) ∷ State (cid 1) state.ReservedOutbound ∷ [])
      ∷ brings (Dialed (cid 1) true) (
      State (cid 1) state.UnnegotiatedOutbound
      ∷ Send (cid 1) (bytes_of (codes "00000000000000118200a20d84182af401f40e84182af401f4"))
      ∷ [])
      ∷ brings (Bytes (cid 1) (bytes_of (codes "000000008000000983010e84182af401f4"))) (
      State (cid 1) state.OutboundDupTicking
      ∷ Peer (node 3002) note.Warm
      ∷ Send (cid 1) (bytes_of (codes "0000000000080003820001"))
      ∷ [])
      ∷ brings (Now 299) []
      ∷ brings (Now 300) (State (cid 1) state.OutboundDupExpired ∷ [])
      ∷ brings (Now 1899) []
      ∷ brings (Now 1900) (
      Close (cid 1) (Fault ReplyWait)
      ∷ State (cid 1) state.Terminated
      ∷ Peer (node 3002) note.Cold
      ∷ [])
      ∷ brings (Now 4599) []
      ∷ brings (Govern 0) []
      ∷ brings (Now 4600) []
      ∷ brings (Govern 0) (Dial (cid 2) (node 3002) ∷ State (cid 2) state.ReservedOutbound ∷ [])
      ∷ [];
}

-- a connection that is given up while the other side may still use it is one too many, and goes
abbrev pub release_trims : Trace
release_trims = record {
  settings = record distinct { hard = 1; soft = 1 };
  happenings =
      brings (Locals (group 0 1 true (node 3002 ∷ []) ∷ [])) (Peer (node 3002) note.Known ∷ [])
      ∷ brings (Govern 0) (Dial (cid 1) (node 3002) ∷ State (cid 1) state.ReservedOutbound ∷ [])
      ∷ brings (Dialed (cid 1) true) (
      State (cid 1) state.UnnegotiatedOutbound
      ∷ Send (cid 1) (bytes_of (codes "00000000000000118200a20d84182af401f40e84182af401f4"))
      ∷ [])
      ∷ brings (Bytes (cid 1) (bytes_of (codes "000000008000000983010e84182af401f4"))) (
      State (cid 1) state.OutboundDupTicking
      ∷ Peer (node 3002) note.Warm
      ∷ Send (cid 1) (bytes_of (codes "0000000000080003820001"))
      ∷ [])
      ∷ brings (Bytes (cid 1) (bytes_of (codes "0000000080080003820101"))) []
      ∷ brings (Accepted (node 3003)) (Admit (cid 2) (node 3003) ∷ State (cid 2) state.UnnegotiatedInbound ∷ [])
      ∷ brings (Locals []) []
      ∷ brings (Govern 0) (
      Send (cid 1) (bytes_of (codes "00000000000a00028102"))
      ∷ Send (cid 1) (bytes_of (codes "00000000000800028102"))
      ∷ State (cid 1) state.InboundIdle
      ∷ Peer (node 3002) note.Cold
      ∷ Close (cid 1) Pruned
      ∷ State (cid 1) state.Terminated
      ∷ [])
      ∷ [];
}

-- a dial that gives way to the peer's own is no failure
abbrev pub overwritten_is_no_failure : Trace
overwritten_is_no_failure = record {
  settings = record distinct { own = node 3009 };
  happenings =
      brings (Locals (group 0 1 true (node 3002 ∷ []) ∷ [])) (Peer (node 3002) note.Known ∷ [])
      ∷ brings (Govern 0) (Dial (cid 1) (node 3002) ∷ State (cid 1) state.ReservedOutbound ∷ [])
      ∷ brings (Accepted (node 3002)) (
      Close (cid 1) Overwritten
      ∷ State (cid 1) state.Terminated
      ∷ Admit (cid 2) (node 3002)
      ∷ State (cid 2) state.UnnegotiatedInbound
      ∷ [])
      ∷ brings (Closed (cid 2)) (State (cid 2) state.Terminated ∷ [])
      ∷ brings (Govern 0) (Dial (cid 3) (node 3002) ∷ State (cid 3) state.ReservedOutbound ∷ [])
      ∷ [];
}
