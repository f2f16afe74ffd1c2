-- The limits on connections.
use Rattle.std.specs.Prelude.{[], ◌∷◌, true, codes}
use Rattle.net_base.specs.declared.action.Action.TheVariants.{Admit, Turnaway, Dial, Send, Close, Pause, State, Peer}
use Rattle.net_base.specs.declared.action.Away.TheVariants.{Full}
use Rattle.net_base.specs.declared.action.CloseCause.TheVariants.{Pruned, Fault}
use Rattle.net_base.specs.declared.action.FaultKind.TheVariants.{HandshakeWait}
use Rattle.net_base.specs.declared.action.PeerNote.TheVariants as note
use Rattle.net_base.specs.declared.action.StateName.TheVariants as state
use Rattle.net_base.specs.declared.event.Event.TheVariants.{Now, Govern, Accepted, Dialed, Bytes, Closed, Locals}
use Rattle.machine.specs.Traces.{Trace, brings, usual, node, cid, group, bytes_of}

-- the pause, the hard limit, and a handshake that takes too long
abbrev pub accept_limits : Trace
accept_limits = record {
  settings = record usual { hard = 2; soft = 1 };
  happenings =
      brings (Accepted (node 3002)) (Admit (cid 1) (node 3002) ∷ State (cid 1) state.UnnegotiatedInbound ∷ [])
      ∷ brings (Accepted (node 3003)) (Admit (cid 2) (node 3003) ∷ State (cid 2) state.UnnegotiatedInbound ∷ Pause 5000 ∷ [])
      ∷ brings (Accepted (node 3004)) (Turnaway Full ∷ [])
      ∷ brings (Closed (cid 1)) (State (cid 1) state.Terminated ∷ [])
      ∷ brings (Now 10000) (Close (cid 2) (Fault HandshakeWait) ∷ State (cid 2) state.Terminated ∷ [])
      ∷ [];
}

-- the newest connection in its handshake goes
abbrev pub prune_newest_greeting : Trace
prune_newest_greeting = record {
  settings = record usual { hard = 2; soft = 1 };
  happenings =
      brings (Locals (group 0 1 true (node 3002 ∷ []) ∷ [])) (Peer (node 3002) note.Known ∷ [])
      ∷ brings (Govern 0) (Dial (cid 1) (node 3002) ∷ State (cid 1) state.ReservedOutbound ∷ [])
      ∷ brings (Dialed (cid 1) true) (
      State (cid 1) state.UnnegotiatedOutbound
      ∷ Send (cid 1) (bytes_of (codes "00000000000000118200a20d84182af401f40e84182af401f4"))
      ∷ [])
      ∷ brings (Bytes (cid 1) (bytes_of (codes "000000008000000983010e84182af401f4"))) (
      State (cid 1) state.OutboundDupTicking
      ∷ Peer (node 3002) note.Warm
      ∷ Send (cid 1) (bytes_of (codes "0000000000080003820001"))
      ∷ [])
      ∷ brings (Accepted (node 3003)) (Admit (cid 2) (node 3003) ∷ State (cid 2) state.UnnegotiatedInbound ∷ [])
      ∷ brings (Accepted (node 3004)) (Admit (cid 3) (node 3004) ∷ State (cid 3) state.UnnegotiatedInbound ∷ Pause 5000 ∷ [])
      ∷ brings (Accepted (node 3005)) (Turnaway Full ∷ [])
      ∷ brings (Bytes (cid 1) (bytes_of (codes "0000000000080003820007"))) (
      State (cid 1) state.Duplex
      ∷ Close (cid 3) Pruned
      ∷ State (cid 3) state.Terminated
      ∷ Send (cid 1) (bytes_of (codes "0000000080080003820107"))
      ∷ [])
      ∷ [];
}

-- one that nobody uses goes before one in its handshake
abbrev pub prune_idle_before_greeting : Trace
prune_idle_before_greeting = record {
  settings = record usual { hard = 2; soft = 2 };
  happenings =
      brings (Locals (group 0 1 true (node 3002 ∷ []) ∷ [])) (Peer (node 3002) note.Known ∷ [])
      ∷ brings (Govern 0) (Dial (cid 1) (node 3002) ∷ State (cid 1) state.ReservedOutbound ∷ [])
      ∷ brings (Dialed (cid 1) true) (
      State (cid 1) state.UnnegotiatedOutbound
      ∷ Send (cid 1) (bytes_of (codes "00000000000000118200a20d84182af401f40e84182af401f4"))
      ∷ [])
      ∷ brings (Bytes (cid 1) (bytes_of (codes "000000008000000983010e84182af401f4"))) (
      State (cid 1) state.OutboundDupTicking
      ∷ Peer (node 3002) note.Warm
      ∷ Send (cid 1) (bytes_of (codes "0000000000080003820001"))
      ∷ [])
      ∷ brings (Accepted (node 3003)) (Admit (cid 2) (node 3003) ∷ State (cid 2) state.UnnegotiatedInbound ∷ [])
      ∷ brings (Bytes (cid 2) (bytes_of (codes "00000000000000118200a20d84182af401f40e84182af401f4"))) (
      Send (cid 2) (bytes_of (codes "000000008000000983010e84182af401f4"))
      ∷ State (cid 2) state.InboundIdle
      ∷ [])
      ∷ brings (Accepted (node 3004)) (Admit (cid 3) (node 3004) ∷ State (cid 3) state.UnnegotiatedInbound ∷ [])
      ∷ brings (Bytes (cid 1) (bytes_of (codes "0000000000080003820007"))) (
      State (cid 1) state.Duplex
      ∷ Close (cid 2) Pruned
      ∷ State (cid 2) state.Terminated
      ∷ Send (cid 1) (bytes_of (codes "0000000080080003820107"))
      ∷ [])
      ∷ [];
}

-- the woken connection goes, where no other may
abbrev pub prune_the_woken_itself : Trace
prune_the_woken_itself = record {
  settings = record usual { hard = 1; soft = 1 };
  happenings =
      brings (Locals (group 0 2 true (node 3002 ∷ node 3003 ∷ []) ∷ [])) (Peer (node 3002) note.Known ∷ Peer (node 3003) note.Known ∷ [])
      ∷ brings (Govern 0) (
      Dial (cid 1) (node 3002)
      ∷ State (cid 1) state.ReservedOutbound
      ∷ Dial (cid 2) (node 3003)
      ∷ State (cid 2) state.ReservedOutbound
      ∷ [])
      ∷ brings (Dialed (cid 1) true) (
      State (cid 1) state.UnnegotiatedOutbound
      ∷ Send (cid 1) (bytes_of (codes "00000000000000118200a20d84182af401f40e84182af401f4"))
      ∷ [])
      ∷ brings (Dialed (cid 2) true) (
      State (cid 2) state.UnnegotiatedOutbound
      ∷ Send (cid 2) (bytes_of (codes "00000000000000118200a20d84182af401f40e84182af401f4"))
      ∷ [])
      ∷ brings (Bytes (cid 1) (bytes_of (codes "000000008000000983010e84182af401f4"))) (
      State (cid 1) state.OutboundDupTicking
      ∷ Peer (node 3002) note.Warm
      ∷ Send (cid 1) (bytes_of (codes "0000000000080003820001"))
      ∷ [])
      ∷ brings (Bytes (cid 2) (bytes_of (codes "000000008000000983010e84182af401f4"))) (
      State (cid 2) state.OutboundDupTicking
      ∷ Peer (node 3003) note.Warm
      ∷ Send (cid 2) (bytes_of (codes "0000000000080003820002"))
      ∷ [])
      ∷ brings (Bytes (cid 1) (bytes_of (codes "0000000000080003820007"))) (
      State (cid 1) state.Duplex
      ∷ Send (cid 1) (bytes_of (codes "0000000080080003820107"))
      ∷ [])
      ∷ brings (Bytes (cid 2) (bytes_of (codes "0000000000080003820007"))) (
      State (cid 2) state.Duplex
      ∷ Close (cid 2) Pruned
      ∷ State (cid 2) state.Terminated
      ∷ Peer (node 3003) note.Cold
      ∷ [])
      ∷ [];
}
