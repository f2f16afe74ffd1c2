-- Two nodes that dial each other, and peers that are turned away.
use Rattle.std.specs.Prelude.{[], ◌∷◌, true, codes}
use Rattle.net_base.specs.declared.action.Action.TheVariants.{Admit, Turnaway, Dial, Send, Close, State, Peer}
use Rattle.net_base.specs.declared.action.Away.TheVariants.{OwnAddr, Crossed, Present}
use Rattle.net_base.specs.declared.action.CloseCause.TheVariants.{Overwritten}
use Rattle.net_base.specs.declared.action.PeerNote.TheVariants as note
use Rattle.net_base.specs.declared.action.StateName.TheVariants as state
use Rattle.net_base.specs.declared.event.Event.TheVariants.{Govern, Accepted, Dialed, Bytes, Locals}
use Rattle.machine.specs.Traces.{Trace, brings, usual, node, cid, group, bytes_of}

-- the own address is the lower one
abbrev pub crossing_own_lower : Trace
crossing_own_lower = record {
  settings = usual;
  happenings =
      brings (Locals (group 0 1 true (node 3002 ∷ []) ∷ [])) (Peer (node 3002) note.Known ∷ [])
      ∷ brings (Govern 0) (Dial (cid 1) (node 3002) ∷ State (cid 1) state.ReservedOutbound ∷ [])
      ∷ brings (Accepted (node 3002)) (Turnaway Crossed ∷ [])
      ∷ [];
}

-- the peer's address is the lower one, and a late answer to the dial changes nothing
abbrev pub crossing_own_higher : Trace
crossing_own_higher = record {
  settings = record usual { own = node 3003 };
  happenings =
      brings (Locals (group 0 1 true (node 3002 ∷ []) ∷ [])) (Peer (node 3002) note.Known ∷ [])
      ∷ brings (Govern 0) (Dial (cid 1) (node 3002) ∷ State (cid 1) state.ReservedOutbound ∷ [])
      ∷ brings (Accepted (node 3002)) (
      Close (cid 1) Overwritten
      ∷ State (cid 1) state.Terminated
      ∷ Admit (cid 2) (node 3002)
      ∷ State (cid 2) state.UnnegotiatedInbound
      ∷ [])
      ∷ brings (Dialed (cid 1) true) []
      ∷ [];
}

-- the own address
abbrev pub accepted_own_address : Trace
accepted_own_address = record {
  settings = usual;
  happenings =
      brings (Accepted (node 3001)) (Turnaway OwnAddr ∷ [])
      ∷ [];
}

-- a second connection in the handshake of the first
abbrev pub accepted_present_greeting : Trace
accepted_present_greeting = record {
  settings = usual;
  happenings =
      brings (Accepted (node 3002)) (Admit (cid 1) (node 3002) ∷ State (cid 1) state.UnnegotiatedInbound ∷ [])
      ∷ brings (Accepted (node 3002)) (Turnaway Present ∷ [])
      ∷ [];
}

-- a second connection beside one that stands
abbrev pub accepted_present_negotiated : Trace
accepted_present_negotiated = record {
  settings = usual;
  happenings =
      brings (Accepted (node 3002)) (Admit (cid 1) (node 3002) ∷ State (cid 1) state.UnnegotiatedInbound ∷ [])
      ∷ brings (Bytes (cid 1) (bytes_of (codes "00000000000000118200a20d84182af401f40e84182af401f4"))) (
      Send (cid 1) (bytes_of (codes "000000008000000983010e84182af401f4"))
      ∷ State (cid 1) state.InboundIdle
      ∷ [])
      ∷ brings (Accepted (node 3002)) (Turnaway Present ∷ [])
      ∷ [];
}

-- both dial at once, on one socket
abbrev pub simultaneous_open : Trace
simultaneous_open = record {
  settings = usual;
  happenings =
      brings (Locals (group 0 1 true (node 3002 ∷ []) ∷ [])) (Peer (node 3002) note.Known ∷ [])
      ∷ brings (Govern 0) (Dial (cid 1) (node 3002) ∷ State (cid 1) state.ReservedOutbound ∷ [])
      ∷ brings (Dialed (cid 1) true) (
      State (cid 1) state.UnnegotiatedOutbound
      ∷ Send (cid 1) (bytes_of (codes "00000000000000118200a20d84182af401f40e84182af401f4"))
      ∷ [])
      ∷ brings (Bytes (cid 1) (bytes_of (codes "00000000000000118200a20d84182af401f40e84182af401f4"))) (
      State (cid 1) state.OutboundDupTicking
      ∷ Peer (node 3002) note.Warm
      ∷ Send (cid 1) (bytes_of (codes "0000000000080003820001"))
      ∷ [])
      ∷ [];
}
