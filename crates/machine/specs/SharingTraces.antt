-- Peer sharing.
use Rattle.std.specs.Prelude.{[], ◌∷◌, true, codes}
use Rattle.net_base.specs.declared.action.Action.TheVariants.{Admit, Dial, Send, Close, State, Peer}
use Rattle.net_base.specs.declared.action.CloseCause.TheVariants.{Fault}
use Rattle.net_base.specs.declared.action.FaultKind.TheVariants.{Protocol}
use Rattle.net_base.specs.declared.action.PeerNote.TheVariants as note
use Rattle.net_base.specs.declared.action.StateName.TheVariants as state
use Rattle.net_base.specs.declared.event.Event.TheVariants.{Now, Govern, Accepted, Dialed, Bytes, Aims, Locals}
use Rattle.machine.specs.Traces.{Trace, brings, usual, node, node_v6, cid, group, aims, bytes_of}

-- an answer adds a peer
abbrev pub share_answer_adds_peer : Trace
share_answer_adds_peer = record {
  settings = usual;
  happenings =
      brings (Locals (group 0 1 true (node 3002 ∷ []) ∷ [])) (Peer (node 3002) note.Known ∷ [])
      ∷ brings (Govern 0) (Dial (cid 1) (node 3002) ∷ State (cid 1) state.ReservedOutbound ∷ [])
      ∷ brings (Dialed (cid 1) true) (
      State (cid 1) state.UnnegotiatedOutbound
      ∷ Send (cid 1) (bytes_of (codes "00000000000000118200a20d84182af401f40e84182af401f4"))
      ∷ [])
      ∷ brings (Bytes (cid 1) (bytes_of (codes "000000008000000983010e84182af401f4"))) (
      State (cid 1) state.OutboundDupTicking
      ∷ Peer (node 3002) note.Warm
      ∷ Send (cid 1) (bytes_of (codes "0000000000080003820001"))
      ∷ [])
      ∷ brings (Bytes (cid 1) (bytes_of (codes "0000000080080003820101"))) []
      ∷ brings (Aims (aims 0 3 0 0)) []
      ∷ brings (Govern 0) (Send (cid 1) (bytes_of (codes "00000000000a0003820002")) ∷ [])
      ∷ brings (Bytes (cid 1) (bytes_of (codes "00000000800a001782018283001a7f000001190bb983001a7f000001190bbd"))) (Peer (node 3005) note.Known ∷ [])
      ∷ [];
}

-- a peer that was told is an ordinary one, and dialed where one more is to be established
abbrev pub told_peer_is_dialed : Trace
told_peer_is_dialed = record {
  settings = usual;
  happenings =
      brings (Locals (group 0 1 true (node 3002 ∷ []) ∷ [])) (Peer (node 3002) note.Known ∷ [])
      ∷ brings (Govern 0) (Dial (cid 1) (node 3002) ∷ State (cid 1) state.ReservedOutbound ∷ [])
      ∷ brings (Dialed (cid 1) true) (
      State (cid 1) state.UnnegotiatedOutbound
      ∷ Send (cid 1) (bytes_of (codes "00000000000000118200a20d84182af401f40e84182af401f4"))
      ∷ [])
      ∷ brings (Bytes (cid 1) (bytes_of (codes "000000008000000983010e84182af401f4"))) (
      State (cid 1) state.OutboundDupTicking
      ∷ Peer (node 3002) note.Warm
      ∷ Send (cid 1) (bytes_of (codes "0000000000080003820001"))
      ∷ [])
      ∷ brings (Bytes (cid 1) (bytes_of (codes "0000000080080003820101"))) []
      ∷ brings (Aims (aims 0 3 0 0)) []
      ∷ brings (Govern 0) (Send (cid 1) (bytes_of (codes "00000000000a0003820002")) ∷ [])
      ∷ brings (Bytes (cid 1) (bytes_of (codes "00000000800a001782018283001a7f000001190bb983001a7f000001190bbd"))) (Peer (node 3005) note.Known ∷ [])
      ∷ brings (Aims (aims 0 3 2 0)) []
      ∷ brings (Govern 0) (Dial (cid 2) (node 3005) ∷ State (cid 2) state.ReservedOutbound ∷ [])
      ∷ [];
}

-- an answer has more addresses than were asked for
abbrev pub share_answer_too_many : Trace
share_answer_too_many = record {
  settings = usual;
  happenings =
      brings (Locals (group 0 1 true (node 3002 ∷ []) ∷ [])) (Peer (node 3002) note.Known ∷ [])
      ∷ brings (Govern 0) (Dial (cid 1) (node 3002) ∷ State (cid 1) state.ReservedOutbound ∷ [])
      ∷ brings (Dialed (cid 1) true) (
      State (cid 1) state.UnnegotiatedOutbound
      ∷ Send (cid 1) (bytes_of (codes "00000000000000118200a20d84182af401f40e84182af401f4"))
      ∷ [])
      ∷ brings (Bytes (cid 1) (bytes_of (codes "000000008000000983010e84182af401f4"))) (
      State (cid 1) state.OutboundDupTicking
      ∷ Peer (node 3002) note.Warm
      ∷ Send (cid 1) (bytes_of (codes "0000000000080003820001"))
      ∷ [])
      ∷ brings (Bytes (cid 1) (bytes_of (codes "0000000080080003820101"))) []
      ∷ brings (Aims (aims 0 3 0 0)) []
      ∷ brings (Govern 0) (Send (cid 1) (bytes_of (codes "00000000000a0003820002")) ∷ [])
      ∷ brings (Bytes (cid 1) (bytes_of (codes "00000000800a002182018383001a7f000001190bbb83001a7f000001190bbc83001a7f000001190bbd"))) (
      Close (cid 1) (Fault Protocol)
      ∷ State (cid 1) state.Terminated
      ∷ Peer (node 3002) note.Cold
      ∷ [])
      ∷ [];
}

-- an answer fills the known peers
abbrev pub share_request_of_one : Trace
share_request_of_one = record {
  settings = usual;
  happenings =
      brings (Locals (group 0 1 true (node 3002 ∷ []) ∷ [])) (Peer (node 3002) note.Known ∷ [])
      ∷ brings (Govern 0) (Dial (cid 1) (node 3002) ∷ State (cid 1) state.ReservedOutbound ∷ [])
      ∷ brings (Dialed (cid 1) true) (
      State (cid 1) state.UnnegotiatedOutbound
      ∷ Send (cid 1) (bytes_of (codes "00000000000000118200a20d84182af401f40e84182af401f4"))
      ∷ [])
      ∷ brings (Bytes (cid 1) (bytes_of (codes "000000008000000983010e84182af401f4"))) (
      State (cid 1) state.OutboundDupTicking
      ∷ Peer (node 3002) note.Warm
      ∷ Send (cid 1) (bytes_of (codes "0000000000080003820001"))
      ∷ [])
      ∷ brings (Bytes (cid 1) (bytes_of (codes "0000000080080003820101"))) []
      ∷ brings (Aims (aims 0 2 0 0)) []
      ∷ brings (Govern 0) (Send (cid 1) (bytes_of (codes "00000000000a0003820001")) ∷ [])
      ∷ brings (Bytes (cid 1) (bytes_of (codes "00000000800a000d82018183001a7f000001190bbd"))) (Peer (node 3005) note.Known ∷ [])
      ∷ [];
}

-- a target that was lowered meanwhile bounds what is taken
abbrev pub share_answer_above_target : Trace
share_answer_above_target = record {
  settings = usual;
  happenings =
      brings (Locals (group 0 1 true (node 3002 ∷ []) ∷ [])) (Peer (node 3002) note.Known ∷ [])
      ∷ brings (Govern 0) (Dial (cid 1) (node 3002) ∷ State (cid 1) state.ReservedOutbound ∷ [])
      ∷ brings (Dialed (cid 1) true) (
      State (cid 1) state.UnnegotiatedOutbound
      ∷ Send (cid 1) (bytes_of (codes "00000000000000118200a20d84182af401f40e84182af401f4"))
      ∷ [])
      ∷ brings (Bytes (cid 1) (bytes_of (codes "000000008000000983010e84182af401f4"))) (
      State (cid 1) state.OutboundDupTicking
      ∷ Peer (node 3002) note.Warm
      ∷ Send (cid 1) (bytes_of (codes "0000000000080003820001"))
      ∷ [])
      ∷ brings (Bytes (cid 1) (bytes_of (codes "0000000080080003820101"))) []
      ∷ brings (Aims (aims 0 3 0 0)) []
      ∷ brings (Govern 0) (Send (cid 1) (bytes_of (codes "00000000000a0003820002")) ∷ [])
      ∷ brings (Aims (aims 0 2 0 0)) []
      ∷ brings (Bytes (cid 1) (bytes_of (codes "00000000800a001782018283001a7f000001190bbb83001a7f000001190bbc"))) (Peer (node 3003) note.Known ∷ [])
      ∷ [];
}

-- a peer is told of the others
abbrev pub share_served_without_asker : Trace
share_served_without_asker = record {
  settings = usual;
  happenings =
      brings (Accepted (node 3002)) (Admit (cid 1) (node 3002) ∷ State (cid 1) state.UnnegotiatedInbound ∷ [])
      ∷ brings (Bytes (cid 1) (bytes_of (codes "00000000000000118200a20d84182af401f40e84182af401f4"))) (
      Send (cid 1) (bytes_of (codes "000000008000000983010e84182af401f4"))
      ∷ State (cid 1) state.InboundIdle
      ∷ [])
      ∷ brings (Locals (group 0 1 true (node 3002 ∷ node 3003 ∷ []) ∷ [])) (Peer (node 3002) note.Known ∷ Peer (node 3003) note.Known ∷ [])
      ∷ brings (Bytes (cid 1) (bytes_of (codes "00000000000a0003820005"))) (
      State (cid 1) state.Inbound
      ∷ Send (cid 1) (bytes_of (codes "00000000800a000d82018183001a7f000001190bbb"))
      ∷ [])
      ∷ [];
}

-- an IPv6 address is taken
abbrev pub share_answer_ipv6_taken : Trace
share_answer_ipv6_taken = record {
  settings = record usual { version = 2 };
  happenings =
      brings (Locals (group 0 1 true (node 3002 ∷ []) ∷ [])) (Peer (node 3002) note.Known ∷ [])
      ∷ brings (Govern 0) (Dial (cid 1) (node 3002) ∷ State (cid 1) state.ReservedOutbound ∷ [])
      ∷ brings (Dialed (cid 1) true) (
      State (cid 1) state.UnnegotiatedOutbound
      ∷ Send (cid 1) (bytes_of (codes "00000000000000118200a20d84182af401f40e84182af401f4"))
      ∷ [])
      ∷ brings (Bytes (cid 1) (bytes_of (codes "000000008000000983010e84182af401f4"))) (
      State (cid 1) state.OutboundDupTicking
      ∷ Peer (node 3002) note.Warm
      ∷ Send (cid 1) (bytes_of (codes "0000000000080003820001"))
      ∷ [])
      ∷ brings (Bytes (cid 1) (bytes_of (codes "0000000080080003820101"))) []
      ∷ brings (Aims (aims 0 3 0 0)) []
      ∷ brings (Govern 0) (Send (cid 1) (bytes_of (codes "00000000000a0003820002")) ∷ [])
      ∷ brings (Bytes (cid 1) (bytes_of (codes "00000000800a000c820181860100000001190bb9"))) (Peer (node_v6 1 3001) note.Known ∷ [])
      ∷ [];
}

-- an IPv6 address is passed over in a trace of the first version
abbrev pub share_answer_ipv6_passed_over : Trace
share_answer_ipv6_passed_over = record {
  settings = usual;
  happenings =
      brings (Locals (group 0 1 true (node 3002 ∷ []) ∷ [])) (Peer (node 3002) note.Known ∷ [])
      ∷ brings (Govern 0) (Dial (cid 1) (node 3002) ∷ State (cid 1) state.ReservedOutbound ∷ [])
      ∷ brings (Dialed (cid 1) true) (
      State (cid 1) state.UnnegotiatedOutbound
      ∷ Send (cid 1) (bytes_of (codes "00000000000000118200a20d84182af401f40e84182af401f4"))
      ∷ [])
      ∷ brings (Bytes (cid 1) (bytes_of (codes "000000008000000983010e84182af401f4"))) (
      State (cid 1) state.OutboundDupTicking
      ∷ Peer (node 3002) note.Warm
      ∷ Send (cid 1) (bytes_of (codes "0000000000080003820001"))
      ∷ [])
      ∷ brings (Bytes (cid 1) (bytes_of (codes "0000000080080003820101"))) []
      ∷ brings (Aims (aims 0 3 0 0)) []
      ∷ brings (Govern 0) (Send (cid 1) (bytes_of (codes "00000000000a0003820002")) ∷ [])
      ∷ brings (Bytes (cid 1) (bytes_of (codes "00000000800a000c820181860100000001190bb9"))) []
      ∷ brings (Now 10000) (State (cid 1) state.OutboundDupExpired ∷ [])
      ∷ [];
}
