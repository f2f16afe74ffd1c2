-- Traces in which a law matters that no other one asks for.
use Rattle.std.specs.Prelude.{[], ◌∷◌, true, false, codes}
use Rattle.net_base.specs.declared.action.Action.TheVariants.{Admit, Dial, Send, AskRoots, Close, State, Peer, Pause}
use Rattle.net_base.specs.declared.action.CloseCause.TheVariants.{Fault}
use Rattle.net_base.specs.declared.action.FaultKind.TheVariants.{ReplyWait, UnknownId}
use Rattle.net_base.specs.declared.action.PeerNote.TheVariants as note
use Rattle.net_base.specs.declared.action.StateName.TheVariants as state
use Rattle.net_base.specs.declared.event.Event.TheVariants.{Now, Govern, Accepted, Dialed, Bytes, Closed, Aims, Locals, Roots, BigAims, Bigs}
use Rattle.net_base.specs.declared.event.RootAnswer.TheVariants.{Found, Failed}
use Rattle.machine.specs.Traces.{Trace, brings, usual, node, cid, job, group, aims, big_aims, bytes_of}

-- a peer that is asked for addresses does not answer, and its connection ends for that
abbrev pub share_answer_is_late : Trace
share_answer_is_late = record {
  settings = usual;
  happenings =
      brings (Locals (group 0 1 true (node 3002 ∷ []) ∷ [])) (Peer (node 3002) note.Known ∷ [])
      ∷ brings (Govern 0) (Dial (cid 1) (node 3002) ∷ State (cid 1) state.ReservedOutbound ∷ [])
      ∷ brings (Dialed (cid 1) true) (
      State (cid 1) state.UnnegotiatedOutbound
      ∷ Send (cid 1) (bytes_of (codes "00000000000000118200a20d84182af401f40e84182af401f4"))
      ∷ [])
      ∷ brings (Bytes (cid 1) (bytes_of (codes "000000008000000983010e84182af401f4"))) (
      State (cid 1) state.OutboundDupTicking
      ∷ Peer (node 3002) note.Warm
      ∷ Send (cid 1) (bytes_of (codes "0000000000080003820001"))
      ∷ [])
      ∷ brings (Bytes (cid 1) (bytes_of (codes "0000000080080003820101"))) []
      ∷ brings (Aims (aims 0 3 0 0)) []
      ∷ brings (Govern 0) (Send (cid 1) (bytes_of (codes "00000000000a0003820002")) ∷ [])
      ∷ brings (Now 10000) (
      State (cid 1) state.OutboundDupExpired
      ∷ Close (cid 1) (Fault ReplyWait)
      ∷ State (cid 1) state.Terminated
      ∷ Peer (node 3002) note.Cold
      ∷ [])
      ∷ [];
}

-- a root provider that failed is left alone for the back-off
abbrev pub provider_is_left_alone : Trace
provider_is_left_alone = record {
  settings = usual;
  happenings =
      brings (Aims (aims 1 1 0 0)) []
      ∷ brings (Govern 0) (AskRoots (job 1) ∷ [])
      ∷ brings (Roots (job 1) Failed) []
      ∷ brings (Govern 0) []
      ∷ brings (Now 4999) []
      ∷ brings (Govern 0) []
      ∷ brings (Now 5000) []
      ∷ brings (Govern 0) (AskRoots (job 2) ∷ [])
      ∷ [];
}

-- where one protocol is done, the others run on, and the connection is unused only once the last one is
abbrev pub one_protocol_is_done : Trace
one_protocol_is_done = record {
  settings = usual;
  happenings =
      brings (Accepted (node 3002)) (Admit (cid 1) (node 3002) ∷ State (cid 1) state.UnnegotiatedInbound ∷ [])
      ∷ brings (Bytes (cid 1) (bytes_of (codes "00000000000000118200a20d84182af401f40e84182af401f4"))) (
      Send (cid 1) (bytes_of (codes "000000008000000983010e84182af401f4"))
      ∷ State (cid 1) state.InboundIdle
      ∷ [])
      ∷ brings (Bytes (cid 1) (bytes_of (codes "0000000000080003820007"))) (
      State (cid 1) state.Inbound
      ∷ Send (cid 1) (bytes_of (codes "0000000080080003820107"))
      ∷ [])
      ∷ brings (Bytes (cid 1) (bytes_of (codes "0000000000020003820480"))) (Send (cid 1) (bytes_of (codes "00000000800200058206828000")) ∷ [])
      ∷ brings (Bytes (cid 1) (bytes_of (codes "00000000000200028107"))) []
      ∷ brings (Now 5000) []
      ∷ brings (Bytes (cid 1) (bytes_of (codes "00000000000800028102"))) (State (cid 1) state.InboundIdle ∷ [])
      ∷ [];
}

-- a node that shares no peers agrees on none, and faults who asks
abbrev pub sharing_is_turned_off : Trace
sharing_is_turned_off = record {
  settings = record usual { sharing = 0 };
  happenings =
      brings (Accepted (node 3002)) (Admit (cid 1) (node 3002) ∷ State (cid 1) state.UnnegotiatedInbound ∷ [])
      ∷ brings (Bytes (cid 1) (bytes_of (codes "00000000000000118200a20d84182af401f40e84182af401f4"))) (
      Send (cid 1) (bytes_of (codes "000000008000000983010e84182af400f4"))
      ∷ State (cid 1) state.InboundIdle
      ∷ [])
      ∷ brings (Bytes (cid 1) (bytes_of (codes "00000000000a0003820005"))) (Close (cid 1) (Fault UnknownId) ∷ State (cid 1) state.Terminated ∷ [])
      ∷ [];
}

-- nobody is told of the members of a group that is not advertised
abbrev pub private_group_is_not_told : Trace
private_group_is_not_told = record {
  settings = usual;
  happenings =
      brings (Accepted (node 3002)) (Admit (cid 1) (node 3002) ∷ State (cid 1) state.UnnegotiatedInbound ∷ [])
      ∷ brings (Bytes (cid 1) (bytes_of (codes "00000000000000118200a20d84182af401f40e84182af401f4"))) (
      Send (cid 1) (bytes_of (codes "000000008000000983010e84182af401f4"))
      ∷ State (cid 1) state.InboundIdle
      ∷ [])
      ∷ brings (Locals (group 0 1 false (node 3003 ∷ []) ∷ [])) (Peer (node 3003) note.Known ∷ [])
      ∷ brings (Bytes (cid 1) (bytes_of (codes "00000000000a0003820005"))) (
      State (cid 1) state.Inbound
      ∷ Send (cid 1) (bytes_of (codes "00000000800a0003820180"))
      ∷ [])
      ∷ [];
}

-- nobody is told of public roots
abbrev pub public_root_is_not_told : Trace
public_root_is_not_told = record {
  settings = usual;
  happenings =
      brings (Aims (aims 1 1 0 0)) []
      ∷ brings (Govern 0) (AskRoots (job 1) ∷ [])
      ∷ brings (Roots (job 1) (Found 3600000 (node 3003 ∷ []))) (Peer (node 3003) note.Known ∷ [])
      ∷ brings (Accepted (node 3002)) (Admit (cid 1) (node 3002) ∷ State (cid 1) state.UnnegotiatedInbound ∷ [])
      ∷ brings (Bytes (cid 1) (bytes_of (codes "00000000000000118200a20d84182af401f40e84182af401f4"))) (
      Send (cid 1) (bytes_of (codes "000000008000000983010e84182af401f4"))
      ∷ State (cid 1) state.InboundIdle
      ∷ [])
      ∷ brings (Bytes (cid 1) (bytes_of (codes "00000000000a0003820005"))) (
      State (cid 1) state.Inbound
      ∷ Send (cid 1) (bytes_of (codes "00000000800a0003820180"))
      ∷ [])
      ∷ [];
}

-- a local peer that failed is left alone for its back-off, though the groups are set again
abbrev pub back_off_outlives_the_groups : Trace
back_off_outlives_the_groups = record {
  settings = usual;
  happenings =
      brings (Locals (group 0 1 true (node 3002 ∷ []) ∷ [])) (Peer (node 3002) note.Known ∷ [])
      ∷ brings (Govern 0) (Dial (cid 1) (node 3002) ∷ State (cid 1) state.ReservedOutbound ∷ [])
      ∷ brings (Dialed (cid 1) false) (State (cid 1) state.Terminated ∷ [])
      ∷ brings (Locals (group 0 1 true (node 3002 ∷ []) ∷ [])) []
      ∷ brings (Govern 0) []
      ∷ brings (Now 5000) []
      ∷ brings (Govern 0) (Dial (cid 2) (node 3002) ∷ State (cid 2) state.ReservedOutbound ∷ [])
      ∷ [];
}

-- the own address is no peer
abbrev pub own_address_is_no_peer : Trace
own_address_is_no_peer = record {
  settings = usual;
  happenings =
      brings (BigAims (big_aims 1 0 0)) []
      ∷ brings (Bigs (node 3001 ∷ [])) []
      ∷ brings (Bigs (node 3002 ∷ [])) (Peer (node 3002) note.Known ∷ [])
      ∷ [];
}

-- an answer is no failure: the peer fails for the first time as its connection goes
abbrev pub answer_is_no_failure : Trace
answer_is_no_failure = record {
  settings = usual;
  happenings =
      brings (Locals (group 0 1 true (node 3002 ∷ []) ∷ [])) (Peer (node 3002) note.Known ∷ [])
      ∷ brings (Govern 0) (Dial (cid 1) (node 3002) ∷ State (cid 1) state.ReservedOutbound ∷ [])
      ∷ brings (Dialed (cid 1) true) (
      State (cid 1) state.UnnegotiatedOutbound
      ∷ Send (cid 1) (bytes_of (codes "00000000000000118200a20d84182af401f40e84182af401f4"))
      ∷ [])
      ∷ brings (Bytes (cid 1) (bytes_of (codes "000000008000000983010e84182af401f4"))) (
      State (cid 1) state.OutboundDupTicking
      ∷ Peer (node 3002) note.Warm
      ∷ Send (cid 1) (bytes_of (codes "0000000000080003820001"))
      ∷ [])
      ∷ brings (Bytes (cid 1) (bytes_of (codes "0000000080080003820101"))) []
      ∷ brings (Closed (cid 1)) (State (cid 1) state.Terminated ∷ Peer (node 3002) note.Cold ∷ [])
      ∷ brings (Now 5000) []
      ∷ brings (Govern 0) (Dial (cid 2) (node 3002) ∷ State (cid 2) state.ReservedOutbound ∷ [])
      ∷ [];
}

-- accepting pauses where somebody comes, and not where somebody goes
abbrev pub accepting_goes_on_where_somebody_goes : Trace
accepting_goes_on_where_somebody_goes = record {
  settings = record usual { soft = 0 };
  happenings =
      brings (Accepted (node 3002)) (Admit (cid 1) (node 3002) ∷ State (cid 1) state.UnnegotiatedInbound ∷ Pause 9 ∷ [])
      ∷ brings (Accepted (node 3003)) (Admit (cid 2) (node 3003) ∷ State (cid 2) state.UnnegotiatedInbound ∷ Pause 19 ∷ [])
      ∷ brings (Closed (cid 1)) (State (cid 1) state.Terminated ∷ [])
      ∷ [];
}

-- who does not share peers is not asked for addresses
abbrev pub asked_only_where_agreed : Trace
asked_only_where_agreed = record {
  settings = usual;
  happenings =
      brings (Locals (group 0 1 true (node 3002 ∷ []) ∷ [])) (Peer (node 3002) note.Known ∷ [])
      ∷ brings (Govern 0) (Dial (cid 1) (node 3002) ∷ State (cid 1) state.ReservedOutbound ∷ [])
      ∷ brings (Dialed (cid 1) true) (
      State (cid 1) state.UnnegotiatedOutbound
      ∷ Send (cid 1) (bytes_of (codes "00000000000000118200a20d84182af401f40e84182af401f4"))
      ∷ [])
      ∷ brings (Bytes (cid 1) (bytes_of (codes "000000008000000983010e84182af400f4"))) (
      State (cid 1) state.OutboundDupTicking
      ∷ Peer (node 3002) note.Warm
      ∷ Send (cid 1) (bytes_of (codes "0000000000080003820001"))
      ∷ [])
      ∷ brings (Bytes (cid 1) (bytes_of (codes "0000000080080003820101"))) []
      ∷ brings (Aims (aims 0 3 0 0)) []
      ∷ brings (Govern 0) []
      ∷ [];
}

-- nobody is dialed in the time in which fewer are to be established
abbrev pub promoted_after_the_lowered_target : Trace
promoted_after_the_lowered_target = record {
  settings = usual;
  happenings =
      brings (Locals (group 0 1 true (node 3002 ∷ []) ∷ [])) (Peer (node 3002) note.Known ∷ [])
      ∷ brings (Locals []) []
      ∷ brings (Aims (aims 0 1 1 0)) []
      ∷ brings (Now 3180000) []
      ∷ brings (Govern 0) []
      ∷ brings (Now 3240000) []
      ∷ brings (Govern 0) (Dial (cid 1) (node 3002) ∷ State (cid 1) state.ReservedOutbound ∷ [])
      ∷ [];
}
