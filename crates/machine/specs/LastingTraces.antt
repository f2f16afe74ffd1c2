-- What an event does once, and what it leaves as it was.
use Rattle.std.specs.Prelude.{[], ◌∷◌, true, codes}
use Rattle.net_base.specs.declared.action.Action.TheVariants.{Admit, Turnaway, Dial, Send, AskRoots, Close, State, Peer}
use Rattle.net_base.specs.declared.action.Away.TheVariants.{Full, OwnAddr, Present}
use Rattle.net_base.specs.declared.action.CloseCause.TheVariants.{Unused, Overwritten, Fault}
use Rattle.net_base.specs.declared.action.FaultKind.TheVariants.{ReplyWait}
use Rattle.net_base.specs.declared.action.PeerNote.TheVariants as note
use Rattle.net_base.specs.declared.action.StateName.TheVariants as state
use Rattle.net_base.specs.declared.event.Event.TheVariants.{Now, Govern, Accepted, Dialed, Bytes, Closed, Aims, Locals, Roots}
use Rattle.net_base.specs.declared.event.RootAnswer.TheVariants.{Found}
use Rattle.machine.specs.Traces.{Trace, brings, usual, distinct, node, cid, job, group, aims, bytes_of}

-- public roots stay until a new answer, though no peer is wanted
abbrev pub public_roots_stay : Trace
public_roots_stay = record {
  settings = usual;
  happenings =
      brings (Aims (aims 1 1 0 0)) []
      ∷ brings (Govern 0) (AskRoots (job 1) ∷ [])
      ∷ brings (Roots (job 1) (Found 3600000 (node 3003 ∷ []))) (Peer (node 3003) note.Known ∷ [])
      ∷ brings (Aims (aims 0 0 0 0)) []
      ∷ brings (Govern 0) []
      ∷ [];
}

-- nobody is dialed beside a connection that waits its time
abbrev pub dialed_after_the_time_wait : Trace
dialed_after_the_time_wait = record {
  settings = usual;
  happenings =
      brings (Accepted (node 3002)) (Admit (cid 1) (node 3002) ∷ State (cid 1) state.UnnegotiatedInbound ∷ [])
      ∷ brings (Bytes (cid 1) (bytes_of (codes "00000000000000118200a20d84182af401f40e84182af401f4"))) (
      Send (cid 1) (bytes_of (codes "000000008000000983010e84182af401f4"))
      ∷ State (cid 1) state.InboundIdle
      ∷ [])
      ∷ brings (Now 5000) (Close (cid 1) Unused ∷ State (cid 1) state.Terminating ∷ [])
      ∷ brings (Locals (group 0 1 true (node 3002 ∷ []) ∷ [])) (Peer (node 3002) note.Known ∷ [])
      ∷ brings (Govern 0) []
      ∷ brings (Now 65000) (State (cid 1) state.Terminated ∷ [])
      ∷ brings (Govern 0) (Dial (cid 2) (node 3002) ∷ State (cid 2) state.ReservedOutbound ∷ [])
      ∷ [];
}

-- the first cause turns away: the own address before the limit, and the limit before a crossing
abbrev pub turned_away_for_the_first_cause : Trace
turned_away_for_the_first_cause = record {
  settings = record usual { own = node 3005; hard = 1; soft = 1 };
  happenings =
      brings (Locals (group 0 1 true (node 3002 ∷ []) ∷ [])) (Peer (node 3002) note.Known ∷ [])
      ∷ brings (Govern 0) (Dial (cid 1) (node 3002) ∷ State (cid 1) state.ReservedOutbound ∷ [])
      ∷ brings (Accepted (node 3003)) (Admit (cid 2) (node 3003) ∷ State (cid 2) state.UnnegotiatedInbound ∷ [])
      ∷ brings (Accepted (node 3005)) (Turnaway OwnAddr ∷ [])
      ∷ brings (Accepted (node 3002)) (Turnaway Full ∷ [])
      ∷ brings (Closed (cid 2)) (State (cid 2) state.Terminated ∷ [])
      ∷ brings (Accepted (node 3002)) (
      Close (cid 1) Overwritten
      ∷ State (cid 1) state.Terminated
      ∷ Admit (cid 3) (node 3002)
      ∷ State (cid 3) state.UnnegotiatedInbound
      ∷ [])
      ∷ [];
}

-- what comes in on one connection leaves the grace of another
abbrev pub one_grace_goes_on : Trace
one_grace_goes_on = record {
  settings = usual;
  happenings =
      brings (Accepted (node 3002)) (Admit (cid 1) (node 3002) ∷ State (cid 1) state.UnnegotiatedInbound ∷ [])
      ∷ brings (Accepted (node 3003)) (Admit (cid 2) (node 3003) ∷ State (cid 2) state.UnnegotiatedInbound ∷ [])
      ∷ brings (Bytes (cid 1) (bytes_of (codes "00000000000000118200a20d84182af401f40e84182af401f4"))) (
      Send (cid 1) (bytes_of (codes "000000008000000983010e84182af401f4"))
      ∷ State (cid 1) state.InboundIdle
      ∷ [])
      ∷ brings (Bytes (cid 2) (bytes_of (codes "00000000000000118200a20d84182af401f40e84182af401f4"))) (
      Send (cid 2) (bytes_of (codes "000000008000000983010e84182af401f4"))
      ∷ State (cid 2) state.InboundIdle
      ∷ [])
      ∷ brings (Bytes (cid 2) (bytes_of (codes "0000000000080003820007"))) (
      State (cid 2) state.Inbound
      ∷ Send (cid 2) (bytes_of (codes "0000000080080003820107"))
      ∷ [])
      ∷ brings (Now 5000) (Close (cid 1) Unused ∷ State (cid 1) state.Terminating ∷ [])
      ∷ [];
}

-- a connection that is closed while it greets has ended, and its handshake is late no more
abbrev pub greeting_closed_ends_once : Trace
greeting_closed_ends_once = record {
  settings = usual;
  happenings =
      brings (Accepted (node 3002)) (Admit (cid 1) (node 3002) ∷ State (cid 1) state.UnnegotiatedInbound ∷ [])
      ∷ brings (Closed (cid 1)) (State (cid 1) state.Terminated ∷ [])
      ∷ brings (Now 10000) []
      ∷ [];
}

-- a dial is proposed to once, its connection is asked once whether it is alive, and an answer is not answered
abbrev pub asked_once : Trace
asked_once = record {
  settings = usual;
  happenings =
      brings (Locals (group 0 1 true (node 3002 ∷ []) ∷ [])) (Peer (node 3002) note.Known ∷ [])
      ∷ brings (Govern 0) (Dial (cid 1) (node 3002) ∷ State (cid 1) state.ReservedOutbound ∷ [])
      ∷ brings (Govern 0) []
      ∷ brings (Dialed (cid 1) true) (
      State (cid 1) state.UnnegotiatedOutbound
      ∷ Send (cid 1) (bytes_of (codes "00000000000000118200a20d84182af401f40e84182af401f4"))
      ∷ [])
      ∷ brings (Govern 0) []
      ∷ brings (Bytes (cid 1) (bytes_of (codes "000000008000000983010e84182af401f4"))) (
      State (cid 1) state.OutboundDupTicking
      ∷ Peer (node 3002) note.Warm
      ∷ Send (cid 1) (bytes_of (codes "0000000000080003820001"))
      ∷ [])
      ∷ brings (Govern 0) []
      ∷ brings (Bytes (cid 1) (bytes_of (codes "0000000080080003820101"))) []
      ∷ brings (Govern 0) []
      ∷ [];
}

-- a peer is released once nothing is awaited of it
abbrev pub released_once_it_has_answered : Trace
released_once_it_has_answered = record {
  settings = usual;
  happenings =
      brings (Locals (group 0 1 true (node 3002 ∷ []) ∷ [])) (Peer (node 3002) note.Known ∷ [])
      ∷ brings (Govern 0) (Dial (cid 1) (node 3002) ∷ State (cid 1) state.ReservedOutbound ∷ [])
      ∷ brings (Dialed (cid 1) true) (
      State (cid 1) state.UnnegotiatedOutbound
      ∷ Send (cid 1) (bytes_of (codes "00000000000000118200a20d84182af401f40e84182af401f4"))
      ∷ [])
      ∷ brings (Bytes (cid 1) (bytes_of (codes "000000008000000983010e84182af401f4"))) (
      State (cid 1) state.OutboundDupTicking
      ∷ Peer (node 3002) note.Warm
      ∷ Send (cid 1) (bytes_of (codes "0000000000080003820001"))
      ∷ [])
      ∷ brings (Locals []) []
      ∷ brings (Govern 0) []
      ∷ brings (Bytes (cid 1) (bytes_of (codes "0000000080080003820101"))) []
      ∷ brings (Govern 0) (
      Send (cid 1) (bytes_of (codes "00000000000a00028102"))
      ∷ Send (cid 1) (bytes_of (codes "00000000000800028102"))
      ∷ State (cid 1) state.InboundIdle
      ∷ Peer (node 3002) note.Cold
      ∷ [])
      ∷ [];
}

-- one whose connection was closed and waits its time is let in again
abbrev pub let_in_beside_a_time_wait : Trace
let_in_beside_a_time_wait = record {
  settings = usual;
  happenings =
      brings (Accepted (node 3002)) (Admit (cid 1) (node 3002) ∷ State (cid 1) state.UnnegotiatedInbound ∷ [])
      ∷ brings (Bytes (cid 1) (bytes_of (codes "00000000000000118200a20d84182af401f40e84182af401f4"))) (
      Send (cid 1) (bytes_of (codes "000000008000000983010e84182af401f4"))
      ∷ State (cid 1) state.InboundIdle
      ∷ [])
      ∷ brings (Accepted (node 3002)) (Turnaway Present ∷ [])
      ∷ brings (Now 5000) (Close (cid 1) Unused ∷ State (cid 1) state.Terminating ∷ [])
      ∷ brings (Accepted (node 3002)) (Admit (cid 2) (node 3002) ∷ State (cid 2) state.UnnegotiatedInbound ∷ [])
      ∷ [];
}

-- one that waits its time stays until that is over, though the other side closes it too
abbrev pub closed_in_its_time_wait : Trace
closed_in_its_time_wait = record {
  settings = usual;
  happenings =
      brings (Accepted (node 3002)) (Admit (cid 1) (node 3002) ∷ State (cid 1) state.UnnegotiatedInbound ∷ [])
      ∷ brings (Bytes (cid 1) (bytes_of (codes "00000000000000118200a20d84182af401f40e84182af401f4"))) (
      Send (cid 1) (bytes_of (codes "000000008000000983010e84182af401f4"))
      ∷ State (cid 1) state.InboundIdle
      ∷ [])
      ∷ brings (Now 5000) (Close (cid 1) Unused ∷ State (cid 1) state.Terminating ∷ [])
      ∷ brings (Closed (cid 1)) []
      ∷ brings (Now 64999) []
      ∷ brings (Now 65000) (State (cid 1) state.Terminated ∷ [])
      ∷ [];
}

-- what is not decoded yet of one connection is left by the bytes of another
abbrev pub halves_on_two_connections : Trace
halves_on_two_connections = record {
  settings = usual;
  happenings =
      brings (Accepted (node 3002)) (Admit (cid 1) (node 3002) ∷ State (cid 1) state.UnnegotiatedInbound ∷ [])
      ∷ brings (Accepted (node 3003)) (Admit (cid 2) (node 3003) ∷ State (cid 2) state.UnnegotiatedInbound ∷ [])
      ∷ brings (Bytes (cid 1) (bytes_of (codes "00000000000000118200a20d"))) []
      ∷ brings (Bytes (cid 2) (bytes_of (codes "00000000000000118200a20d84"))) []
      ∷ brings (Bytes (cid 1) (bytes_of (codes "84182af401f40e84182af401f4"))) (
      Send (cid 1) (bytes_of (codes "000000008000000983010e84182af401f4"))
      ∷ State (cid 1) state.InboundIdle
      ∷ [])
      ∷ brings (Bytes (cid 2) (bytes_of (codes "182af401f40e84182af401f4"))) (
      Send (cid 2) (bytes_of (codes "000000008000000983010e84182af401f4"))
      ∷ State (cid 2) state.InboundIdle
      ∷ [])
      ∷ [];
}

-- an answer on one protocol ends the wait for it, and neither ends nor renews the one for another
abbrev pub one_answer_leaves_the_other_wait : Trace
one_answer_leaves_the_other_wait = record {
  settings = distinct;
  happenings =
      brings (Locals (group 1 1 true (node 3002 ∷ []) ∷ [])) (Peer (node 3002) note.Known ∷ [])
      ∷ brings (Govern 0) (Dial (cid 1) (node 3002) ∷ State (cid 1) state.ReservedOutbound ∷ [])
      ∷ brings (Dialed (cid 1) true) (
      State (cid 1) state.UnnegotiatedOutbound
      ∷ Send (cid 1) (bytes_of (codes "00000000000000118200a20d84182af401f40e84182af401f4"))
      ∷ [])
      ∷ brings (Bytes (cid 1) (bytes_of (codes "000000008000000983010e84182af401f4"))) (
      State (cid 1) state.OutboundDupTicking
      ∷ Peer (node 3002) note.Warm
      ∷ Send (cid 1) (bytes_of (codes "0000000000080003820001"))
      ∷ [])
      ∷ brings (Now 200) []
      ∷ brings (Govern 0) (Send (cid 1) (bytes_of (codes "00030d4000020003820480")) ∷ [])
      ∷ brings (Now 300) (State (cid 1) state.OutboundDupExpired ∷ [])
      ∷ brings (Bytes (cid 1) (bytes_of (codes "0000000080080003820101"))) []
      ∷ brings (Now 2099) []
      ∷ brings (Now 2100) (
      Close (cid 1) (Fault ReplyWait)
      ∷ State (cid 1) state.Terminated
      ∷ Peer (node 3002) note.Cold
      ∷ [])
      ∷ [];
}

-- where a connection goes that this node does not use, its peer has not failed, and is dialed at once
abbrev pub unused_end_is_no_failure : Trace
unused_end_is_no_failure = record {
  settings = usual;
  happenings =
      brings (Accepted (node 3002)) (Admit (cid 1) (node 3002) ∷ State (cid 1) state.UnnegotiatedInbound ∷ [])
      ∷ brings (Bytes (cid 1) (bytes_of (codes "00000000000000118200a20d84182af401f40e84182af401f4"))) (
      Send (cid 1) (bytes_of (codes "000000008000000983010e84182af401f4"))
      ∷ State (cid 1) state.InboundIdle
      ∷ [])
      ∷ brings (Locals (group 0 1 true (node 3002 ∷ []) ∷ [])) (Peer (node 3002) note.Known ∷ [])
      ∷ brings (Closed (cid 1)) (State (cid 1) state.Terminated ∷ [])
      ∷ brings (Govern 0) (Dial (cid 2) (node 3002) ∷ State (cid 2) state.ReservedOutbound ∷ [])
      ∷ [];
}
