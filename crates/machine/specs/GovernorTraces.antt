-- The governor and its peers.
use Rattle.std.specs.Prelude.{[], ◌∷◌, true, false, codes}
use Rattle.net_base.specs.declared.action.Action.TheVariants.{Dial, Send, AskRoots, State, Peer}
use Rattle.net_base.specs.declared.action.PeerNote.TheVariants as note
use Rattle.net_base.specs.declared.action.StateName.TheVariants as state
use Rattle.net_base.specs.declared.event.Event.TheVariants.{Now, Govern, Dialed, Bytes, Aims, Locals, Roots}
use Rattle.net_base.specs.declared.event.RootAnswer.TheVariants.{Found}
use Rattle.machine.specs.Traces.{Trace, brings, usual, node, cid, job, group, aims, bytes_of}

-- root peers are asked for and dialed
abbrev pub targets_ask_roots_and_dial : Trace
targets_ask_roots_and_dial = record {
  settings = usual;
  happenings =
      brings (Aims (aims 3 5 2 0)) []
      ∷ brings (Govern 0) (AskRoots (job 1) ∷ [])
      ∷ brings (Roots (job 1) (Found 3600000 (node 3002 ∷ node 3003 ∷ node 3004 ∷ []))) (
      Peer (node 3002) note.Known
      ∷ Peer (node 3003) note.Known
      ∷ Peer (node 3004) note.Known
      ∷ [])
      ∷ brings (Govern 0) (
      Dial (cid 1) (node 3002)
      ∷ State (cid 1) state.ReservedOutbound
      ∷ Dial (cid 2) (node 3003)
      ∷ State (cid 2) state.ReservedOutbound
      ∷ [])
      ∷ [];
}

-- the peer of least score is released
abbrev pub release_least_score : Trace
release_least_score = record {
  settings = record usual { sharing = 0 };
  happenings =
      brings (Aims (aims 3 5 2 0)) []
      ∷ brings (Govern 0) (AskRoots (job 1) ∷ [])
      ∷ brings (Roots (job 1) (Found 3600000 (node 3002 ∷ node 3003 ∷ node 3004 ∷ []))) (
      Peer (node 3002) note.Known
      ∷ Peer (node 3003) note.Known
      ∷ Peer (node 3004) note.Known
      ∷ [])
      ∷ brings (Govern 0) (
      Dial (cid 1) (node 3002)
      ∷ State (cid 1) state.ReservedOutbound
      ∷ Dial (cid 2) (node 3003)
      ∷ State (cid 2) state.ReservedOutbound
      ∷ [])
      ∷ brings (Dialed (cid 1) true) (
      State (cid 1) state.UnnegotiatedOutbound
      ∷ Send (cid 1) (bytes_of (codes "00000000000000118200a20d84182af400f40e84182af400f4"))
      ∷ [])
      ∷ brings (Dialed (cid 2) true) (
      State (cid 2) state.UnnegotiatedOutbound
      ∷ Send (cid 2) (bytes_of (codes "00000000000000118200a20d84182af400f40e84182af400f4"))
      ∷ [])
      ∷ brings (Bytes (cid 1) (bytes_of (codes "000000008000000983010e84182af401f4"))) (
      State (cid 1) state.OutboundDupTicking
      ∷ Peer (node 3002) note.Warm
      ∷ Send (cid 1) (bytes_of (codes "0000000000080003820001"))
      ∷ [])
      ∷ brings (Bytes (cid 2) (bytes_of (codes "000000008000000983010e84182af401f4"))) (
      State (cid 2) state.OutboundDupTicking
      ∷ Peer (node 3003) note.Warm
      ∷ Send (cid 2) (bytes_of (codes "0000000000080003820002"))
      ∷ [])
      ∷ brings (Bytes (cid 1) (bytes_of (codes "0000000080080003820101"))) []
      ∷ brings (Bytes (cid 2) (bytes_of (codes "0000000080080003820102"))) []
      ∷ brings (Aims (aims 3 5 1 0)) []
      ∷ brings (Govern 0) (Send (cid 1) (bytes_of (codes "00000000000800028102")) ∷ State (cid 1) state.InboundIdle ∷ Peer (node 3002) note.Cold ∷ [])
      ∷ [];
}

-- a score wraps
abbrev pub release_score_wraps : Trace
release_score_wraps = record {
  settings = record usual { sharing = 0 };
  happenings =
      brings (Aims (aims 3 5 2 0)) []
      ∷ brings (Govern 0) (AskRoots (job 1) ∷ [])
      ∷ brings (Roots (job 1) (Found 3600000 (node 3002 ∷ node 3003 ∷ node 3004 ∷ []))) (
      Peer (node 3002) note.Known
      ∷ Peer (node 3003) note.Known
      ∷ Peer (node 3004) note.Known
      ∷ [])
      ∷ brings (Govern 0) (
      Dial (cid 1) (node 3002)
      ∷ State (cid 1) state.ReservedOutbound
      ∷ Dial (cid 2) (node 3003)
      ∷ State (cid 2) state.ReservedOutbound
      ∷ [])
      ∷ brings (Dialed (cid 1) true) (
      State (cid 1) state.UnnegotiatedOutbound
      ∷ Send (cid 1) (bytes_of (codes "00000000000000118200a20d84182af400f40e84182af400f4"))
      ∷ [])
      ∷ brings (Dialed (cid 2) true) (
      State (cid 2) state.UnnegotiatedOutbound
      ∷ Send (cid 2) (bytes_of (codes "00000000000000118200a20d84182af400f40e84182af400f4"))
      ∷ [])
      ∷ brings (Bytes (cid 1) (bytes_of (codes "000000008000000983010e84182af401f4"))) (
      State (cid 1) state.OutboundDupTicking
      ∷ Peer (node 3002) note.Warm
      ∷ Send (cid 1) (bytes_of (codes "0000000000080003820001"))
      ∷ [])
      ∷ brings (Bytes (cid 2) (bytes_of (codes "000000008000000983010e84182af401f4"))) (
      State (cid 2) state.OutboundDupTicking
      ∷ Peer (node 3003) note.Warm
      ∷ Send (cid 2) (bytes_of (codes "0000000000080003820002"))
      ∷ [])
      ∷ brings (Bytes (cid 1) (bytes_of (codes "0000000080080003820101"))) []
      ∷ brings (Bytes (cid 2) (bytes_of (codes "0000000080080003820102"))) []
      ∷ brings (Aims (aims 3 5 1 0)) []
      ∷ brings (Govern 18446604435732755525) (
      Send (cid 2) (bytes_of (codes "00000000000800028102"))
      ∷ State (cid 2) state.InboundIdle
      ∷ Peer (node 3003) note.Cold
      ∷ [])
      ∷ [];
}

-- a dial on its way counts
abbrev pub pending_counts : Trace
pending_counts = record {
  settings = usual;
  happenings =
      brings (Aims (aims 2 2 1 0)) []
      ∷ brings (Govern 0) (AskRoots (job 1) ∷ [])
      ∷ brings (Roots (job 1) (Found 3600000 (node 3002 ∷ node 3003 ∷ []))) (Peer (node 3002) note.Known ∷ Peer (node 3003) note.Known ∷ [])
      ∷ brings (Govern 0) (Dial (cid 1) (node 3002) ∷ State (cid 1) state.ReservedOutbound ∷ [])
      ∷ brings (Govern 0) []
      ∷ [];
}

-- the first back-off
abbrev pub backoff_first : Trace
backoff_first = record {
  settings = usual;
  happenings =
      brings (Locals (group 0 1 true (node 3002 ∷ []) ∷ [])) (Peer (node 3002) note.Known ∷ [])
      ∷ brings (Govern 0) (Dial (cid 1) (node 3002) ∷ State (cid 1) state.ReservedOutbound ∷ [])
      ∷ brings (Dialed (cid 1) false) (State (cid 1) state.Terminated ∷ [])
      ∷ brings (Now 4999) []
      ∷ brings (Govern 0) []
      ∷ brings (Now 5000) []
      ∷ brings (Govern 0) (Dial (cid 2) (node 3002) ∷ State (cid 2) state.ReservedOutbound ∷ [])
      ∷ [];
}

-- seven failures in a row
abbrev pub backoff_seven_failures : Trace
backoff_seven_failures = record {
  settings = usual;
  happenings =
      brings (Locals (group 0 1 true (node 3002 ∷ []) ∷ [])) (Peer (node 3002) note.Known ∷ [])
      ∷ brings (Govern 0) (Dial (cid 1) (node 3002) ∷ State (cid 1) state.ReservedOutbound ∷ [])
      ∷ brings (Dialed (cid 1) false) (State (cid 1) state.Terminated ∷ [])
      ∷ brings (Now 4999) []
      ∷ brings (Govern 0) []
      ∷ brings (Now 5000) []
      ∷ brings (Govern 0) (Dial (cid 2) (node 3002) ∷ State (cid 2) state.ReservedOutbound ∷ [])
      ∷ brings (Dialed (cid 2) false) (State (cid 2) state.Terminated ∷ [])
      ∷ brings (Now 14999) []
      ∷ brings (Govern 0) []
      ∷ brings (Now 15000) []
      ∷ brings (Govern 0) (Dial (cid 3) (node 3002) ∷ State (cid 3) state.ReservedOutbound ∷ [])
      ∷ brings (Dialed (cid 3) false) (State (cid 3) state.Terminated ∷ [])
      ∷ brings (Now 34999) []
      ∷ brings (Govern 0) []
      ∷ brings (Now 35000) []
      ∷ brings (Govern 0) (Dial (cid 4) (node 3002) ∷ State (cid 4) state.ReservedOutbound ∷ [])
      ∷ brings (Dialed (cid 4) false) (State (cid 4) state.Terminated ∷ [])
      ∷ brings (Now 74999) []
      ∷ brings (Govern 0) []
      ∷ brings (Now 75000) []
      ∷ brings (Govern 0) (Dial (cid 5) (node 3002) ∷ State (cid 5) state.ReservedOutbound ∷ [])
      ∷ brings (Dialed (cid 5) false) (State (cid 5) state.Terminated ∷ [])
      ∷ brings (Now 154999) []
      ∷ brings (Govern 0) []
      ∷ brings (Now 155000) []
      ∷ brings (Govern 0) (Dial (cid 6) (node 3002) ∷ State (cid 6) state.ReservedOutbound ∷ [])
      ∷ brings (Dialed (cid 6) false) (State (cid 6) state.Terminated ∷ [])
      ∷ brings (Now 314999) []
      ∷ brings (Govern 0) []
      ∷ brings (Now 315000) []
      ∷ brings (Govern 0) (Dial (cid 7) (node 3002) ∷ State (cid 7) state.ReservedOutbound ∷ [])
      ∷ brings (Dialed (cid 7) false) (State (cid 7) state.Terminated ∷ [])
      ∷ brings (Now 474999) []
      ∷ brings (Govern 0) []
      ∷ brings (Now 475000) []
      ∷ brings (Govern 0) (Dial (cid 8) (node 3002) ∷ State (cid 8) state.ReservedOutbound ∷ [])
      ∷ [];
}

-- local peers are dialed beyond a target of none
abbrev pub local_valency_above_target : Trace
local_valency_above_target = record {
  settings = usual;
  happenings =
      brings (Locals (group 1 2 true (node 3002 ∷ node 3003 ∷ node 3004 ∷ []) ∷ group 0 1 false (node 3002 ∷ []) ∷ [])) (
      Peer (node 3002) note.Known
      ∷ Peer (node 3003) note.Known
      ∷ Peer (node 3004) note.Known
      ∷ [])
      ∷ brings (Govern 0) (
      Dial (cid 1) (node 3002)
      ∷ State (cid 1) state.ReservedOutbound
      ∷ Dial (cid 2) (node 3003)
      ∷ State (cid 2) state.ReservedOutbound
      ∷ [])
      ∷ [];
}

-- an address keeps its first place
abbrev pub locals_cleaned : Trace
locals_cleaned = record {
  settings = usual;
  happenings =
      brings (Locals (group 1 2 true (node 3002 ∷ node 3003 ∷ node 3001 ∷ node 3002 ∷ []) ∷ group 0 1 false (node 3002 ∷ node 3004 ∷ []) ∷ [])) (
      Peer (node 3002) note.Known
      ∷ Peer (node 3003) note.Known
      ∷ Peer (node 3004) note.Known
      ∷ [])
      ∷ brings (Roots (job 1) (Found 1000 (node 3005 ∷ []))) []
      ∷ [];
}

-- a round of decisions, the answers to it, and the next round
abbrev pub one_round : Trace
one_round = record {
  settings = usual;
  happenings =
      brings (Locals (group 1 1 true (node 3002 ∷ []) ∷ [])) (Peer (node 3002) note.Known ∷ [])
      ∷ brings (Aims (aims 2 4 2 1)) []
      ∷ brings (Govern 0) (AskRoots (job 1) ∷ Dial (cid 1) (node 3002) ∷ State (cid 1) state.ReservedOutbound ∷ [])
      ∷ brings (Roots (job 1) (Found 3600000 (node 3003 ∷ node 3004 ∷ []))) (Peer (node 3003) note.Known ∷ Peer (node 3004) note.Known ∷ [])
      ∷ brings (Dialed (cid 1) true) (
      State (cid 1) state.UnnegotiatedOutbound
      ∷ Send (cid 1) (bytes_of (codes "00000000000000118200a20d84182af401f40e84182af401f4"))
      ∷ [])
      ∷ brings (Bytes (cid 1) (bytes_of (codes "000000008000000983010e84182af401f4"))) (
      State (cid 1) state.OutboundDupTicking
      ∷ Peer (node 3002) note.Warm
      ∷ Send (cid 1) (bytes_of (codes "0000000000080003820001"))
      ∷ [])
      ∷ brings (Bytes (cid 1) (bytes_of (codes "0000000080080003820101"))) []
      ∷ brings (Govern 0) (
      Send (cid 1) (bytes_of (codes "00000000000a0003820001"))
      ∷ Dial (cid 2) (node 3003)
      ∷ State (cid 2) state.ReservedOutbound
      ∷ Send (cid 1) (bytes_of (codes "0000000000020003820480"))
      ∷ [])
      ∷ brings (Bytes (cid 1) (bytes_of (codes "00000000800200058206828000"))) (Peer (node 3002) note.Hot ∷ [])
      ∷ brings (Dialed (cid 2) false) (State (cid 2) state.Terminated ∷ [])
      ∷ brings (Govern 0) (Dial (cid 3) (node 3004) ∷ State (cid 3) state.ReservedOutbound ∷ [])
      ∷ [];
}
