-- Peers and their targets under settings no two of which are equal.
use Rattle.std.specs.Prelude.{[], ◌∷◌, true, false, codes}
use Rattle.net_base.specs.declared.action.Action.TheVariants.{Dial, Send, AskRoots, State, Peer}
use Rattle.net_base.specs.declared.action.PeerNote.TheVariants as note
use Rattle.net_base.specs.declared.action.StateName.TheVariants as state
use Rattle.net_base.specs.declared.event.Event.TheVariants.{Now, Govern, Dialed, Bytes, Closed, Aims, Locals, Roots, BigAims, Bigs}
use Rattle.net_base.specs.declared.event.RootAnswer.TheVariants.{Found}
use Rattle.machine.specs.Traces.{Trace, brings, distinct, node, cid, job, group, aims, big_aims, bytes_of}

-- a connection in use forgets the failures before it
abbrev pub success_forgets_failures : Trace
success_forgets_failures = record {
  settings = distinct;
  happenings =
      brings (Locals (group 0 1 true (node 3002 ∷ []) ∷ [])) (Peer (node 3002) note.Known ∷ [])
      ∷ brings (Govern 0) (Dial (cid 1) (node 3002) ∷ State (cid 1) state.ReservedOutbound ∷ [])
      ∷ brings (Dialed (cid 1) false) (State (cid 1) state.Terminated ∷ [])
      ∷ brings (Now 2699) []
      ∷ brings (Govern 0) []
      ∷ brings (Now 2700) []
      ∷ brings (Govern 0) (Dial (cid 2) (node 3002) ∷ State (cid 2) state.ReservedOutbound ∷ [])
      ∷ brings (Dialed (cid 2) true) (
      State (cid 2) state.UnnegotiatedOutbound
      ∷ Send (cid 2) (bytes_of (codes "002932e0000000118200a20d84182af401f40e84182af401f4"))
      ∷ [])
      ∷ brings (Bytes (cid 2) (bytes_of (codes "000000008000000983010e84182af401f4"))) (
      State (cid 2) state.OutboundDupTicking
      ∷ Peer (node 3002) note.Warm
      ∷ Send (cid 2) (bytes_of (codes "002932e000080003820002"))
      ∷ [])
      ∷ brings (Closed (cid 2)) (State (cid 2) state.Terminated ∷ Peer (node 3002) note.Cold ∷ [])
      ∷ brings (Now 5399) []
      ∷ brings (Govern 0) []
      ∷ brings (Now 5400) []
      ∷ brings (Govern 0) (Dial (cid 3) (node 3002) ∷ State (cid 3) state.ReservedOutbound ∷ [])
      ∷ [];
}

-- a peer that has answered is asked again after the gap
abbrev pub asked_again_after_the_gap : Trace
asked_again_after_the_gap = record {
  settings = distinct;
  happenings =
      brings (Locals (group 0 1 true (node 3002 ∷ []) ∷ [])) (Peer (node 3002) note.Known ∷ [])
      ∷ brings (Govern 0) (Dial (cid 1) (node 3002) ∷ State (cid 1) state.ReservedOutbound ∷ [])
      ∷ brings (Dialed (cid 1) true) (
      State (cid 1) state.UnnegotiatedOutbound
      ∷ Send (cid 1) (bytes_of (codes "00000000000000118200a20d84182af401f40e84182af401f4"))
      ∷ [])
      ∷ brings (Bytes (cid 1) (bytes_of (codes "000000008000000983010e84182af401f4"))) (
      State (cid 1) state.OutboundDupTicking
      ∷ Peer (node 3002) note.Warm
      ∷ Send (cid 1) (bytes_of (codes "0000000000080003820001"))
      ∷ [])
      ∷ brings (Bytes (cid 1) (bytes_of (codes "0000000080080003820101"))) []
      ∷ brings (Aims (aims 0 3 0 0)) []
      ∷ brings (Govern 0) (Send (cid 1) (bytes_of (codes "00000000000a0003820002")) ∷ [])
      ∷ brings (Bytes (cid 1) (bytes_of (codes "00000000800a0003820180"))) []
      ∷ brings (Now 300) (State (cid 1) state.OutboundDupExpired ∷ [])
      ∷ brings (Now 6099) []
      ∷ brings (Govern 0) []
      ∷ brings (Now 6100) []
      ∷ brings (Govern 0) (Send (cid 1) (bytes_of (codes "005d1420000a0003820002")) ∷ [])
      ∷ [];
}

-- public roots are as many as the root target
abbrev pub roots_up_to_their_target : Trace
roots_up_to_their_target = record {
  settings = distinct;
  happenings =
      brings (Aims (aims 1 3 0 0)) []
      ∷ brings (Govern 0) (AskRoots (job 1) ∷ [])
      ∷ brings (Roots (job 1) (Found 3600000 (node 3002 ∷ node 3003 ∷ []))) (Peer (node 3002) note.Known ∷ [])
      ∷ [];
}

-- ---- near the end of the period of churn

-- fewer big ledger peers are to be established, and a minute later again as many
abbrev pub big_targets_lowered : Trace
big_targets_lowered = record {
  settings = distinct;
  happenings =
      brings (BigAims (big_aims 5 1 0)) []
      ∷ brings (Bigs (node 3002 ∷ [])) (Peer (node 3002) note.Known ∷ [])
      ∷ brings (Now 3180000) []
      ∷ brings (Govern 0) []
      ∷ brings (Now 3240000) []
      ∷ brings (Govern 0) (Dial (cid 1) (node 3002) ∷ State (cid 1) state.ReservedOutbound ∷ [])
      ∷ [];
}

-- fewer big ledger peers are to be known
abbrev pub bigs_below_the_lowered_target : Trace
bigs_below_the_lowered_target = record {
  settings = distinct;
  happenings =
      brings (BigAims (big_aims 2 0 0)) []
      ∷ brings (Now 3240000) []
      ∷ brings (Bigs (node 3002 ∷ node 3003 ∷ [])) (Peer (node 3002) note.Known ∷ [])
      ∷ brings (Now 3300000) []
      ∷ brings (Bigs (node 3003 ∷ [])) (Peer (node 3003) note.Known ∷ [])
      ∷ [];
}

-- fewer ordinary peers are to be known than when a peer was asked
abbrev pub answer_below_the_lowered_target : Trace
answer_below_the_lowered_target = record {
  settings = distinct;
  happenings =
      brings (Now 3239000) []
      ∷ brings (Locals (group 0 1 true (node 3002 ∷ []) ∷ [])) (Peer (node 3002) note.Known ∷ [])
      ∷ brings (Govern 0) (Dial (cid 1) (node 3002) ∷ State (cid 1) state.ReservedOutbound ∷ [])
      ∷ brings (Dialed (cid 1) true) (
      State (cid 1) state.UnnegotiatedOutbound
      ∷ Send (cid 1) (bytes_of (codes "c10f37c0000000118200a20d84182af401f40e84182af401f4"))
      ∷ [])
      ∷ brings (Bytes (cid 1) (bytes_of (codes "000000008000000983010e84182af401f4"))) (
      State (cid 1) state.OutboundDupTicking
      ∷ Peer (node 3002) note.Warm
      ∷ Send (cid 1) (bytes_of (codes "c10f37c000080003820001"))
      ∷ [])
      ∷ brings (Bytes (cid 1) (bytes_of (codes "0000000080080003820101"))) []
      ∷ brings (Aims (aims 0 3 0 0)) []
      ∷ brings (Govern 0) (Send (cid 1) (bytes_of (codes "c10f37c0000a0003820002")) ∷ [])
      ∷ brings (Now 3240000) (State (cid 1) state.OutboundDupExpired ∷ [])
      ∷ brings (Bytes (cid 1) (bytes_of (codes "00000000800a001782018283001a7f000001190bbb83001a7f000001190bbc"))) (Peer (node 3003) note.Known ∷ [])
      ∷ [];
}
