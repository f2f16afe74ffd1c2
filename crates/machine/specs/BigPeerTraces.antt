-- Big ledger peers.
use Rattle.std.specs.Prelude.{[], ◌∷◌, true, false, codes}
use Rattle.net_base.specs.declared.action.Action.TheVariants.{Dial, Send, AskRoots, State, Peer}
use Rattle.net_base.specs.declared.action.PeerNote.TheVariants as note
use Rattle.net_base.specs.declared.action.StateName.TheVariants as state
use Rattle.net_base.specs.declared.event.Event.TheVariants.{Now, Govern, Dialed, Bytes, Aims, Locals, Roots, BigAims, Bigs}
use Rattle.net_base.specs.declared.event.RootAnswer.TheVariants.{Found}
use Rattle.machine.specs.Traces.{Trace, brings, usual, node, cid, job, group, aims, big_aims, bytes_of}

-- those that failed less come first
abbrev pub big_fewer_failures_first : Trace
big_fewer_failures_first = record {
  settings = record usual { version = 2 };
  happenings =
      brings (BigAims (big_aims 5 1 0)) []
      ∷ brings (Bigs (node 3002 ∷ node 3003 ∷ [])) (Peer (node 3002) note.Known ∷ Peer (node 3003) note.Known ∷ [])
      ∷ brings (Govern 0) (Dial (cid 1) (node 3002) ∷ State (cid 1) state.ReservedOutbound ∷ [])
      ∷ brings (Dialed (cid 1) false) (State (cid 1) state.Terminated ∷ [])
      ∷ brings (Now 5000) []
      ∷ brings (Govern 0) (Dial (cid 2) (node 3003) ∷ State (cid 2) state.ReservedOutbound ∷ [])
      ∷ [];
}

-- a local peer is ordinary
abbrev pub big_made_ordinary_by_locals : Trace
big_made_ordinary_by_locals = record {
  settings = record usual { version = 2 };
  happenings =
      brings (BigAims (big_aims 5 1 0)) []
      ∷ brings (Bigs (node 3002 ∷ node 3003 ∷ [])) (Peer (node 3002) note.Known ∷ Peer (node 3003) note.Known ∷ [])
      ∷ brings (Locals (group 0 1 true (node 3002 ∷ []) ∷ [])) []
      ∷ brings (Govern 0) (
      Dial (cid 1) (node 3002)
      ∷ State (cid 1) state.ReservedOutbound
      ∷ Dial (cid 2) (node 3003)
      ∷ State (cid 2) state.ReservedOutbound
      ∷ [])
      ∷ [];
}

-- Each class has numbers of its own: with one peer of each, known, on its way, used, asked and hot, no rule of the one
-- counts the other.
abbrev pub big_counted_apart : Trace
big_counted_apart = record {
  settings = record usual { version = 2 };
  happenings =
      brings (Aims (aims 1 1 1 0)) []
      ∷ brings (Govern 0) (AskRoots (job 1) ∷ [])
      ∷ brings (BigAims (big_aims 1 1 0)) []
      ∷ brings (Bigs (node 3003 ∷ [])) (Peer (node 3003) note.Known ∷ [])
      ∷ brings (Govern 0) (Dial (cid 1) (node 3003) ∷ State (cid 1) state.ReservedOutbound ∷ [])
      ∷ brings (Roots (job 1) (Found 3600000 (node 3002 ∷ []))) (Peer (node 3002) note.Known ∷ [])
      ∷ brings (Govern 0) (Dial (cid 2) (node 3002) ∷ State (cid 2) state.ReservedOutbound ∷ [])
      ∷ brings (Dialed (cid 1) true) (
      State (cid 1) state.UnnegotiatedOutbound
      ∷ Send (cid 1) (bytes_of (codes "00000000000000118200a20d84182af401f40e84182af401f4"))
      ∷ [])
      ∷ brings (Dialed (cid 2) true) (
      State (cid 2) state.UnnegotiatedOutbound
      ∷ Send (cid 2) (bytes_of (codes "00000000000000118200a20d84182af401f40e84182af401f4"))
      ∷ [])
      ∷ brings (Bytes (cid 1) (bytes_of (codes "000000008000000983010e84182af401f4"))) (
      State (cid 1) state.OutboundDupTicking
      ∷ Peer (node 3003) note.Warm
      ∷ Send (cid 1) (bytes_of (codes "0000000000080003820001"))
      ∷ [])
      ∷ brings (Bytes (cid 2) (bytes_of (codes "000000008000000983010e84182af401f4"))) (
      State (cid 2) state.OutboundDupTicking
      ∷ Peer (node 3002) note.Warm
      ∷ Send (cid 2) (bytes_of (codes "0000000000080003820002"))
      ∷ [])
      ∷ brings (Bytes (cid 1) (bytes_of (codes "0000000080080003820101"))) []
      ∷ brings (Bytes (cid 2) (bytes_of (codes "0000000080080003820102"))) []
      ∷ brings (Govern 0) []
      ∷ brings (Aims (aims 1 2 1 0)) []
      ∷ brings (Govern 0) (Send (cid 2) (bytes_of (codes "00000000000a0003820001")) ∷ [])
      ∷ brings (BigAims (big_aims 1 1 1)) []
      ∷ brings (Govern 0) (Send (cid 1) (bytes_of (codes "0000000000020003820480")) ∷ [])
      ∷ brings (Aims (aims 1 2 1 1)) []
      ∷ brings (Govern 0) (Send (cid 2) (bytes_of (codes "0000000000020003820480")) ∷ [])
      ∷ brings (Bytes (cid 1) (bytes_of (codes "00000000800200058206828000"))) (Peer (node 3003) note.Hot ∷ [])
      ∷ brings (Bytes (cid 2) (bytes_of (codes "00000000800200058206828000"))) (Peer (node 3002) note.Hot ∷ [])
      ∷ brings (Govern 0) []
      ∷ [];
}

-- and each forgets by its own
abbrev pub big_forgotten_apart : Trace
big_forgotten_apart = record {
  settings = record usual { version = 2 };
  happenings =
      brings (Aims (aims 0 1 0 0)) []
      ∷ brings (Locals (group 0 1 true (node 3002 ∷ []) ∷ [])) (Peer (node 3002) note.Known ∷ [])
      ∷ brings (Locals []) []
      ∷ brings (BigAims (big_aims 1 0 0)) []
      ∷ brings (Bigs (node 3003 ∷ [])) (Peer (node 3003) note.Known ∷ [])
      ∷ brings (Govern 0) []
      ∷ brings (Aims (aims 0 0 0 0)) []
      ∷ brings (Govern 0) (Peer (node 3002) note.Forgotten ∷ [])
      ∷ brings (BigAims (big_aims 0 0 0)) []
      ∷ brings (Govern 0) (Peer (node 3003) note.Forgotten ∷ [])
      ∷ [];
}
