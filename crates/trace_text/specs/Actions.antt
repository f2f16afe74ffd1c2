-- How actions are printed.
use Rattle.std.specs.Prelude.{ℕ, List, [], ◌∷◌, ◌++◌, codes, decimal}
use Rattle.std.specs.List.{join_with_byte}
use Rattle.net_base.specs.declared.action.Action.{Action}
use Rattle.net_base.specs.declared.action.Action.TheVariants as actions
use Rattle.net_base.specs.declared.action.Away.{Away}
use Rattle.net_base.specs.declared.action.Away.TheVariants as away
use Rattle.net_base.specs.declared.action.CloseCause.{CloseCause}
use Rattle.net_base.specs.declared.action.CloseCause.TheVariants as cause
use Rattle.net_base.specs.declared.action.FaultKind.{FaultKind}
use Rattle.net_base.specs.declared.action.FaultKind.TheVariants as fault
use Rattle.net_base.specs.declared.action.PeerNote.{PeerNote}
use Rattle.net_base.specs.declared.action.PeerNote.TheVariants as note
use Rattle.net_base.specs.declared.action.StateName.{StateName}
use Rattle.net_base.specs.declared.action.StateName.TheVariants as state
use Rattle.trace_text.specs.Addresses.{printed_address}
use Rattle.trace_text.specs.Bytes.{bytes_words}

abbrev pub away_word : Away → List ℕ
away_word away.Full = codes "full"
away_word away.OwnAddr = codes "self"
away_word away.Crossed = codes "crossed"
away_word away.Present = codes "present"

-- `fault` and its kind
abbrev pub fault_words : FaultKind → List ℕ
fault_words fault.Malformed = codes "fault malformed"
fault_words fault.Deep = codes "fault deep"
fault_words fault.TooLong = codes "fault toolong"
fault_words fault.Protocol = codes "fault protocol"
fault_words fault.UnknownId = codes "fault unknownid"
fault_words fault.HandshakeWait = codes "fault handshakewait"
fault_words fault.ReplyWait = codes "fault replywait"

abbrev pub cause_words : CloseCause → List ℕ
cause_words cause.Unused = codes "unused"
cause_words cause.Pruned = codes "pruned"
cause_words cause.Overwritten = codes "overwritten"
cause_words cause.Refused = codes "refused"
cause_words cause.Query = codes "query"
cause_words (cause.Fault kind) = fault_words kind

abbrev pub note_word : PeerNote → List ℕ
note_word note.Known = codes "known"
note_word note.Cold = codes "cold"
note_word note.Warm = codes "warm"
note_word note.Hot = codes "hot"
note_word note.Forgotten = codes "forgotten"

abbrev pub state_word : StateName → List ℕ
state_word state.ReservedOutbound = codes "ReservedOutbound"
state_word state.UnnegotiatedInbound = codes "UnnegotiatedInbound"
state_word state.UnnegotiatedOutbound = codes "UnnegotiatedOutbound"
state_word state.Duplex = codes "Duplex"
state_word state.OutboundUni = codes "OutboundUni"
state_word state.OutboundDupTicking = codes "OutboundDupTicking"
state_word state.OutboundDupExpired = codes "OutboundDupExpired"
state_word state.Inbound = codes "Inbound"
state_word state.InboundIdle = codes "InboundIdle"
state_word state.OutboundIdle = codes "OutboundIdle"
state_word state.Terminating = codes "Terminating"
state_word state.Terminated = codes "Terminated"

abbrev pub action_words : Action → List (List ℕ)
action_words (actions.Admit cid address) = codes "admit" ∷ decimal cid.0 ∷ printed_address address ∷ []
action_words (actions.Turnaway why) = codes "turnaway" ∷ away_word why ∷ []
action_words (actions.Dial cid address) = codes "dial" ∷ decimal cid.0 ∷ printed_address address ∷ []
action_words (actions.Send cid bytes) = bytes_words (codes "send") cid.0 bytes
action_words (actions.Close cid why) = codes "close" ∷ decimal cid.0 ∷ cause_words why ∷ []
action_words (actions.Pause time) = codes "pause" ∷ decimal time ∷ []
action_words (actions.AskRoots job) = codes "askroots" ∷ decimal job.0 ∷ []
action_words (actions.State cid name) = codes "state" ∷ decimal cid.0 ∷ state_word name ∷ []
action_words (actions.Peer address what) = codes "peer" ∷ printed_address address ∷ note_word what ∷ []

-- an action's line, without its line feed
abbrev pub printed_action : Action → List ℕ
printed_action action = codes "> " ++ join_with_byte 32 (action_words action)
