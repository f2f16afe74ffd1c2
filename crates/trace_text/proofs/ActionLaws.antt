-- A printed action is one line, and is read as an action line.
use Rattle.std.proofs.Common.{◌≡◌, ◌≢◌, ℕ, true, not, eqb, List, decimal, refl, arith}
use Rattle.std.specs.Prelude.{codes, Contains}
use Rattle.std.specs.List.{AllByRecursion, list_all}
use Rattle.std.proofs.lemmas.List.Elements.{All-contains, All-from_recursion}
use Rattle.hex.specs.Hex.{encode_lower, lower_digits}
use Rattle.net_base.specs.declared.address.Addr.{Addr}
use Rattle.net_base.specs.declared.action.Action.{Action}
use Rattle.net_base.specs.declared.action.Action.TheVariants as actions
use Rattle.net_base.specs.declared.action.Away.{Away}
use Rattle.net_base.specs.declared.action.Away.TheVariants as away
use Rattle.net_base.specs.declared.action.CloseCause.{CloseCause}
use Rattle.net_base.specs.declared.action.CloseCause.TheVariants as cause
use Rattle.net_base.specs.declared.action.FaultKind.{FaultKind}
use Rattle.net_base.specs.declared.action.FaultKind.TheVariants as fault
use Rattle.net_base.specs.declared.action.PeerNote.{PeerNote}
use Rattle.net_base.specs.declared.action.PeerNote.TheVariants as note
use Rattle.net_base.specs.declared.action.StateName.{StateName}
use Rattle.net_base.specs.declared.action.StateName.TheVariants as state
use Rattle.trace_text.specs.Addresses.{printed_address}
use Rattle.trace_text.specs.Actions.{away_word, fault_words, cause_words, note_word, state_word, action_words, printed_action}
use Rattle.trace_text.proofs.Apart.{IsApart, from_test as apart_from_test, number_apart, address_apart, hex_apart}
use Rattle.trace_text.proofs.Printed.{all_join}

-- no line feed
abbrev pub OneLine : List ℕ → Type 0
OneLine = IsApart 10 (omega arith)

pub from_test : (bytes : List ℕ) → list_all (λ b. not (eqb b 10)) bytes ≡ true → OneLine bytes
from_test = apart_from_test 10 (omega arith)

pub number_line : (n : ℕ) → OneLine (decimal n)
number_line = number_apart 10 (omega arith) 10

pub address_line : (address : Addr) → OneLine (printed_address address)
address_line = address_apart 10 (omega arith)

pub hex_line : (bytes : List ℕ) → OneLine (encode_lower bytes)
hex_line bytes = hex_apart 10 (omega arith) lower_digits bytes (λ e. omega arith) (from_test lower_digits refl)

away_line : (why : Away) → OneLine (away_word why)
away_line away.Full = from_test (codes "full") refl
away_line away.OwnAddr = from_test (codes "self") refl
away_line away.Crossed = from_test (codes "crossed") refl
away_line away.Present = from_test (codes "present") refl

fault_line : (kind : FaultKind) → OneLine (fault_words kind)
fault_line fault.Malformed = from_test (codes "fault malformed") refl
fault_line fault.Deep = from_test (codes "fault deep") refl
fault_line fault.TooLong = from_test (codes "fault toolong") refl
fault_line fault.Protocol = from_test (codes "fault protocol") refl
fault_line fault.UnknownId = from_test (codes "fault unknownid") refl
fault_line fault.HandshakeWait = from_test (codes "fault handshakewait") refl
fault_line fault.ReplyWait = from_test (codes "fault replywait") refl

cause_line : (why : CloseCause) → OneLine (cause_words why)
cause_line cause.Unused = from_test (codes "unused") refl
cause_line cause.Pruned = from_test (codes "pruned") refl
cause_line cause.Overwritten = from_test (codes "overwritten") refl
cause_line cause.Refused = from_test (codes "refused") refl
cause_line cause.Query = from_test (codes "query") refl
cause_line (cause.Fault kind) = fault_line kind

note_line : (what : PeerNote) → OneLine (note_word what)
note_line note.Known = from_test (codes "known") refl
note_line note.Cold = from_test (codes "cold") refl
note_line note.Warm = from_test (codes "warm") refl
note_line note.Hot = from_test (codes "hot") refl
note_line note.Forgotten = from_test (codes "forgotten") refl

state_line : (name : StateName) → OneLine (state_word name)
state_line state.ReservedOutbound = from_test (codes "ReservedOutbound") refl
state_line state.UnnegotiatedInbound = from_test (codes "UnnegotiatedInbound") refl
state_line state.UnnegotiatedOutbound = from_test (codes "UnnegotiatedOutbound") refl
state_line state.Duplex = from_test (codes "Duplex") refl
state_line state.OutboundUni = from_test (codes "OutboundUni") refl
state_line state.OutboundDupTicking = from_test (codes "OutboundDupTicking") refl
state_line state.OutboundDupExpired = from_test (codes "OutboundDupExpired") refl
state_line state.Inbound = from_test (codes "Inbound") refl
state_line state.InboundIdle = from_test (codes "InboundIdle") refl
state_line state.OutboundIdle = from_test (codes "OutboundIdle") refl
state_line state.Terminating = from_test (codes "Terminating") refl
state_line state.Terminated = from_test (codes "Terminated") refl

words_line : (action : Action) → AllByRecursion OneLine (action_words action)
words_line (actions.Admit cid address) = (from_test (codes "admit") refl, (number_line cid.0, (address_line address, tt)))
words_line (actions.Turnaway why) = (from_test (codes "turnaway") refl, (away_line why, tt))
words_line (actions.Dial cid address) = (from_test (codes "dial") refl, (number_line cid.0, (address_line address, tt)))
words_line (actions.Send cid bytes) = (from_test (codes "send") refl, (number_line cid.0, (hex_line bytes, tt)))
words_line (actions.Close cid why) = (from_test (codes "close") refl, (number_line cid.0, (cause_line why, tt)))
words_line (actions.Pause time) = (from_test (codes "pause") refl, (number_line time, tt))
words_line (actions.AskRoots job) = (from_test (codes "askroots") refl, (number_line job.0, tt))
words_line (actions.State cid name) = (from_test (codes "state") refl, (number_line cid.0, (state_line name, tt)))
words_line (actions.Peer address what) = (from_test (codes "peer") refl, (address_line address, (note_line what, tt)))

action_line : (action : Action) → OneLine (printed_action action)
action_line action = (λ e. omega arith, (λ e. omega arith, all_join (λ b. b ≢ 10) 32 (λ e. omega arith) (action_words action) (words_line action)))

pub no_feed : (action : Action) → ¬ (Contains (printed_action action) 10)
no_feed action c = All-contains (λ b. b ≢ 10) (printed_action action) 10 (All-from_recursion (λ b. b ≢ 10) (printed_action action) (action_line action)) c refl
