-- Whom a part of an event ends, and for what cause, from the record before it.
use Rattle.std.specs.Prelude.{ℕ, ◌≡◌, Bool, true, false, not, nat_le, ◌&&◌, ◌||◌, ◌==◌, List, [], ◌∷◌, length, map, filter, if◌then◌else◌, Option, Some, None, Result, Ok, Err}
use Rattle.laws.specs.Words.{is_candidate, is_outbound, is_duplex, is_live_at, is_pending, agreed_sharing, Order, Release, verdict_of, Acceptor, Dialer, Verdict, message_of, VersionInfo, Message, CutFault, Item, same_address, address_below, CloseCause, FaultKind, Addr, Facts, Phase, Dialing, Greeting, Negotiated, Closing, Settings, Kind, Handshake, TimeWait, Reply2, Reply8, Reply10, watched, Seen, item_number_of, alive_of, share_of, Alive, Share, Move, Machine, Entry, Owed, counted_in, entry_at, live_entry_at, reply_on}
use Rattle.laws.specs.Words.verdict
use Rattle.laws.specs.Words.message
use Rattle.laws.specs.Words.cut
use Rattle.laws.specs.Words.cause
use Rattle.laws.specs.Words.fault
use Rattle.net_base.specs.declared.timer.Kind.TheVariants.{Grace}
use Rattle.laws.specs.Words.alive
use Rattle.laws.specs.Words.share
use Rattle.laws.specs.Acts.{Act, fires_one, carries, connects, handles_item, ends_stream}
use Rattle.laws.specs.InActions.{End, ends_in}

-- ---- an item in the handshake

abbrev pub protocol_fault : List CloseCause
protocol_fault = cause.Fault fault.Protocol ∷ []

abbrev pub causes_of_verdict : Verdict → List CloseCause
causes_of_verdict (verdict.Accept agreed) = []
causes_of_verdict (verdict.Refuse why) = cause.Refused ∷ []
causes_of_verdict verdict.Query = cause.Query ∷ []
causes_of_verdict (verdict.Agree agreed) = []
causes_of_verdict verdict.Refused = cause.Refused ∷ []
causes_of_verdict verdict.Wrong = protocol_fault

-- what the node offers
abbrev pub offered : Settings → VersionInfo
offered s = record {
  magic = s.magic;
  initiator_only = s.initiator_only == 1;
  sharing = s.sharing == 1;
  query = false;
}

abbrev pub causes_of_message : Option Message → (Message → List CloseCause) → List CloseCause
causes_of_message None causes = cause.Fault fault.Malformed ∷ []
causes_of_message (Some message) causes = causes message

-- A peer that has dialed speaks on side 0.
abbrev pub causes_to_acceptor : Item → Machine → List CloseCause
causes_to_acceptor item m =
    if item.side == 0
    then causes_of_message (message_of item.body) (λ message. causes_of_verdict (verdict_of Acceptor (offered m.settings) message))
    else protocol_fault

-- A peer that was dialed answers on side 1, and where it has dialed too, it proposes on side 0.
abbrev pub side_of : Message → ℕ
side_of (message.Propose table) = 0
side_of (message.Accept version info) = 1
side_of (message.Refuse reason) = 1
side_of (message.QueryReply table) = 1

abbrev pub causes_to_dialer : Item → Machine → List CloseCause
causes_to_dialer item m =
    causes_of_message (message_of item.body)
    (λ message. if item.side == side_of message then causes_of_verdict (verdict_of Dialer (offered m.settings) message) else protocol_fault)

abbrev pub causes_of_greeting : Item → Facts → Machine → List CloseCause
causes_of_greeting item f m =
    if item.id == 0 then (if is_outbound f then causes_to_dialer item m else causes_to_acceptor item m)
    else protocol_fault

-- ---- an item once the handshake is done

-- Where this node has dialed, and no side but it may begin protocols, the other side begins none.
abbrev pub is_open_to_remote : Facts → Bool
is_open_to_remote f = not (is_outbound f) || is_duplex f

-- the fault that an item is, if it is one
abbrev pub fault_of_request : Result Seen FaultKind → Facts → Option FaultKind
fault_of_request (Err kind) f = Some kind
fault_of_request (Ok seen) f = if is_open_to_remote f then None else Some fault.Protocol

-- where the chains meet: at a point, or nowhere
abbrev pub is_intersection : Option ℕ → Bool
is_intersection None = false
is_intersection (Some n) = n == 5 || n == 6

abbrev pub is_cookie : ℕ → Option Alive → Bool
is_cookie sent None = false
is_cookie sent (Some (alive.Ask n)) = false
is_cookie sent (Some (alive.Reply n)) = n == sent
is_cookie sent (Some alive.Done) = false

-- no more addresses than were asked for
abbrev pub are_so_many : ℕ → Option Share → Bool
are_so_many number None = false
are_so_many number (Some (share.Request n)) = false
are_so_many number (Some (share.Peers addrs)) = nat_le (length addrs) number
are_so_many number (Some share.Done) = false

abbrev pub is_answer : Owed → List ℕ → Bool
is_answer owed body =
    if owed.protocol == 2 then is_intersection (item_number_of body)
    else if owed.protocol == 8 then is_cookie owed.asked (alive_of body)
    else are_so_many owed.asked (share_of body)

abbrev pub fault_of_answer : Option Owed → List ℕ → Option FaultKind
fault_of_answer None body = Some fault.Protocol
fault_of_answer (Some owed) body = if is_answer owed body then None else Some fault.Protocol

abbrev pub fault_of : Item → Entry → Option FaultKind
fault_of item e =
    if item.side == 0 then fault_of_request (watched item.id (agreed_sharing e.facts.agreed) item.body) e.facts
    else fault_of_answer (reply_on item.id e) item.body

abbrev pub causes_of_fault : Option FaultKind → List CloseCause
causes_of_fault None = []
causes_of_fault (Some kind) = cause.Fault kind ∷ []

-- ---- an item, by how far the connection has come

abbrev pub causes_of_item : Phase → Item → Entry → Machine → List CloseCause
causes_of_item Dialing item e m = []
causes_of_item (Greeting until) item e m = causes_of_greeting item e.facts m
causes_of_item Negotiated item e m = causes_of_fault (fault_of item e)
causes_of_item (Closing until) item e m = []

-- ---- the end of the stream

abbrev pub kind_of_cut : CutFault → FaultKind
kind_of_cut cut.Bad = fault.Malformed
kind_of_cut cut.Deep = fault.Deep
kind_of_cut cut.TooLong = fault.TooLong
kind_of_cut cut.UnknownId = fault.UnknownId

abbrev pub causes_of_cut : Option CutFault → List CloseCause
causes_of_cut None = []
causes_of_cut (Some fault) = cause.Fault (kind_of_cut fault) ∷ []

-- ---- a deadline that fires

abbrev pub causes_of_kind : Kind → Entry → List CloseCause
causes_of_kind Handshake e = cause.Fault fault.HandshakeWait ∷ []
causes_of_kind Grace e = if e.facts.local then [] else cause.Unused ∷ []
causes_of_kind TimeWait e = []
causes_of_kind Reply2 e = cause.Fault fault.ReplyWait ∷ []
causes_of_kind Reply8 e = cause.Fault fault.ReplyWait ∷ []
causes_of_kind Reply10 e = cause.Fault fault.ReplyWait ∷ []

-- ---- a peer that connects

-- Where both have dialed, the connection that the lower address dialed survives.
abbrev pub causes_of_crossing : Addr → Machine → Entry → List CloseCause
causes_of_crossing addr m e =
    if not (same_address addr m.settings.own) && not (nat_le m.settings.hard (counted_in m)) && is_pending e.facts && address_below addr m.settings.own
    then cause.Overwritten ∷ [] else []

-- ---- each act

abbrev pub ends_on : Option Entry → (Entry → List CloseCause) → List End
ends_on None causes = []
ends_on (Some e) causes = map (λ cause. record { cid = e.facts.cid.0; cause = cause }) (causes e)

-- Whom an act ends, and why, but for pruning.
abbrev pub ends_due : Act → Machine → List End
ends_due (fires_one d) m = ends_on (entry_at d.cid.0 m) (causes_of_kind d.kind)
ends_due (handles_item cid item) m = ends_on (entry_at cid.0 m) (λ e. causes_of_item e.facts.phase item e m)
ends_due (ends_stream cid fault) m = ends_on (entry_at cid.0 m) (λ e. causes_of_cut fault)
ends_due (connects addr) m = ends_on (live_entry_at addr m) (causes_of_crossing addr m)
ends_due other m = []

abbrev pub is_pruned : CloseCause → Bool
is_pruned cause.Unused = false
is_pruned cause.Pruned = true
is_pruned cause.Overwritten = false
is_pruned cause.Refused = false
is_pruned cause.Query = false
is_pruned (cause.Fault kind) = false

-- Who is pruned is one that might go, or the one that moved: which an item has come in on, or which was to be released.
-- Nothing else prunes.
abbrev pub is_candidate_entry : Option Entry → Bool
is_candidate_entry None = false
is_candidate_entry (Some e) = is_candidate e.facts

abbrev pub was_used_at : Addr → Option Entry → Bool
was_used_at addr None = false
was_used_at addr (Some e) = is_live_at addr e.facts && e.facts.local

abbrev pub IsPrunedByOrder : Order → Machine → End → Type 0
IsPrunedByOrder (Release addr) m end = (was_used_at addr (entry_at end.cid m) || is_candidate_entry (entry_at end.cid m)) ≡ true
IsPrunedByOrder other m end = ⊥

abbrev pub IsPrunedIn : Act → Machine → End → Type 0
IsPrunedIn (handles_item own item) m end = (end.cid == own.0 || is_candidate_entry (entry_at end.cid m)) ≡ true
IsPrunedIn (carries order) m end = IsPrunedByOrder order m end
IsPrunedIn other m end = ⊥

abbrev pub pruned_in : List Move → List End
pruned_in moves = filter (λ end. is_pruned end.cause) (ends_in moves)

abbrev pub but_pruned : List End → List End
but_pruned ends = filter (λ end. not (is_pruned end.cause)) ends
