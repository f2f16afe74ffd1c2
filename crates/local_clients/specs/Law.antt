-- Laws on the clients over whole runs, whatever function carries them out.
use Rattle.std.specs.Prelude.{◌≡◌, ◌≢◌, ℕ, ◌+◌, ◌<◌, ◌≤◌, ◌==◌, true, false, List, [], ◌∷◌, ◌++◌, length, take, drop, Option, Some, None, Ok, Err, ◌⊎◌}
use Rattle.std.specs.List.{AllByRecursion, list_any}
use Rattle.cbor_items.specs.Scan.{scan_of}
use Rattle.hs_message.specs.Canonical.{client_spelling}
use Rattle.hs_message.specs.Reading.{client_message_of}
use Rattle.hs_message.specs.declared.info.VersionInfo.{VersionInfo}
use Rattle.hs_message.specs.declared.info.Info.TheVariants.{Known}
use Rattle.hs_message.specs.declared.message.Message.{Message}
use Rattle.hs_message.specs.declared.message.Message.TheVariants as message
use Rattle.hs_message.specs.declared.offer.Offer.{Offer}
use Rattle.hs_receive.specs.Receiving.{kind_of}
use Rattle.mux_segment.specs.Frame.{frame_of}
use Rattle.mux_segment.specs.Segment.{Segment, cut_of}
use Rattle.mux_segment.specs.Steps.{next_of}
use Rattle.mux_segment.specs.declared.fault.CutFault.{CutFault}
use Rattle.net_base.specs.declared.action.FaultKind.{FaultKind}
use Rattle.net_base.specs.declared.action.FaultKind.TheVariants.{UnknownId, Protocol, Malformed, HandshakeWait}
use Rattle.local_clients.specs.declared.action.ClientAction.{ClientAction}
use Rattle.local_clients.specs.declared.action.ClientAction.TheVariants.{Admit, Turnaway, Send, Open, Close}
use Rattle.local_clients.specs.declared.client.GreetingClient.{GreetingClient}
use Rattle.local_clients.specs.declared.client.OpenClient.{OpenClient}
use Rattle.local_clients.specs.declared.context.Context.{Context}
use Rattle.local_clients.specs.declared.phase.Phase.{Phase}
use Rattle.local_clients.specs.declared.phase.Phase.TheVariants as phase
use Rattle.local_clients.specs.Agreement.{offer_of, own_info, own_table}
use Rattle.local_clients.specs.Hearing.{handshake_limit, heard, is_client_protocol}
use Rattle.local_clients.specs.declared.action.ClientCause.TheVariants.{Fault}
use Rattle.local_clients.specs.declared.event.ClientEvent.{ClientEvent}
use Rattle.local_clients.specs.declared.event.ClientEvent.TheVariants.{Now, Joined, Bytes, Gone}
use Rattle.local_clients.specs.declared.rules.ClientRules.{ClientRules}
use Rattle.local_clients.specs.Rules.{AreInRange, CanHappen}
use Rattle.local_clients.specs.Kept.{RiseInTime}
use Rattle.local_clients.specs.Clients.{ClientTable, no_clients, live, client_at, open_version, Stepped, nothing_done, stepped}

-- what each event makes of the clients, whoever says so
abbrev pub Machine : Type 0
Machine = ClientRules → ClientEvent → ClientTable → Stepped

-- one event after the other
abbrev pub run : Machine → ClientRules → List ClientEvent → ClientTable → Stepped
run machine rules [] t = nothing_done t
run machine rules (event ∷ events) t =
    let first = machine rules event t in
    let others = run machine rules events first.table in
    record { table = others.table; actions = first.actions ++ others.actions }

-- some events lead to these clients
pub record AreReached (machine : Machine) (rules : ClientRules) (t : ClientTable) : Type 0 where
  pub events : List ClientEvent
  pub ranges : AreInRange rules
  pub few : length events ≤ 1000000
  pub happen : AllByRecursion CanHappen events
  pub leads : t ≡ (run machine rules events no_clients).table

-- There are never more clients than the limit.
abbrev pub AreFew : Machine → Type 0
AreFew machine = (rules : ClientRules) (t : ClientTable) → AreReached machine rules t → live t ≤ rules.limit

-- The clients that greet stand in order of their deadlines, and of their ids where these are the same. So late ones are closed
-- in that order.
abbrev pub RiseInTheirTime : Machine → Type 0
RiseInTheirTime machine = (rules : ClientRules) (t : ClientTable) → AreReached machine rules t → RiseInTime t.greeting

-- ---- who is turned away

abbrev pub IsTurnaway : ClientAction → Type 0
IsTurnaway action = action ≡ Turnaway

-- A client is turned away exactly where it joins while there are as many as the limit. Below the limit it is let in.
pub record TurnsAwayAtLimit (machine : Machine) (rules : ClientRules) (t : ClientTable) : Type 0 where
  pub full : rules.limit ≤ live t → machine rules Joined t ≡ record { table = t; actions = Turnaway ∷ [] }
  pub room : live t < rules.limit → (machine rules Joined t).actions ≡ Admit t.next_id ∷ []
  pub only : (event : ClientEvent) → ((event ≡ Joined) × (rules.limit ≤ live t) → ⊥)
      → AllByRecursion (λ action. IsTurnaway action → ⊥) (machine rules event t).actions

-- the same of one event, and what is done at it
pub record TurnsAway (rules : ClientRules) (event : ClientEvent) (t : ClientTable) (actions : List ClientAction) : Type 0 where
  pub full : event ≡ Joined → rules.limit ≤ live t → actions ≡ Turnaway ∷ []
  pub only : ((event ≡ Joined) × (rules.limit ≤ live t) → ⊥) → AllByRecursion (λ action. IsTurnaway action → ⊥) actions

abbrev pub AreTurnedAway : Machine → Type 0
AreTurnedAway machine = (rules : ClientRules) (t : ClientTable) → TurnsAwayAtLimit machine rules t

-- ---- in whatever pieces bytes come

-- Two pieces of what a client says, one after the other, do what both do at once.
pub record AreOnePiece (machine : Machine) (rules : ClientRules) (id : ℕ) (t : ClientTable) (one two : List ℕ) : Type 0 where
  pub table : (machine rules (Bytes id two) (machine rules (Bytes id one) t).table).table ≡ (machine rules (Bytes id (one ++ two)) t).table
  pub actions : (machine rules (Bytes id one) t).actions ++ (machine rules (Bytes id two) (machine rules (Bytes id one) t).table).actions
      ≡ (machine rules (Bytes id (one ++ two)) t).actions

abbrev pub PiecesDoNotMatter : Machine → Type 0
PiecesDoNotMatter machine = (rules : ClientRules) (id : ℕ) (t : ClientTable) (one two : List ℕ) → AreReached machine rules t → AreOnePiece machine rules id t one two

-- ---- how an open client goes

abbrev pub IsOpenFault : FaultKind → Type 0
IsOpenFault kind = (kind ≡ UnknownId) ⊎ (kind ≡ Protocol)

-- its bytes were a fault: this is all that is done
pub record ClosesForBytes (id : ℕ) (event : ClientEvent) (actions : List ClientAction) : Type 0 where
  pub bytes : List ℕ
  pub kind : FaultKind
  pub spoke : event ≡ Bytes id bytes
  pub fault : IsOpenFault kind
  pub closed : actions ≡ Close id (Fault kind) ∷ []

-- It is open with its version among the next clients, or the event says that it is gone, or its own bytes are a fault.
abbrev pub LeavesOpen : ClientEvent → ℕ → ℕ → ClientTable → List ClientAction → Type 0
LeavesOpen event id version next actions = (open_version id next ≡ Some version) ⊎ ((event ≡ Gone id) ⊎ ClosesForBytes id event actions)

abbrev pub StaysOrGoes : Machine → ClientRules → ClientEvent → ℕ → ℕ → ClientTable → Type 0
StaysOrGoes machine rules event id version t = LeavesOpen event id version (machine rules event t).table (machine rules event t).actions

-- An open client stays open with its version at each event, but for one that says that it is gone, and for bytes of its own
-- that are a fault.
abbrev pub OpenClientsStay : Machine → Type 0
OpenClientsStay machine = (rules : ClientRules) (t : ClientTable) (event : ClientEvent) (id version : ℕ) → AreReached machine rules t
    → open_version id t ≡ Some version → StaysOrGoes machine rules event id version t

-- ---- who is gone

pub record IsAbsent (id : ℕ) (t : ClientTable) : Type 0 where
  pub greets : client_at id t.greeting ≡ None
  pub opens : client_at id t.opened ≡ None

-- The client that an event says is gone is there no more, and each other one is as it was.
pub record GoesAlone (machine : Machine) (rules : ClientRules) (id : ℕ) (t : ClientTable) : Type 0 where
  pub gone : IsAbsent id (machine rules (Gone id) t).table
  pub greeting : (other : ℕ) → other ≢ id → client_at other (machine rules (Gone id) t).table.greeting ≡ client_at other t.greeting
  pub opened : (other : ℕ) → other ≢ id → client_at other (machine rules (Gone id) t).table.opened ≡ client_at other t.opened
  pub actions : (machine rules (Gone id) t).actions ≡ []

-- Whoever is gone stays so: its id was given, and no event brings it back.
abbrev pub StaysAway : Machine → ClientRules → ClientTable → Type 0
StaysAway machine rules t = (event : ClientEvent) (id : ℕ) → id < t.next_id → IsAbsent id t → IsAbsent id (machine rules event t).table

abbrev pub GoneAreGone : Machine → Type 0
GoneAreGone machine = (rules : ClientRules) (t : ClientTable) → AreReached machine rules t → ((id : ℕ) → GoesAlone machine rules id t) × StaysAway machine rules t

-- ---- the time of a client that says nothing

-- it says nothing, is not gone, and its time is not over
abbrev pub IsSilent : ℕ → GreetingClient → ClientEvent → Type 0
IsSilent id client (Now moment) = moment < client.until
IsSilent id client Joined = Unit {0}
IsSilent id client (Bytes other bytes) = other ≢ id
IsSilent id client (Gone other) = other ≢ id

pub record Has (action : ClientAction) (actions : List ClientAction) : Type 0 where
  pub before : List ClientAction
  pub after : List ClientAction
  pub are : actions ≡ before ++ action ∷ after

-- its time is over at a moment
pub record ClosesInTime (machine : Machine) (rules : ClientRules) (id moment : ℕ) (t : ClientTable) : Type 0 where
  pub gone : client_at id (machine rules (Now moment) t).table.greeting ≡ None
  pub told : Has (Close id (Fault HandshakeWait)) (machine rules (Now moment) t).actions

-- A client that is let in has its whole time. While it says nothing it waits on until its time is over, and not longer.
pub record KeepsTime (machine : Machine) (rules : ClientRules) (t : ClientTable) : Type 0 where
  pub begins : live t < rules.limit
      → client_at t.next_id (machine rules Joined t).table.greeting ≡ Some (record { until = t.moment + rules.wait; rest = []; part = [] })
  pub waits : (event : ClientEvent) (id : ℕ) (client : GreetingClient) → client_at id t.greeting ≡ Some client → IsSilent id client event
      → client_at id (machine rules event t).table.greeting ≡ Some client
  pub closes : (moment id : ℕ) (client : GreetingClient) → client_at id t.greeting ≡ Some client → t.moment < moment → client.until ≤ moment
      → ClosesInTime machine rules id moment t

abbrev pub KeepTheirTime : Machine → Type 0
KeepTheirTime machine = (rules : ClientRules) (t : ClientTable) → AreReached machine rules t → KeepsTime machine rules t

-- ---- a proposal that fits

-- The node takes this version, the client offers it on the node's network and does not only ask, and offers no greater one that
-- the node takes.
pub record Fits (magic : ℕ) (table : List Offer) (version : ℕ) : Type 0 where
  pub theirs : VersionInfo
  pub own : list_any (λ offer. offer.version == version) (own_table magic) ≡ true
  pub offered : offer_of version table ≡ Some (record { version = version; info = Known theirs })
  pub network : magic ≡ theirs.magic
  pub offers : theirs.query ≡ false
  pub greatest : (greater : ℕ) → version < greater → list_any (λ offer. offer.version == greater) (own_table magic) ≡ true → offer_of greater table ≡ None

-- With these bytes its first message is whole: one segment of the handshake has come, by which what came before is a proposal.
pub record HasProposed (client : GreetingClient) (bytes : List ℕ) (table : List Offer) : Type 0 where
  pub segment : Segment
  pub rest : List ℕ
  pub cut : cut_of (client.rest ++ bytes) ≡ record { segments = segment ∷ []; rest = rest }
  pub handshake : segment.header.id ≡ 0
  pub initiator : segment.header.side ≡ 0
  pub some : 0 < length segment.payload
  pub whole : let part = client.part ++ segment.payload in next_of (scan_of part) handshake_limit part ≡ Ok (Some (length part))
  pub message : client_message_of (client.part ++ segment.payload) ≡ Some (message.Propose table)

-- it is accepted with that version, and is open
pub record OpensWith (machine : Machine) (rules : ClientRules) (id : ℕ) (bytes : List ℕ) (version : ℕ) (t : ClientTable) : Type 0 where
  pub actions : (machine rules (Bytes id bytes) t).actions
      ≡ Send id (frame_of 1 0 t.moment (client_spelling (message.Accept version (Known (own_info rules.magic))))) ∷ Open id version ∷ []
  pub opens : open_version id (machine rules (Bytes id bytes) t).table ≡ Some version

-- A proposal that fits opens with the greatest version that both know, and the answer is sent.
abbrev pub FittingOpen : Machine → ClientRules → ClientTable → Type 0
FittingOpen machine rules t = (id : ℕ) (client : GreetingClient) (bytes : List ℕ) (table : List Offer) (version : ℕ) → client_at id t.greeting ≡ Some client
    → HasProposed client bytes table → Fits rules.magic table version → OpensWith machine rules id bytes version t

abbrev pub FittingProposalsOpen : Machine → Type 0
FittingProposalsOpen machine = (rules : ClientRules) (t : ClientTable) → FittingOpen machine rules t

-- ---- bytes that are a fault

-- by the message that the item spells; behind a proposal nothing may follow
abbrev pub IsItemFault : List ℕ → Option Message → FaultKind → Type 0
IsItemFault left None kind = kind ≡ Malformed
IsItemFault left (Some (message.Propose table)) kind = (0 < length left) × (kind ≡ Protocol)
IsItemFault left (Some (message.Accept version info)) kind = kind ≡ Protocol
IsItemFault left (Some (message.Refuse reason)) kind = kind ≡ Protocol
IsItemFault left (Some (message.QueryReply table)) kind = kind ≡ Protocol

-- What came on the handshake can't be the front of an item, or its first item is a fault.
pub record IsScanFault (part : List ℕ) (kind : FaultKind) : Type 0 where
  pub fault : CutFault
  pub scanned : next_of (scan_of part) handshake_limit part ≡ Err fault
  pub kind-is : kind ≡ kind_of fault

pub record HasItemFault (part : List ℕ) (kind : FaultKind) : Type 0 where
  pub size : ℕ
  pub scanned : next_of (scan_of part) handshake_limit part ≡ Ok (Some size)
  pub fault : IsItemFault (drop size part) (client_message_of (take size part)) kind

-- While a client greets only the handshake may speak, and once it is open the handshake may not.
abbrev pub IsPayloadFault : Phase → ℕ → List ℕ → FaultKind → Type 0
IsPayloadFault (phase.Greeting until part) id payload kind =
    ((id ≢ 0) × (kind ≡ Protocol)) ⊎ ((id ≡ 0) × (IsScanFault (part ++ payload) kind ⊎ HasItemFault (part ++ payload) kind))
IsPayloadFault (phase.Open version) id payload kind = (id ≡ 0) × (kind ≡ Protocol)

-- a protocol that clients don't have; the side of the responder; or the payload
abbrev pub IsSegmentFault : Phase → Segment → FaultKind → Type 0
IsSegmentFault phase s kind =
    ((is_client_protocol s.header.id ≡ false) × (kind ≡ UnknownId))
    ⊎ (((s.header.side ≡ 1) × (kind ≡ Protocol)) ⊎ ((0 < length s.payload) × IsPayloadFault phase s.header.id s.payload kind))

-- one of these segments is a fault, at which the client had come so far by those before it
pub record AreAtFault (context : Context) (phase : Phase) (segments : List Segment) (kind : FaultKind) : Type 0 where
  pub before : List Segment
  pub segment : Segment
  pub after : List Segment
  pub so_far : Phase
  pub are : segments ≡ before ++ segment ∷ after
  pub comes : (heard context phase before).phase ≡ Some so_far
  pub fault : IsSegmentFault so_far segment kind

abbrev pub AreFaultOf : Context → List ℕ → FaultKind → Option GreetingClient → Option OpenClient → Type 0
AreFaultOf context bytes kind (Some client) opened = AreAtFault context (phase.Greeting client.until client.part) (cut_of (client.rest ++ bytes)).segments kind
AreFaultOf context bytes kind None (Some client) = AreAtFault context (phase.Open client.version) (cut_of (client.rest ++ bytes)).segments kind
AreFaultOf context bytes kind None None = ⊥

-- Where bytes bring a client's fault, they are its own, and with what had come they have that fault.
pub record IsOwnFault (rules : ClientRules) (t : ClientTable) (id : ℕ) (bytes : List ℕ) (other : ℕ) (kind : FaultKind) : Type 0 where
  pub own : other ≡ id
  pub fault : AreFaultOf (record { client = id; magic = rules.magic; moment = t.moment }) bytes kind (client_at id t.greeting) (client_at id t.opened)

abbrev pub FaultsAreOwn : Machine → ClientRules → ClientTable → Type 0
FaultsAreOwn machine rules t = (id : ℕ) (bytes : List ℕ) (other : ℕ) (kind : FaultKind) → Has (Close other (Fault kind)) (machine rules (Bytes id bytes) t).actions
    → IsOwnFault rules t id bytes other kind

abbrev pub FaultsAreOfBytes : Machine → Type 0
FaultsAreOfBytes machine = (rules : ClientRules) (t : ClientTable) → FaultsAreOwn machine rules t

-- ---- all of it, of these clients

pub record AreLawful (rules : ClientRules) (t : ClientTable) : Type 0 where
  pub few : live t ≤ rules.limit
  pub in_time : RiseInTime t.greeting
  pub turned_away : TurnsAwayAtLimit stepped rules t
  pub one_piece : (id : ℕ) (one two : List ℕ) → AreOnePiece stepped rules id t one two
  pub stay : (event : ClientEvent) (id version : ℕ) → open_version id t ≡ Some version → StaysOrGoes stepped rules event id version t
  pub gone : (id : ℕ) → GoesAlone stepped rules id t
  pub away : StaysAway stepped rules t
  pub time : KeepsTime stepped rules t
  pub fitting : FittingOpen stepped rules t
  pub faults : FaultsAreOwn stepped rules t
