-- What comes of the bytes of one client: segments in order, until it is closed.
use Rattle.std.specs.Prelude.{ℕ, Bool, ◌||◌, ◌==◌, not, List, [], ◌∷◌, ◌++◌, length, take, drop, if◌then◌else◌, Option, Some, None, Result, Ok, Err}
use Rattle.cbor_items.specs.Scan.{scan_of}
use Rattle.mux_segment.specs.declared.header.Header.{Header}
use Rattle.mux_segment.specs.declared.fault.CutFault.{CutFault}
use Rattle.mux_segment.specs.Segment.{Segment}
use Rattle.mux_segment.specs.Steps.{next_of}
use Rattle.mux_segment.specs.Frame.{frame_of}
use Rattle.hs_message.specs.Reading.{client_message_of}
use Rattle.hs_message.specs.declared.message.Message.{Message}
use Rattle.hs_message.specs.declared.message.Message.TheVariants as message
use Rattle.hs_receive.specs.Receiving.{kind_of}
use Rattle.net_base.specs.declared.action.FaultKind.{FaultKind}
use Rattle.net_base.specs.declared.action.FaultKind.TheVariants as fault
use Rattle.local_clients.specs.declared.action.ClientAction.{ClientAction}
use Rattle.local_clients.specs.declared.action.ClientAction.TheVariants as action
use Rattle.local_clients.specs.declared.action.ClientCause.{ClientCause}
use Rattle.local_clients.specs.declared.action.ClientCause.TheVariants.{Refused, Query, Fault}
use Rattle.local_clients.specs.declared.context.Context.{Context}
use Rattle.local_clients.specs.declared.phase.Phase.{Phase}
use Rattle.local_clients.specs.declared.phase.Phase.TheVariants.{Greeting, Open}
use Rattle.local_clients.specs.declared.decision.Decision.{Decision}
use Rattle.local_clients.specs.declared.decision.Decision.TheVariants.{NoCommon, NotUnderstood, OtherMagic, Asked, Agreed}
use Rattle.local_clients.specs.Agreement.{decision_of, answer_bytes}

-- what is done, and how far the client has come then: nowhere, where it is closed
pub record Heard : Type 0 where
  pub actions : List ClientAction
  pub phase : Option Phase

abbrev pub goes_on : Phase → Heard
goes_on phase = record { actions = []; phase = Some phase }

abbrev pub closes : Context → ClientCause → Heard
closes context cause = record { actions = action.Close context.client cause ∷ []; phase = None }

abbrev pub faults : Context → FaultKind → Heard
faults context kind = closes context (Fault kind)

-- ---- a proposal

-- an answer goes out on the handshake, from the responder
abbrev pub sends : Context → Decision → ClientAction
sends context decision = action.Send context.client (frame_of 1 0 context.moment (answer_bytes context.magic decision))

-- a client that is open says nothing more on the handshake: `left` are the bytes behind its proposal
abbrev pub opens : Context → ℕ → List ℕ → Heard
opens context version left =
    if length left == 0
    then record { actions = action.Open context.client version ∷ []; phase = Some (Open version) }
    else record { actions = action.Open context.client version ∷ action.Close context.client (Fault fault.Protocol) ∷ []; phase = None }

-- what follows the answer
abbrev pub concluded : Context → List ℕ → Decision → Heard
concluded context left NoCommon = closes context Refused
concluded context left (NotUnderstood version) = closes context Refused
concluded context left (OtherMagic version) = closes context Refused
concluded context left Asked = closes context Query
concluded context left (Agreed version) = opens context version left

abbrev pub decided : Context → List ℕ → Decision → Heard
decided context left decision =
    let c = concluded context left decision in record { actions = sends context decision ∷ c.actions; phase = c.phase }

-- ---- the handshake's bytes

-- an item, by the message that it spells
abbrev pub item_heard : Context → List ℕ → Option Message → Heard
item_heard context left None = faults context fault.Malformed
item_heard context left (Some (message.Propose table)) = decided context left (decision_of context.magic table)
item_heard context left (Some (message.Accept version info)) = faults context fault.Protocol
item_heard context left (Some (message.Refuse reason)) = faults context fault.Protocol
item_heard context left (Some (message.QueryReply table)) = faults context fault.Protocol

-- how many bytes a message of the handshake may have
abbrev pub handshake_limit : ℕ
handshake_limit = 5760

abbrev pub first_heard : Context → ℕ → List ℕ → Result (Option ℕ) CutFault → Heard
first_heard context until part (Ok None) = goes_on (Greeting until part)
first_heard context until part (Ok (Some n)) = item_heard context (drop n part) (client_message_of (take n part))
first_heard context until part (Err fault) = faults context (kind_of fault)

-- all that came on the handshake so far: its first item is scanned within the limit
abbrev pub part_heard : Context → ℕ → List ℕ → Heard
part_heard context until part = first_heard context until part (next_of (scan_of part) handshake_limit part)

-- ---- segments

-- handshake; local chain-sync, tx-submission, state-query and tx-monitor
abbrev pub is_client_protocol : ℕ → Bool
is_client_protocol id = id == 0 || id == 5 || id == 6 || id == 7 || id == 9

-- a protocol that clients don't have, and then the side of the responder
abbrev pub header_fault : Header → Option FaultKind
header_fault header =
    if not (is_client_protocol header.id) then Some fault.UnknownId
    else if header.side == 1 then Some fault.Protocol
    else None

-- the handshake comes first and alone
abbrev pub payload_heard : Context → Phase → ℕ → List ℕ → Heard
payload_heard context (Greeting until part) id payload =
    if id == 0 then part_heard context until (part ++ payload) else faults context fault.Protocol
payload_heard context (Open version) id payload =
    if id == 0 then faults context fault.Protocol else goes_on (Open version)

abbrev pub heard_unless : Option FaultKind → Context → Phase → ℕ → List ℕ → Heard
heard_unless (Some kind) context phase id payload = faults context kind
heard_unless None context phase id payload =
    if length payload == 0 then goes_on phase else payload_heard context phase id payload

unfoldable pub segment_heard : Context → Phase → Segment → Heard
segment_heard context phase s = heard_unless (header_fault s.header) context phase s.header.id s.payload

-- where the client is not closed, it is heard on
abbrev pub then_heard : List ClientAction → Option Phase → (Phase → Heard) → Heard
then_heard actions None others = record { actions = actions; phase = None }
then_heard actions (Some phase) others = let h = others phase in record { actions = actions ++ h.actions; phase = h.phase }

unfoldable pub heard : Context → Phase → List Segment → Heard
heard context phase [] = goes_on phase
heard context phase (s ∷ segments) =
    let first = segment_heard context phase s in then_heard first.actions first.phase (λ next. heard context next segments)
