-- What is received in the handshake.
use Rattle.std.specs.Prelude.{ℕ, Bool, true, false, ◌&&◌, ◌==◌, if◌then◌else◌, Option, Some, None}
use Rattle.hs_message.specs.Reading.{message_of}
use Rattle.hs_message.specs.declared.info.VersionInfo.{VersionInfo}
use Rattle.hs_message.specs.declared.message.Message.{Message}
use Rattle.hs_message.specs.declared.message.Message.TheVariants as message
use Rattle.hs_decide.specs.Agreement.{verdict_of}
use Rattle.hs_decide.specs.Answers.{CanAnswer}
use Rattle.hs_decide.specs.declared.role.Role.{Role}
use Rattle.hs_decide.specs.declared.role.Role.TheVariants.{Acceptor, Dialer}
use Rattle.hs_decide.specs.declared.verdict.Verdict.{Verdict}
use Rattle.mux_segment.specs.declared.fault.CutFault.{CutFault}
use Rattle.mux_segment.specs.declared.fault.CutFault.TheVariants as cut
use Rattle.mux_segment.specs.declared.item.Item.{Item}
use Rattle.net_base.specs.declared.action.FaultKind.{FaultKind}
use Rattle.net_base.specs.declared.action.FaultKind.TheVariants as fault
use Rattle.hs_receive.specs.declared.received.Received.{Received}
use Rattle.hs_receive.specs.declared.received.Received.TheVariants as received

-- ---- sides

abbrev pub is_proposal : Message → Bool
is_proposal (message.Propose table) = true
is_proposal (message.Accept version info) = false
is_proposal (message.Refuse reason) = false
is_proposal (message.QueryReply table) = false

-- An acceptor awaits side 0, whatever comes there.
abbrev pub is_awaited : Role → ℕ → Bool
is_awaited Acceptor side = side == 0
is_awaited Dialer side = true

-- A dialer takes a proposal on side 0, where both have dialed at once, and every other message on side 1.
abbrev pub fits_side : Role → ℕ → Message → Bool
fits_side Acceptor side m = true
fits_side Dialer side m = side == (if is_proposal m then 0 else 1)

-- ---- an item. What a fault and what a verdict comes to are arguments, `faulted` and `decided`.

-- what bytes on a side that is awaited come to, by the message that they spell
abbrev pub receives_message : {X : Type 0} → (FaultKind → X) → (Verdict → X) → Role → VersionInfo → ℕ → Option Message → X
receives_message faulted decided role own side None = faulted fault.Malformed
receives_message faulted decided role own side (Some message) =
    if fits_side role side message then decided (verdict_of role own message) else faulted fault.Protocol

-- The handshake is protocol 0. The first that decides: another protocol; a side that is not awaited; no message; a
-- message of the other side; the verdict.
abbrev pub receives : {X : Type 0} → (FaultKind → X) → (Verdict → X) → Role → VersionInfo → Item → X
receives faulted decided role own item =
    if item.id == 0 && is_awaited role item.side
    then receives_message faulted decided role own item.side (message_of item.body)
    else faulted fault.Protocol

-- what was decided has an answer that can be written, or none
abbrev pub CanBeAnswered : Received → Type 0
CanBeAnswered (received.Decided verdict) = CanAnswer verdict
CanBeAnswered (received.Fault kind) = Unit {0}

-- ---- a stream that ends in a fault

abbrev pub kind_of : CutFault → FaultKind
kind_of cut.Bad = fault.Malformed
kind_of cut.Deep = fault.Deep
kind_of cut.TooLong = fault.TooLong
kind_of cut.UnknownId = fault.UnknownId
