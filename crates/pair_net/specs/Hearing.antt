-- What an end that waits makes of what it receives.
use Rattle.std.specs.Prelude.{ℕ, List, [], ◌∷◌, Option, Some, None}
use Rattle.hs_decide.specs.declared.role.Role.{Role}
use Rattle.hs_decide.specs.declared.verdict.Verdict.{Verdict}
use Rattle.hs_decide.specs.declared.verdict.Verdict.TheVariants as verdict
use Rattle.hs_message.specs.declared.info.VersionInfo.{VersionInfo}
use Rattle.hs_receive.specs.Receiving.{receives, kind_of}
use Rattle.hs_receive.specs.declared.received.Received.{Received}
use Rattle.hs_receive.specs.declared.received.Received.TheVariants.{Decided, Fault}
use Rattle.mux_segment.specs.Protocols.{node_limits}
use Rattle.mux_segment.specs.Stream.{CutterState, fed_by}
use Rattle.mux_segment.specs.declared.fault.CutFault.{CutFault}
use Rattle.mux_segment.specs.declared.item.Item.{Item}
use Rattle.net_base.specs.declared.action.FaultKind.TheVariants.{Protocol}
use Rattle.pair_net.specs.declared.end.EndCause.TheVariants as cause
use Rattle.pair_net.specs.declared.end.EndPhase.{EndPhase}
use Rattle.pair_net.specs.declared.end.EndPhase.TheVariants.{Agreed, Ended}

-- The first item decides. Where there is none, a fault of the stream does. Where there is neither, the end waits on.
abbrev pub heard_first : Role → VersionInfo → List Item → Option CutFault → Option Received
heard_first role own (item ∷ items) fault = Some (receives Fault Decided role own item)
heard_first role own [] (Some fault) = Some (Fault (kind_of fault))
heard_first role own [] None = None

-- The items and the fault are those that new bytes bring, behind what is not decoded of the stream.
unfoldable pub heard : Role → VersionInfo → CutterState → List ℕ → Option Received
heard role own stream bytes =
    let fed = fed_by node_limits stream bytes in heard_first role own fed.items fed.state.fault

abbrev pub IfHeard : (Received → Type 0) → Option Received → Type 0
IfHeard P None = Unit {0}
IfHeard P (Some received) = P received

-- ---- how far an end comes by what it has received

abbrev pub phase_by : Verdict → EndPhase
phase_by (verdict.Accept agreed) = Agreed agreed
phase_by (verdict.Refuse why) = Ended cause.Refused
phase_by verdict.Query = Ended cause.Query
phase_by (verdict.Agree agreed) = Agreed agreed
phase_by verdict.Refused = Ended cause.Refused
phase_by verdict.Wrong = Ended (cause.Fault Protocol)

abbrev pub phase_after : Received → EndPhase
phase_after (Decided verdict) = phase_by verdict
phase_after (Fault kind) = Ended (cause.Fault kind)
