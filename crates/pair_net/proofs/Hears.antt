-- What is heard is what comes of the stream.
use Rattle.std.proofs.Common.{◌≡◌, ℕ, List, [], ◌++◌, Option, None, Result, Ok, Err, refl, ap, ◌∙◌}
use Rattle.std.specs.Prelude.{IfOk}
use Rattle.hs_decide.specs.declared.role.Role.{Role}
use Rattle.hs_message.specs.declared.info.VersionInfo.{VersionInfo}
use Rattle.hs_receive.specs.declared.received.Received.{Received}
use Rattle.mux_segment.specs.Given.{IsGiven}
use Rattle.mux_segment.specs.Protocols.{node_limits}
use Rattle.mux_segment.specs.Stream.{CutterState, FedBy, nothing_fed, fed_by}
use Rattle.mux_segment.specs.declared.fault.CutFault.{CutFault}
use Rattle.mux_segment.specs.declared.fed.Fed.{Fed}
use Rattle.mux_segment.specs.declared.item.Item.{Item}
use Rattle.net_base.specs.declared.memory.OutOfMemory.{OutOfMemory}
use Rattle.pair_net.specs.Ends.{unread}
use Rattle.pair_net.specs.Hearing.{heard, heard_first}

pub heard_is : (role : Role) (own : VersionInfo) (stream taken cutter : CutterState) (bytes : List ℕ) (fed : Fed) (items : List Item) (r : Result (Option Received) OutOfMemory)
    → taken ≡ stream → IsGiven (fed_by node_limits taken bytes) cutter fed → items ≡ fed.items
    → IfOk r (λ (x : Option Received). x ≡ heard_first role own items fed.fault) → IfOk r (λ (x : Option Received). x ≡ heard role own stream bytes)
unfolding heard
heard_is role own stream taken cutter bytes fed items (Ok x) is_stream given same is =
    is
    ∙ ap (λ (list : List Item). heard_first role own list fed.fault) (same ∙ given.items)
    ∙ ap (λ (fault : Option CutFault). heard_first role own (fed_by node_limits taken bytes).items fault) given.fault
    ∙ ap (λ (state : CutterState). heard role own state bytes) is_stream
heard_is role own stream taken cutter bytes fed items (Err e) is_stream given same is = tt

-- what nothing was decoded of goes on as the whole does
pub fed_on : (before bytes : List ℕ) → fed_by node_limits (unread before) bytes ≡ fed_by node_limits nothing_fed (before ++ bytes)
unfolding fed_by
fed_on before bytes = refl

pub heard_on : (role : Role) (own : VersionInfo) (before bytes : List ℕ) → heard role own (unread before) bytes ≡ heard role own nothing_fed (before ++ bytes)
unfolding heard
heard_on role own before bytes = ap (λ (fed : FedBy). heard_first role own fed.items fed.state.fault) (fed_on before bytes)

-- where nothing comes of bytes, nothing is heard of them
pub unheard_of : (role : Role) (own : VersionInfo) (bytes : List ℕ) → fed_by node_limits nothing_fed bytes ≡ record { state = unread bytes; items = [] } → heard role own nothing_fed bytes ≡ None
unfolding heard
unheard_of role own bytes quiet = ap (λ (fed : FedBy). heard_first role own fed.items fed.state.fault) quiet
