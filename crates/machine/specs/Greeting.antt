-- A connection in its handshake.
use Rattle.std.specs.Prelude.{ℕ, List, Option, Some, None}
use Rattle.conn_state.specs.Protocols.{handshake}
use Rattle.hs_message.specs.declared.message.Message.{Message}
use Rattle.hs_decide.specs.Answers.{answer_of}
use Rattle.hs_decide.specs.declared.role.Role.{Role}
use Rattle.hs_decide.specs.declared.role.Role.TheVariants.{Acceptor, Dialer}
use Rattle.hs_decide.specs.declared.verdict.Verdict.{Verdict}
use Rattle.hs_decide.specs.declared.verdict.Verdict.TheVariants as verdict
use Rattle.hs_receive.specs.Receiving.{receives, receives_message}
use Rattle.mux_segment.specs.declared.item.Item.{Item}
use Rattle.net_base.specs.declared.action.CloseCause.TheVariants as cause
use Rattle.net_base.specs.declared.action.FaultKind.TheVariants.{Protocol}
use Rattle.net_base.specs.declared.connection.Cid.{Cid}
use Rattle.net_base.specs.declared.connection.Provenance.{Provenance}
use Rattle.net_base.specs.declared.connection.Provenance.TheVariants.{FromRemote, FromLocal}
use Rattle.machine.specs.Machine.{Machine, Entry}
use Rattle.machine.specs.Effect.{Effect, nothing_more, then_do}
use Rattle.machine.specs.Replies.{sends_as_responder}
use Rattle.machine.specs.Own.{own_info}
use Rattle.machine.specs.Connections.{ending, is_agreed_inbound, is_agreed_outbound}

-- who was dialed accepts, and who dialed awaits an answer
abbrev pub role_of : Provenance → Role
role_of FromRemote = Acceptor
role_of FromLocal = Dialer

-- what is sent before a verdict is carried out
abbrev pub sends_answer : Option (List ℕ) → Cid → Machine → Effect
sends_answer None cid m = nothing_more m
sends_answer (Some bytes) cid m = sends_as_responder cid handshake bytes m

abbrev pub judged : Verdict → Entry → Machine → Effect
judged (verdict.Accept agreed) entry m = is_agreed_inbound agreed entry m
judged (verdict.Refuse why) entry m = ending cause.Refused entry m
judged verdict.Query entry m = ending cause.Query entry m
judged (verdict.Agree agreed) entry m = is_agreed_outbound agreed entry m
judged verdict.Refused entry m = ending cause.Refused entry m
judged verdict.Wrong entry m = ending (cause.Fault Protocol) entry m

-- The message is answered where the verdict has an answer, and then the verdict is carried out.
abbrev pub decided : Verdict → Entry → Machine → Effect
decided v entry m = then_do (sends_answer (answer_of v (own_info m.settings)) entry.facts.cid m) (judged v entry)

-- what a message comes to, or bytes that spell none
abbrev pub greeted_by : Option Message → ℕ → Entry → Machine → Effect
greeted_by message side entry m =
    receives_message (λ kind. ending (cause.Fault kind) entry m) (λ verdict. decided verdict entry m)
    (role_of entry.facts.provenance) (own_info m.settings) side message

-- An item in the handshake.
abbrev pub greets : Item → Entry → Machine → Effect
greets item entry m =
    receives (λ kind. ending (cause.Fault kind) entry m) (λ verdict. decided verdict entry m)
    (role_of entry.facts.provenance) (own_info m.settings) item
