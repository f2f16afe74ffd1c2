-- What an item came to in the handshake, carried out.
use Rattle.std.specs.Prelude.{◌≡◌, true, false, List, ℕ, drop}
use Rattle.conn_state.specs.Use.{is_outbound}
use Rattle.connections.specs.Standing.{fed_of, fed_entry}
use Rattle.hs_decide.specs.declared.verdict.Verdict.{Verdict}
use Rattle.hs_decide.specs.declared.verdict.Verdict.TheVariants.{Accept, Refuse, Query, Agree, Refused, Wrong}
use Rattle.hs_receive.specs.declared.received.Received.{Received}
use Rattle.hs_receive.specs.declared.received.Received.TheVariants as received
use Rattle.machine.specs.Connections.{entry_turns, ending}
use Rattle.machine.specs.Effect.{Effect, then_do, on_connection, for_each}
use Rattle.machine.specs.Greeting.{decided}
use Rattle.machine.specs.Machine.{Machine, Entry}
use Rattle.machine.specs.Stream.{handles, faulted}
use Rattle.net_base.specs.declared.action.CloseCause.TheVariants as cause
use Rattle.net_base.specs.declared.connection.Facts.{Facts}

-- Who takes a proposal was dialed, and who agrees has dialed.
abbrev pub CanJudge : Verdict → Facts → Type 0
CanJudge (Accept agreed) f = is_outbound f ≡ false
CanJudge (Refuse why) f = Unit {0}
CanJudge Query f = Unit {0}
CanJudge (Agree agreed) f = is_outbound f ≡ true
CanJudge Refused f = Unit {0}
CanJudge Wrong f = Unit {0}

-- the same of what an item came to
abbrev pub CanFollow : Received → Facts → Type 0
CanFollow (received.Decided verdict) f = CanJudge verdict f
CanFollow (received.Fault kind) f = Unit {0}

abbrev pub greeted_as : Received → Entry → Machine → Effect
greeted_as (received.Decided verdict) e m = decided verdict e m
greeted_as (received.Fault kind) e m = ending (cause.Fault kind) e m

-- bytes come in, of which the first item has come to something already
abbrev pub feeds_as : Received → List ℕ → Entry → Machine → Effect
feeds_as received bytes e m =
    then_do (entry_turns e (fed_entry bytes e) m)
    (λ m. then_do (on_connection e.facts.cid (greeted_as received) m)
    (λ m. then_do (for_each (handles e.facts.cid) (drop 1 (fed_of bytes e).items) m)
    (on_connection e.facts.cid (faulted (fed_of bytes e).state.fault))))
