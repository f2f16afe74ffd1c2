use Rattle.std.proofs.Common.{◌≡◌, ◌<◌, ap, subst, ◌∙◌, arith}
use Rattle.std.specs.Option.{unwrap_or}
use Rattle.std.proofs.lemmas.Result.{on_ok_weaker}
use Rattle.accept_gate.specs.Prune.{choice_of}
use Rattle.conn_state.specs.Counted.{counted}
use Rattle.machine.specs.Connections.{candidates_in}
use Rattle.machine.specs.Machine.{counted_in}
use Rattle.connections.specs.Standing.{facts_in}
use Rattle.node_engine.proofs.Ends.{trim_does}
use Rattle.node_engine.proofs.node_state.NodeState.trim.Goals as goal

pub returns-in-Some : goal.returns-in-Some
returns-in-Some c =
    let hard : c.settings.result.now.hard ≡ c.self.inside.connections.settings.hard = ap (λ s. s.hard) c.settings.ensures.value in
    let many : c.self.inside.connections.settings.hard < counted (facts_in c.self.inside.connections) =
    omega (arith, hard, c.counted.ensures, c.if-counted-settings.false) in
    on_ok_weaker c.end.result
    (trim_does c.args.moved c.unwrap_or-cid.result c.in-Some.facts c.args.self.now _ _ _
    (subst (λ m. m.settings.hard < counted_in m) c.self.view_is many)
    (c.unwrap_or-cid.ensures ∙ (ap (λ o. unwrap_or o c.args.moved) c.prune_choice.ensures
    ∙ ap (λ m. unwrap_or (choice_of (candidates_in m)) c.args.moved) c.self.view_is))
    c.in-Some.ensures.id c.in-Some.ensures.known)
    c.end.ensures
