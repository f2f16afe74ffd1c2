use Rattle.std.proofs.Common.{◌≡◌, None, Some, ap, sym, subst, ◌∙◌}
use Rattle.hs_decide.specs.Answers.{answer_of}
use Rattle.machine.specs.Greeting.{sends_answer, judged, decided}
use Rattle.machine.specs.Own.{own_info}
use Rattle.node_engine.specs.State.{Does, sends_from}
use Rattle.node_engine.proofs.DoesLemmas.{does_other}
use Rattle.node_engine.proofs.Doings.{does_nothing}
use Rattle.node_engine.proofs.GreetLemmas.{decided-does}
use Rattle.node_engine.proofs.node_state.NodeState.decide.Goals as goal

pub returns-in_default : goal.returns-in_default
returns-in_default c =
    let m = c.args.self.now in
    let v = c.args.verdict in
    let before = c.args.actions.now in
    let own_is : c.own_info-own.result ≡ own_info m.settings =
    c.own_info-own.ensures ∙ (ap own_info c.settings.ensures.value ∙ ap (λ m. own_info m.settings) c.self.view_is) in
    let silent : answer_of v c.own_info-own.result ≡ None = sym c.in_ok-octets.ensures.answer ∙ c.in_default.is in
    let said : Does (sends_answer (answer_of v c.own_info-own.result) c.args.facts.now.cid m) before m before =
    subst (λ o. Does (sends_answer o c.args.facts.now.cid m) before m before) (sym silent) (does_nothing m before) in
    does_other c.follow_verdict.result c.args.facts.now (judged v) (decided v)
    m c.follow_verdict.new.self before before c.follow_verdict.new.actions c.requires.known
    (λ e is same done. decided-does c.args.facts.now e c.own_info-own.result v m c.follow_verdict.new.self before before c.follow_verdict.new.actions same own_is said done)
    c.follow_verdict.ensures

pub returns : goal.returns
returns c =
    let m = c.args.self.now in
    let v = c.args.verdict in
    let before = c.args.actions.now in
    let own_is : c.own_info-own.result ≡ own_info m.settings =
    c.own_info-own.ensures ∙ (ap own_info c.settings.ensures.value ∙ ap (λ m. own_info m.settings) c.self.view_is) in
    let answered : answer_of v c.own_info-own.result ≡ Some c.in-Some.octets = sym c.in_ok-octets.ensures.answer ∙ c.in-Some.is in
    let sent : Does (sends_from 1 c.args.facts.now.cid 0 c.in-Some.octets m) before m c.send.new.actions =
    subst (λ bytes. Does (sends_from 1 c.args.facts.now.cid 0 bytes m) before m c.send.new.actions) c.as_slice.ensures c.in_ok-send.ensures in
    let said : Does (sends_answer (answer_of v c.own_info-own.result) c.args.facts.now.cid m) before m c.send.new.actions =
    subst (λ o. Does (sends_answer o c.args.facts.now.cid m) before m c.send.new.actions) (sym answered) sent in
    does_other c.follow_verdict-2.result c.args.facts.now (judged v) (decided v)
    m c.follow_verdict-2.new.self c.send.new.actions before c.follow_verdict-2.new.actions c.requires.known
    (λ e is same done. decided-does c.args.facts.now e c.own_info-own.result v m c.follow_verdict-2.new.self before c.send.new.actions c.follow_verdict-2.new.actions same own_is said done)
    c.follow_verdict-2.ensures
