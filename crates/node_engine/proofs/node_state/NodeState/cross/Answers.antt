use Rattle.std.proofs.Common.{◌≡◌, true, ap, sym, ◌∙◌, arith}
use Rattle.std.proofs.lemmas.Result.{on_ok_weaker}
use Rattle.net_base.specs.Address.{address_below}
use Rattle.node_engine.proofs.Ends.{GivesWay, gives_way, cross_does}
use Rattle.node_engine.proofs.node_state.NodeState.cross.Goals.{In_ok-end}
use Rattle.node_engine.proofs.node_state.NodeState.cross.Goals as goal

goes : (c : In_ok-end) → GivesWay c.args.addr c.args.self.now c.end.new.self c.args.actions.now c.end.new.actions
goes c = gives_way c.args.addr c.args.facts.now c.args.self.now c.end.new.self c.args.actions.now c.end.new.actions
    c.requires.orderly c.requires.live c.requires.by_id c.in_ok-end.ensures

pub admit-requires-clause-no_live : goal.admit-requires-clause-no_live
admit-requires-clause-no_live c = (goes (goal.at.admit-requires-clause-no_live c).In_ok-end).none_left

pub admit-requires-clause-room : goal.admit-requires-clause-room
admit-requires-clause-room c =
    let h = goes (goal.at.admit-requires-clause-room c).In_ok-end in
    let hard : c.end.new.self.settings.hard ≡ c.args.self.now.settings.hard = ap (λ s. s.hard) h.settings in
    omega (arith, hard, h.counted, c.requires.room)

pub returns : goal.returns
returns c =
    let below : address_below c.args.addr c.args.self.now.settings.own ≡ true =
    sym (ap (address_below c.args.addr) (ap (λ s. s.own) c.settings.ensures.value ∙ ap (λ m. m.settings.own) c.self.view_is)) ∙ (sym c.is_before.ensures ∙ c.if-not-is_before.false) in
    on_ok_weaker c.admit.result
    (cross_does c.args.addr c.args.self.now c.end.new.self c.admit.new.self c.args.actions.now c.end.new.actions c.admit.new.actions below (goes (goal.at.returns c).In_ok-end))
    c.admit.ensures
