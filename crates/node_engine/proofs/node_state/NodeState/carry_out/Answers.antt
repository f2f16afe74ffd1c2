use Rattle.std.proofs.Common.{sym, subst}
use Rattle.std.proofs.lemmas.Result.{on_ok_weaker}
use Rattle.laws.specs.OrderNeeds.{MayCarry}
use Rattle.machine.specs.Connections.{release}
use Rattle.machine.specs.Govern.{carries_out}
use Rattle.node_engine.specs.State.{Does}
use Rattle.node_engine.proofs.LocalUse.{used-local, used_does, acquired_does}
use Rattle.node_engine.proofs.node_state.NodeState.carry_out.Goals as goal

pub release-requires-clause-used : goal.release-requires-clause-used
release-requires-clause-used c = used-local _ c.args.self.now.connections c.in-Some-used.facts c.in-Some-used.ensures.entry

pub returns-in-Some-used : goal.returns-in-Some-used
returns-in-Some-used c = on_ok_weaker c.release.result
    (λ done. subst (λ o. Does (carries_out o c.args.self.now) c.args.actions.now c.release.new.self c.release.new.actions) (sym c.in-Release.is)
    (used_does c.in-Release.addr c.in-Some-used.facts release c.args.self.now c.used-in-Release.new.self c.release.new.self c.args.actions.now
    c.release.new.actions c.in-Some-used.ensures.same c.in-Some-used.ensures.entry c.in-Some-used.ensures.by_id done))
    c.release.ensures

pub returns-in-Some-live : goal.returns-in-Some-live
returns-in-Some-live c = on_ok_weaker c.come_into_use.result
    (λ done. subst (λ o. Does (carries_out o c.args.self.now) c.args.actions.now c.come_into_use.new.self c.come_into_use.new.actions) (sym c.in-Promote.is)
    (acquired_does c.in-Promote.addr c.in-Some-live.facts c.args.self.now c.live.new.self c.come_into_use.new.self c.args.actions.now
    c.come_into_use.new.actions c.in-Some-live.ensures.same (subst (λ o. MayCarry o c.args.self.now) c.in-Promote.is c.requires).free
    c.in-Some-live.ensures.entry c.in-Some-live.ensures.by_id done))
    c.come_into_use.ensures
