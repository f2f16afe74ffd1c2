use Rattle.std.proofs.Common.{ap, ◌∙◌}
use Rattle.std.proofs.lemmas.Result.{on_ok_weaker}
use Rattle.node_engine.proofs.Together.{bigs_does}
use Rattle.node_engine.proofs.node_state.NodeState.bigs_are.Goals as goal

pub returns : goal.returns
returns c = on_ok_weaker c.tell_known.result
    (bigs_does c.args.addrs.now c.settings.result.now.own _ _ _ _ _ _ _ _ c.self.view_is (ap (λ s. s.own) c.settings.ensures.value)
    c.in_ok-new.ensures.come (c.as_slice.ensures ∙ c.in_ok-new.ensures.new))
    c.tell_known.ensures
