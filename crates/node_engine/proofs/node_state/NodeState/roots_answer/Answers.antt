use Rattle.std.proofs.Common.{ap, ◌∙◌}
use Rattle.std.proofs.lemmas.Result.{on_ok_weaker}
use Rattle.node_engine.proofs.Together.{roots_does}
use Rattle.node_engine.proofs.node_state.NodeState.roots_answer.Goals as goal

pub returns-in_ok-new-in-Found : goal.returns-in_ok-new-in-Found
returns-in_ok-new-in-Found c = rw c.in-Found.is (on_ok_weaker c.tell_known.result
    (roots_does c.args.job c.in-Found.ttl c.in-Found.addrs c.settings.result.now.own _ _ _ _ _ _ _ _ c.self.view_is (ap (λ s. s.own) c.settings.ensures.value)
    c.in_ok-new-in-Found.ensures.found (c.as_slice.ensures ∙ c.in_ok-new-in-Found.ensures.new))
    c.tell_known.ensures)
