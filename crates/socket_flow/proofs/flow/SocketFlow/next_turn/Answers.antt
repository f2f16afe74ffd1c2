use Rattle.std.proofs.Common.{refl, ◌∙◌}
use Rattle.socket_flow.proofs.Losing.{same, all_then, at_rest}
use Rattle.socket_flow.proofs.Passing.{none_passed, pass_on, has_turn_then}
use Rattle.socket_flow.proofs.flow.SocketFlow.next_turn.Goals as goal

pub loop-init : goal.loop-init
loop-init c = record { keeps = same _; unsent = refl; callers = refl; passed = none_passed _ _ }

pub loop-preserved : goal.loop-preserved
loop-preserved c = record {
  keeps = all_then _ _ _ c.loop.invariant.keeps (all_then _ _ _ (at_rest _ _ refl refl refl refl refl refl) c.turn.ensures.keeps);
  unsent = c.turn.ensures.unsent ∙ c.loop.invariant.unsent;
  callers = c.turn.ensures.callers ∙ c.loop.invariant.callers;
  passed = pass_on _ _ _ _ _ c.loop.invariant.passed c.in_ok-key.ensures.some refl refl c.turn.ensures.keeps c.turn.ensures.unsent c.turn.ensures.turns c.in_default.ensures.none;
}

pub returns-in-Some-clause-turns : goal.returns-in-Some-clause-turns
returns-in-Some-clause-turns c =
    has_turn_then _ _ _ _ _ _ c.loop.invariant.passed c.in_ok-key.ensures.some refl refl c.turn.ensures.keeps c.turn.ensures.unsent c.turn.ensures.turns c.in_ok-key.ensures.once c.in-Some.ensures.turn
