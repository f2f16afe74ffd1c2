use Rattle.std.proofs.Common.{◌∙◌, refl}
use Rattle.socket_flow.proofs.Losing.{same, kept, and_then}
use Rattle.socket_flow.proofs.flow.SocketFlow.lose_late.Goals as goal

pub loop-init : goal.loop-init
loop-init c = record { loses = kept _ _ (same _); turns = refl }

pub loop-preserved : goal.loop-preserved
loop-preserved c = record {
  loses = and_then _ _ _ c.loop.invariant.loses (and_then _ _ _ (kept _ _ c.next_late.ensures.keeps) c.in_ok-end_late.ensures.loses);
  turns = c.end_late.ensures.turns ∙ (c.next_late.ensures.turns ∙ c.loop.invariant.turns);
}

pub returns-in_default-clause-loses : goal.returns-in_default-clause-loses
returns-in_default-clause-loses c = and_then _ _ _ c.loop.invariant.loses (kept _ _ c.next_late.ensures.keeps)
