use Rattle.laws.specs.Sound.{IsOrderly}
use Rattle.laws.proofs.Counts.{late_in}
use Rattle.node_engine.proofs.FireLemmas.{IsFiring}
use Rattle.node_engine.proofs.node_state.NodeState.fire_all.Given as goal

abbrev pub invariant-loop-deadline : goal.invariant-loop-deadline
invariant-loop-deadline l = record {
  so_far : IsFiring l.initial.self l.initial.actions l.self l.actions;
  orderly : IsOrderly l.self;
}

abbrev pub decreases-loop-deadline : goal.decreases-loop-deadline
decreases-loop-deadline l = late_in l.self
