use Rattle.std.proofs.Common.{◌≡◌, ◌+◌, ◌≤◌, ◌<◌, Some, ◌∙◌, ap, sym, subst, arith}
use Rattle.laws.specs.Sound.{IsOrderly}
use Rattle.laws.proofs.Counts.{late_in}
use Rattle.laws.proofs.Firing.{fires-lowers}
use Rattle.machine.specs.Deadlines.{due}
use Rattle.node_engine.proofs.FireLemmas.{IsFiring-none, IsFiring-more, fires-fewer, Does-when_none}
use Rattle.node_engine.proofs.node_state.NodeState.fire_all.Goals as goal

pub loop-deadline-init : goal.loop-deadline-init
loop-deadline-init c = record { so_far = IsFiring-none c.args.self.now c.args.actions.now; orderly = c.requires }

pub loop-deadline-preserved : goal.loop-deadline-preserved
loop-deadline-preserved c = record {
  so_far = IsFiring-more _ _ _ _ c.in-Some.deadline _ _ c.loop-deadline.invariant.orderly c.loop-deadline.invariant.so_far
      (sym (c.due.ensures ∙ ap due c.self.view_is) ∙ c.in-Some.is) c.in_ok-fire.ensures;
  orderly = subst IsOrderly (sym c.in_ok-fire.ensures.machine_is) (fires-lowers c.in-Some.deadline _ c.loop-deadline.invariant.orderly).orderly;
}

pub loop-deadline-smaller : goal.loop-deadline-smaller
loop-deadline-smaller c =
    let next : due c.loop-deadline.self ≡ Some c.in-Some.deadline = sym (c.due.ensures ∙ ap due c.self.view_is) ∙ c.in-Some.is in
    let fewer : late_in c.fire.new.self + 1 ≤ late_in c.loop-deadline.self =
    fires-fewer c.loop-deadline.self c.loop-deadline.actions c.in-Some.deadline c.fire.new.self c.fire.new.actions
    c.loop-deadline.invariant.orderly next c.in_ok-fire.ensures in
    let less : late_in c.fire.new.self < late_in c.loop-deadline.self = omega (arith, fewer) in
    less

pub returns : goal.returns
returns c = Does-when_none _ _ _ _ c.loop-deadline.invariant.so_far (sym (c.due.ensures ∙ ap due c.self.view_is) ∙ c.in_default.is)
