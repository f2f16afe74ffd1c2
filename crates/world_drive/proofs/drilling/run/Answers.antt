use Rattle.std.proofs.Common.{◌≡◌, ◌+◌, ap, ◌∙◌, subst, arith}
use Rattle.world_drive.specs.Drill.{Drilled, drilled}
use Rattle.world_drive.specs.DrillCourse.{StandsAt}
use Rattle.world_drive.proofs.Drills.{drilled-more}
use Rattle.world_drive.proofs.drilling.run.Goals as goal

pub loop-turn-preserved : goal.loop-turn-preserved
loop-turn-preserved g c = record {
  stands = subst (λ (d : Drilled). StandsAt c.turn.new.self.world.town c.turn.new.self.engine.machine c.turn.new.self.counts d)
      (drilled-more c.args.seed c.loop-turn.turn) (c.in_ok-turn.ensures.turned (drilled c.args.seed c.loop-turn.turn) c.loop-turn.invariant.stands);
  events = c.in_ok-turn.ensures.events ∙ ap (λ n. n + 1) c.loop-turn.invariant.events;
}

-- the loop is over at the last turn
pub returns-clause-stands : goal.returns-clause-stands
returns-clause-stands g c =
    let over : c.loop-turn.turn ≡ c.args.count = omega (arith, c.loop-turn-test.false, c.loop-turn.auto.turn-end) in
    subst (λ n. StandsAt c.loop-turn.course.world.town c.loop-turn.course.engine.machine c.loop-turn.course.counts (drilled c.args.seed n))
    over c.loop-turn.invariant.stands
