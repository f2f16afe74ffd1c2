use Rattle.std.proofs.Common.{◌≡◌, ◌+◌, ◌∙◌, refl, arith}
use Rattle.std.proofs.lemmas.Result.{err_from_is_err_and}
use Rattle.world_play.proofs.Drives.{RanFor-none, RanFor-more, RanFor-broke}
use Rattle.world_play.proofs.driving.take_from.Goals as goal

pub loop-turn-init : goal.loop-turn-init
loop-turn-init g c = record {
  ran = RanFor-none _ _ _ _;
  events = omega arith;
  opened = c.requires.open;
  opening = refl;
  silent = c.requires.silent;
  worlds = refl;
  writes = refl;
}

pub returns-in_err-take-in-Event-clause-stopped : goal.returns-in_err-take-in-Event-clause-stopped
returns-in_err-take-in-Event-clause-stopped g c =
    let p = err_from_is_err_and c.from_residual-in_err-take-in-Event.result c.from_residual-in_err-take-in-Event.ensures.1 in
    let taken = rw c.in-Event.is at c.in_ok-event.ensures.taken in
    rw (p.1, p.2)
    (RanFor-broke _ _ c.loop-turn.turn c.args.count c.in-Event.event _ _ _ _ _ _ _ _ _ _ _ c.loop-turn.invariant.ran c.loop-turn-test.true (c.take.ensures.taken ∙ taken)
    c.in_ok-event.ensures.done c.in_err-take-in-Event.ensures.broke)

pub loop-turn-preserved : goal.loop-turn-preserved
loop-turn-preserved g c =
    let taken = rw c.in-Event.is at c.in_ok-event.ensures.taken in
    record {
      ran = RanFor-more _ _ _ c.loop-turn.turn c.in-Event.event _ _ _ _ _ _ _ _ _ _ c.loop-turn.invariant.ran (c.take.ensures.taken ∙ taken) c.in_ok-event.ensures.done
          c.in_ok-take-in-Event.ensures.ran;
      events = omega (arith, c.in_ok-take-in-Event.ensures.events, c.loop-turn.invariant.events);
      opened = c.take.ensures.open;
      opening = c.take.ensures.opening ∙ c.next.ensures.opening ∙ c.loop-turn.invariant.opening;
      silent = c.in_ok-take-in-Event.ensures.silent;
      worlds = c.in_ok-take-in-Event.ensures.worlds ∙ c.in_ok-event.ensures.worlds ∙ c.loop-turn.invariant.worlds;
      writes = c.in_ok-take-in-Event.ensures.writes ∙ c.loop-turn.invariant.writes;
    }
