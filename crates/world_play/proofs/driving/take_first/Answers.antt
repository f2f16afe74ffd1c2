use Rattle.std.proofs.Common.{◌≡◌, ◌+◌, ◌∙◌, refl, arith}
use Rattle.std.proofs.lemmas.Result.{err_from_is_err_and}
use Rattle.world_play.proofs.Drives.{Ran-none, first-ran, first-broke}
use Rattle.world_play.proofs.driving.take_first.Goals as goal

pub loop-event-init : goal.loop-event-init
loop-event-init g c = record {
  ran = Ran-none _ _ _;
  events = omega arith;
  opened = c.requires.open;
  opening = refl;
  silent = c.requires.silent;
  taken = refl;
  worlds = refl;
  writes = refl;
}

pub returns-in_err-take-clause-broke : goal.returns-in_err-take-clause-broke
returns-in_err-take-clause-broke g c =
    let p = err_from_is_err_and c.from_residual.result c.from_residual.ensures.1 in
    rw (p.1, p.2)
    (first-broke _ _ c.args.first.now c.loop-event.event-index c.event-item.result _ _ _ _ _ _ _ c.loop-event-test.true c.event-item.is c.loop-event.invariant.ran
    c.in_err-take.ensures.broke)

pub loop-event-preserved : goal.loop-event-preserved
loop-event-preserved g c = record {
  ran = first-ran _ _ _ c.args.first.now c.loop-event.event-index c.event-item.result _ _ _ _ _ _ c.loop-event-test.true c.event-item.is c.loop-event.invariant.ran
      c.in_ok-take.ensures.ran;
  events = omega (arith, c.in_ok-take.ensures.events, c.loop-event.invariant.events);
  opened = c.take.ensures.open;
  opening = c.take.ensures.opening ∙ c.loop-event.invariant.opening;
  silent = c.in_ok-take.ensures.silent;
  taken = c.take.ensures.taken ∙ c.loop-event.invariant.taken;
  worlds = c.in_ok-take.ensures.worlds ∙ c.loop-event.invariant.worlds;
  writes = c.in_ok-take.ensures.writes ∙ c.loop-event.invariant.writes;
}
