use Rattle.std.proofs.Common.{◌^◌, map, arith}
use Rattle.shared_table.specs.declared.call.TableCall.TheVariants as made
use Rattle.shared_table.proofs.WorkLemmas.{grew-none, grew-more, few_made, stopped_here, all_made, held-earlier}
use Rattle.shared_table.proofs.work.work_out.Goals as goal

pub loop-place-init : goal.loop-place-init
loop-place-init g c = record { here = c.requires.here; grew = grew-none (map (λ call. made.Out call) c.as_slice-call-items.result.now) c.args.seat.noted; later = λ n. omega arith }

pub step_out-requires-clause-here : goal.step_out-requires-clause-here
step_out-requires-clause-here g c κs within = c.loop-place.invariant.here

pub step_out-requires-clause-few : goal.step_out-requires-clause-few
step_out-requires-clause-few g c κs within =
    few_made (λ call. made.Out call) c.as_slice-call-items.result.now c.args.calls.now c.loop-place.place (2 ^ 32) c.args.seat.noted c.loop-place.seat.noted
    c.as_slice-call-items.ensures c.loop-place-test.true c.requires.few c.loop-place.invariant.grew

pub returns-in-Some-clause-end : goal.returns-in-Some-clause-end
returns-in-Some-clause-end g c =
    stopped_here (λ call. made.Out call) c.as_slice-call-items.result.now c.args.calls.now c.loop-place.place c.in-Some.end c.args.seat.noted c.loop-place.seat.noted
    c.step_out.new.seat.noted c.as_slice-call-items.ensures c.loop-place-test.true c.in-Some.ensures.stopped c.loop-place.invariant.grew

pub returns-in-Some-clause-held : goal.returns-in-Some-clause-held
returns-in-Some-clause-held g c = held-earlier c.in-Some.end _ _ _ c.loop-place.invariant.later c.in-Some.ensures.held

pub loop-place-preserved : goal.loop-place-preserved
loop-place-preserved g c = record {
  here = c.in_default.ensures.here;
  grew = grew-more (λ call. made.Out call) c.as_slice-call-items.result.now c.loop-place.place _ c.args.seat.noted c.loop-place.seat.noted c.step_out.new.seat.noted
      c.loop-place-test.true c.loop-place.invariant.grew c.in_default.ensures.made;
  later = λ n. omega (arith, c.loop-place.invariant.later n, c.in_default.ensures.later n);
}

pub returns-clause-here : goal.returns-clause-here
returns-clause-here g c = c.loop-place.invariant.here

pub returns-clause-end : goal.returns-clause-end
returns-clause-end g c =
    all_made (λ call. made.Out call) c.as_slice-call-items.result.now c.args.calls.now c.loop-place.place c.args.seat.noted c.loop-place.seat.noted
    c.as_slice-call-items.ensures (omega arith) c.loop-place.invariant.grew
