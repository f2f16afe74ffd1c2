use Rattle.std.proofs.Common.{sym, ◌∙◌, arith}
use Rattle.mux_segment.specs.Steps.{segment_with}
use Rattle.local_clients.proofs.Streams.{hearing_goes_on, hearing_stops, hearing_smaller, hearing_ends}
use Rattle.local_clients.proofs.stream.hear_segments.Goals as goal

pub returns-in-None-clause-phase : goal.returns-in-None-clause-phase
returns-in-None-clause-phase c =
    let s = segment_with c.in-Some.header c.in-Some.payload.now in
    sym (hearing_stops c.args.context.now c.args.phase c.args.actions.now c.args.stream.now c.loop-header.phase c.loop-header.actions c.loop-header.rest.now
    s c.in-Some.after.now c.in-Some.ensures c.loop-header.invariant c.hear_segment.new.actions (sym c.in-None.is ∙ c.in_ok-next.ensures.phase) c.in_ok-next.ensures.actions).0

pub returns-in-None-clause-actions : goal.returns-in-None-clause-actions
returns-in-None-clause-actions c =
    let s = segment_with c.in-Some.header c.in-Some.payload.now in
    (hearing_stops c.args.context.now c.args.phase c.args.actions.now c.args.stream.now c.loop-header.phase c.loop-header.actions c.loop-header.rest.now
    s c.in-Some.after.now c.in-Some.ensures c.loop-header.invariant c.hear_segment.new.actions (sym c.in-None.is ∙ c.in_ok-next.ensures.phase) c.in_ok-next.ensures.actions).1

pub loop-header-smaller : goal.loop-header-smaller
loop-header-smaller c =
    hearing_smaller c.args.context.now c.args.phase c.args.actions.now c.args.stream.now c.loop-header.rest.now
    (segment_with c.in-Some.header c.in-Some.payload.now) c.in-Some.after.now c.in-Some.ensures

pub loop-header-preserved : goal.loop-header-preserved
loop-header-preserved c =
    let s = segment_with c.in-Some.header c.in-Some.payload.now in
    hearing_goes_on c.args.context.now c.args.phase c.args.actions.now c.args.stream.now c.loop-header.phase c.loop-header.actions c.loop-header.rest.now
    s c.in-Some.after.now c.in-Some.ensures c.loop-header.invariant c.in-Some-2.next c.hear_segment.new.actions
    (sym c.in-Some-2.is ∙ c.in_ok-next.ensures.phase) c.in_ok-next.ensures.actions

pub returns-clause-phase : goal.returns-clause-phase
returns-clause-phase c =
    sym (hearing_ends c.args.context.now c.args.phase c.args.actions.now c.args.stream.now c.loop-header.phase c.loop-header.actions c.loop-header.rest.now
    c.in_default.ensures c.loop-header.invariant).phase-is

pub returns-clause-rest : goal.returns-clause-rest
returns-clause-rest c = (
  omega arith,
  (hearing_ends c.args.context.now c.args.phase c.args.actions.now c.args.stream.now c.loop-header.phase c.loop-header.actions c.loop-header.rest.now
      c.in_default.ensures c.loop-header.invariant).behind,
)

pub returns-clause-actions : goal.returns-clause-actions
returns-clause-actions c =
    (hearing_ends c.args.context.now c.args.phase c.args.actions.now c.args.stream.now c.loop-header.phase c.loop-header.actions c.loop-header.rest.now
    c.in_default.ensures c.loop-header.invariant).actions-are
