use Rattle.std.proofs.Common.{sym, subst, arith}
use Rattle.std.proofs.lemmas.Result.{err_from_is_err_and}
use Rattle.mux_segment.specs.Protocols.{node_limits}
use Rattle.mux_segment.specs.Steps.{segment_with}
use Rattle.mux_segment.specs.Kept.{AreKept}
use Rattle.mux_segment.proofs.Keeps.{kept_segment}
use Rattle.mux_segment.proofs.Streams.{reading_goes_on, reading_stops, reading_smaller, reading_ends}
use Rattle.mux_segment.proofs.segments.take_segments.Goals as goal

pub returns-in_err-take_segment-clause-items : goal.returns-in_err-take_segment-clause-items
returns-in_err-take_segment-clause-items c =
    let p = err_from_is_err_and c.from_residual.result c.from_residual.ensures.1 in
    rw (p.1, p.2) (reading_stops node_limits c.args.parts.now c.args.items.now c.args.stream.now c.loop-header.parts c.loop-header.items c.loop-header.rest.now
    (segment_with c.in-Some.header c.in-Some.payload.now) c.in-Some.after.now c.in-Some.ensures c.loop-header.invariant.reading (Unit {0}) c.take_segment.new.items
    c.in_err-take_segment.field-0.0 c.in_err-take_segment.ensures.items)

pub loop-header-smaller : goal.loop-header-smaller
loop-header-smaller c =
    reading_smaller node_limits c.args.parts.now c.args.items.now c.args.stream.now c.loop-header.rest.now
    (segment_with c.in-Some.header c.in-Some.payload.now) c.in-Some.after.now c.in-Some.ensures

pub loop-header-preserved : goal.loop-header-preserved
loop-header-preserved c =
    let adds = c.in_ok-take_segment.ensures.items in
    let s = segment_with c.in-Some.header c.in-Some.payload.now in
    let parts = c.in_ok-take_segment.ensures.parts in
    record {
      reading = reading_goes_on node_limits c.args.parts.now c.args.items.now c.args.stream.now c.loop-header.parts c.loop-header.items c.loop-header.rest.now
          s c.in-Some.after.now c.in-Some.ensures c.loop-header.invariant.reading c.take_segment.new.parts c.take_segment.new.items adds.0 adds.1 parts;
      kept = subst (AreKept node_limits) (sym parts) (kept_segment node_limits c.loop-header.parts s c.loop-header.invariant.kept adds.0);
    }

pub returns-clause-items : goal.returns-clause-items
returns-clause-items c =
    let e = reading_ends node_limits c.args.parts.now c.args.items.now c.args.stream.now c.loop-header.parts c.loop-header.items c.loop-header.rest.now
    c.in_default.ensures c.loop-header.invariant.reading in
    (e.fault-is, e.items-are)

pub returns-clause-parts : goal.returns-clause-parts
returns-clause-parts c =
    (reading_ends node_limits c.args.parts.now c.args.items.now c.args.stream.now c.loop-header.parts c.loop-header.items c.loop-header.rest.now
    c.in_default.ensures c.loop-header.invariant.reading).parts-are

pub returns-clause-rest : goal.returns-clause-rest
returns-clause-rest c =
    let e = reading_ends node_limits c.args.parts.now c.args.items.now c.args.stream.now c.loop-header.parts c.loop-header.items c.loop-header.rest.now
    c.in_default.ensures c.loop-header.invariant.reading in
    (omega arith, e.behind)
