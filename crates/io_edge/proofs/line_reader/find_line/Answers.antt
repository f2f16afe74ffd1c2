use Rattle.io_edge.proofs.ReadingLemmas.{HasRead-more}
use Rattle.io_edge.proofs.line_reader.find_line.Goals as goal

pub readings-preserved : goal.readings-preserved
readings-preserved g c =
    let scanned = rw c.in_default.is at c.in_ok-line.ensures.answer in
    let more = c.in_ok-refill.ensures in
    let read = HasRead-more g.S.Source.left g.S.Source.faults c.args.src.now c.readings.src c.refill.new.src _ _ c.refill.new.self c.readings.invariant.read scanned.0 more.bytes more.cause.calm in
    record {
      front = c.in_ok-line.ensures.front;
      fits = more.fits;
      read = rw scanned.1 read;
    }
