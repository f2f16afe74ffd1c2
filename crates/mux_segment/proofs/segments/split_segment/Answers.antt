use Rattle.mux_segment.proofs.Cuts.{no_header, payload_missing, payload_read}
use Rattle.mux_segment.proofs.segments.split_segment.Goals as goal

pub returns-in_err-front : goal.returns-in_err-front
returns-in_err-front c = rw c.from_residual.ensures (no_header c.args.bytes.now c.in_err-front.ensures.cases)

pub returns-then-rest-size : goal.returns-then-rest-size
returns-then-rest-size c =
    let read = c.in_ok-front.ensures.cases in
    payload_missing c.args.bytes.now c.in_ok-front.front.now c.in_ok-front.rest.now c.read_header-header.result c.from-size.result
    c.read_header-header.ensures.header read.0 read.1 read.2 c.from-size.ensures c.if-rest-size.true

pub returns : goal.returns
returns c =
    let read = c.in_ok-front.ensures.cases in
    payload_read c.args.bytes.now c.in_ok-front.front.now c.in_ok-front.rest.now c.read_header-header.result c.from-size.result
    c.read_header-header.ensures.header read.0 read.1 read.2 c.from-size.ensures c.split_at.result.0.now c.split_at.result.1.now
    c.if-rest-size.false c.split_at.ensures.front c.split_at.ensures.back
