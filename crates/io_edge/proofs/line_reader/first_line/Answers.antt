use Rattle.std.proofs.Common.{arith}
use Rattle.io_edge.proofs.FrontLemmas.{first_cut_off}
use Rattle.io_edge.proofs.line_reader.first_line.Goals as goal

pub returns : goal.returns
returns c = first_cut_off c.args.bytes.now c.line_length-count.result c.line_length-count.ensures.value (omega (arith, c.if-count-bytes.false, c.line_length-count.ensures.bound)) (omega (arith, c.if-count-gt-LINE_LIMIT.false))
