use Rattle.std.proofs.Common.{rules}
use Rattle.trace_text.proofs.Cutting.{cut_at-Some, cut_at-None}
use Rattle.trace_text.proofs.pieces.Pieces.first.Goals as goal

pub returns-in-None : goal.returns-in-None
returns-in-None c =
    let e = cut_at-None c.self.inside.separator c.in_ok-bytes.bytes.now (search rules) in
    search (rules, e)

pub returns-in-Some : goal.returns-in-Some
returns-in-Some c =
    let e = cut_at-Some c.self.inside.separator c.in_ok-bytes.bytes.now c.in-Some.piece.now c.in-Some.field-0-1.now (search rules) in
    search (rules, e.first)
