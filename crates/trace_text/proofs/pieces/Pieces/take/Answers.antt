use Rattle.std.proofs.Common.{rules}
use Rattle.trace_text.proofs.Cutting.{cut_at-Some, cut_at-None}
use Rattle.trace_text.proofs.pieces.Pieces.take.Goals as goal

pub returns-in-None-clause-taken : goal.returns-in-None-clause-taken
returns-in-None-clause-taken c =
    let e = cut_at-None c.self.inside.separator c.in_ok-bytes.bytes.now (search rules) in
    search (rules, e)

pub returns-in-Some-clause-taken : goal.returns-in-Some-clause-taken
returns-in-Some-clause-taken c =
    let e = cut_at-Some c.self.inside.separator c.in_ok-bytes.bytes.now c.in-Some.piece.now c.in-Some.rest.now (search rules) in
    search (rules, e.first)
