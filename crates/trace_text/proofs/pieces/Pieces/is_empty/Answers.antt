use Rattle.std.proofs.Common.{rules}
use Rattle.trace_text.proofs.Cutting.{none_left}
use Rattle.trace_text.proofs.pieces.Pieces.is_empty.Goals as goal

pub returns : goal.returns
returns c =
    let e = none_left c.self.inside.separator c.self.inside.rest in
    search (rules, e.0, e.1)
