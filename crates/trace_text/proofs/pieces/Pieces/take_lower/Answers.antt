use Rattle.std.proofs.Common.{◌≡◌, true, false, sym, ◌∙◌, rules}
use Rattle.std.specs.List.{list_all}
use Rattle.trace_text.specs.Events.{is_lower_digit}
use Rattle.trace_text.proofs.Places.{whole_piece}
use Rattle.trace_text.proofs.pieces.Pieces.take_lower.Goals as goal

pub returns-clause-taken : goal.returns-clause-taken
returns-clause-taken c =
    let lower : list_all is_lower_digit c.in_ok-bytes.bytes.now ≡ true = search rules in
    let other : is_lower_digit c.self.inside.separator ≡ false = search rules in
    let whole = whole_piece is_lower_digit c.self.inside.separator c.in_ok-bytes.bytes.now lower other in
    search (rules, whole)
