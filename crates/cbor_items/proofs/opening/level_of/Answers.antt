use Rattle.cbor_items.proofs.Resumes.{array_level, open_array_level, map_level, open_map_level, tag_level}
use Rattle.std.proofs.Common.{ℕ, ◌*◌, sym, ap, ◌∙◌}
use Rattle.cbor_items.specs.Scan.{skip_row}
use Rattle.cbor_items.proofs.opening.level_of.Goals as goal

pub returns-in-4-true : goal.returns-in-4-true
returns-in-4-true c = open_array_level c.args.head c.in-4-true.is-0 c.in-4-true.is-1

pub returns-in-4-false : goal.returns-in-4-false
returns-in-4-false c item bytes =
    array_level c.args.head c.in-4-false.is-0 c.in-4-false.is-1 item bytes ∙ ap (λ (n : ℕ). skip_row item n bytes) (sym c.from.ensures)

pub returns-in-5-true : goal.returns-in-5-true
returns-in-5-true c = open_map_level c.args.head c.in-5-true.is-0 c.in-5-true.is-1

pub returns-in-5-false : goal.returns-in-5-false
returns-in-5-false c item bytes =
    map_level c.args.head c.in-5-false.is-0 c.in-5-false.is-1 item bytes ∙ ap (λ (n : ℕ). skip_row item (2 * n) bytes) (sym c.from-in-5-false.ensures)

pub returns-in_default : goal.returns-in_default
returns-in_default c = tag_level c.args.head c.in_default.is-0.0.1 c.in_default.is-0.1
