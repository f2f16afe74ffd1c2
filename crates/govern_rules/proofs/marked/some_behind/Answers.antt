use Rattle.std.proofs.Common.{List, drop, sym, ap, ◌∙◌}
use Rattle.std.specs.List.{list_any}
use Rattle.govern_rules.specs.Marks.{has_mark}
use Rattle.govern_rules.specs.declared.link.Link.{Link}
use Rattle.govern_rules.proofs.ByAddress.{in_order-drop}
use Rattle.govern_rules.proofs.Known.{none_from}
use Rattle.govern_rules.proofs.marked.some_behind.Goals as goal

pub returns-then-starts_elsewhere : goal.returns-then-starts_elsewhere
returns-then-starts_elsewhere c =
    let links : List Link = c.args.links.now in
    sym (ap (list_any (has_mark c.args.mark))
    (none_from c.args.addr.now c.args.run.now (drop c.args.start links) (in_order-drop c.args.start links c.requires.ordered) c.requires.above c.requires.run
    (sym c.starts_elsewhere.ensures ∙ c.if-starts_elsewhere.true)))
