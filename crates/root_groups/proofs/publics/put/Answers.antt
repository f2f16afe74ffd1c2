use Rattle.std.proofs.Common.{sym, ap, ◌∙◌}
use Rattle.root_groups.specs.Cleaned.{is_listed}
use Rattle.root_groups.proofs.Listed.{listed-more}
use Rattle.root_groups.proofs.publics.put.Goals as goal

pub returns-clause-same : goal.returns-clause-same
returns-clause-same c = λ a.
    listed-more c.args.addr c.args.list.now c.args.sorted.now.keys c.insert.new.self.keys c.requires c.in_ok-insert.ensures.updates.0 a
    ∙ ap (is_listed a) (sym c.in_ok-push.ensures.ok)
