use Rattle.std.proofs.Common.{map, ap, ◌∙◌}
use Rattle.conn_table.specs.Index.{last_at}
use Rattle.links.specs.Link.{place_of}
use Rattle.links.proofs.LinkFinds.{last-found}
use Rattle.links.proofs.link_row.LinkRow.last_at.Goals as goal

pub returns-clause-value : goal.returns-clause-value
returns-clause-value c =
    c.placed_before.ensures
    ∙ (last-found c.args.addr c.self.inside.rows c.end_of-end.result c.self.invariant c.end_of-end.ensures
    ∙ ap (λ links. last_at c.args.addr (map place_of links)) c.self.view_is)
