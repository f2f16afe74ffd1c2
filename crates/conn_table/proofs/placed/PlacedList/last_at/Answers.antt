use Rattle.std.proofs.Common.{List, ap, sym, subst, ◌∙◌}
use Rattle.conn_table.specs.Index.{IsRising, found_at, before, last_at}
use Rattle.conn_table.specs.declared.placed.Placed.{Placed}
use Rattle.conn_table.proofs.LastAt.{last_at-found}
use Rattle.conn_table.proofs.placed.PlacedList.last_at.Goals as goal

pub returns : goal.returns
returns c =
    let items : List Placed = c.self.inside.items in
    let rising : IsRising items = subst IsRising (sym c.self.view_is) c.requires in
    c.placed_before.ensures
    ∙ (ap (λ n. found_at c.args.addr (before n items)) c.end_of-end.ensures
    ∙ (sym (last_at-found c.args.addr items rising) ∙ ap (last_at c.args.addr) c.self.view_is))
