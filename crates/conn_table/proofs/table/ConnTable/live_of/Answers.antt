use Rattle.std.proofs.Common.{◌<◌, length, sym, subst}
use Rattle.conn_state.specs.Use.{live_at}
use Rattle.conn_table.specs.Finds.{StandsAt}
use Rattle.conn_table.proofs.Lives.{stands_inside}
use Rattle.conn_table.proofs.table.ConnTable.live_of.Goals as goal

pub at-requires : goal.at-requires
at-requires c =
    let table = c.args.self.now in
    subst (λ t. c.in_ok-place.place < length t.facts) (sym c.self.view_is)
    (stands_inside table.facts (live_at c.args.addr table.facts) c.in_ok-place.place
    (subst (StandsAt table.facts (live_at c.args.addr table.facts)) c.in_ok-place.was c.live.ensures.value))
