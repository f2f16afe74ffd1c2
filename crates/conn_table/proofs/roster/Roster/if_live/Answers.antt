use Rattle.std.proofs.Common.{List, Some, sym, ◌∙◌}
use Rattle.net_base.specs.declared.connection.Facts.{Facts}
use Rattle.conn_table.specs.Finds.{newest, StandsAt}
use Rattle.conn_table.specs.Rosters.{facts_kept}
use Rattle.conn_table.proofs.Lives.{newest_stands, one_lives, one_is_closed, stands_inside}
use Rattle.conn_table.proofs.roster.Roster.if_live.Goals as goal
use Rattle.conn_table.proofs.roster.Roster.if_live.Goals.{After-place_of-place}

stands : (c : After-place_of-place) → StandsAt (facts_kept c.args.self.now) (newest c.args.last.addr (facts_kept c.args.self.now)) (Some c.place_of-place.result)
stands c =
    newest_stands c.args.last.addr c.args.self.now.given (facts_kept c.args.self.now) c.args.last c.place_of-place.result
    c.requires.kept.ids_rise c.requires.last c.place_of-place.ensures

pub at-requires : goal.at-requires
at-requires c =
    let fs : List Facts = facts_kept c.args.self.now in
    stands_inside fs (newest c.args.last.addr fs) c.place_of-place.result (stands (goal.at.at-requires c).After-place_of-place)

pub returns-then-is_live : goal.returns-then-is_live
returns-then-is_live c =
    one_lives c.args.last.addr (facts_kept c.args.self.now) c.place_of-place.result c.at.result.now c.requires.kept.last_lives
    (stands (goal.at.returns-then-is_live c).After-place_of-place) c.at.ensures (sym c.is_live.ensures ∙ c.if-is_live.true)

pub returns-else-is_live : goal.returns-else-is_live
returns-else-is_live c =
    one_is_closed c.args.last.addr (facts_kept c.args.self.now) c.place_of-place.result c.at.result.now c.requires.kept.last_lives
    (stands (goal.at.returns-else-is_live c).After-place_of-place) c.at.ensures (sym c.is_live.ensures ∙ c.if-is_live.false)
