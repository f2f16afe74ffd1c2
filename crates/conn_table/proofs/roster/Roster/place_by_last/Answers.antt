use Rattle.std.proofs.Common.{◌≡◌, ◌∙◌, ap, sym, rules}
use Rattle.conn_table.specs.Finds.{id_place}
use Rattle.conn_table.specs.Rosters.{facts_kept}
use Rattle.conn_table.proofs.IdPlaces.{place-get}
use Rattle.conn_table.proofs.roster.Roster.place_by_last.Goals as goal

pub returns-then-eq : goal.returns-then-eq
returns-then-eq c =
    let facts = facts_kept c.args.self.now in
    let same : c.at-2.result.now.cid ≡ c.args.cid = search rules in
    sym (place-get 0 c.args.self.now.given facts c.in_ok-place.place c.at-2.result.now c.requires.ids_rise c.at-2.ensures)
    ∙ ap (λ cid. id_place cid.0 facts) same
