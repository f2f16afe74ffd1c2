use Rattle.std.proofs.Common.{List, slice_get, sym, ap, ◌∙◌}
use Rattle.net_base.specs.declared.connection.Facts.{Facts}
use Rattle.conn_state.specs.Use.{facts_at}
use Rattle.conn_table.specs.Rosters.{facts_kept}
use Rattle.conn_table.specs.Table.{without_at}
use Rattle.std.proofs.lemmas.Option.{slice_get_within}
use Rattle.conn_table.proofs.IdPlaces.{get-place, found_id}
use Rattle.conn_table.proofs.StateFacts.{some_of}
use Rattle.conn_table.proofs.roster.Roster.remove.Goals as goal

pub remove_at-requires-clause-there : goal.remove_at-requires-clause-there
remove_at-requires-clause-there c =
    let roster = c.args.self.now in
    let fs : List Facts = facts_kept roster in
    let found = some_of (facts_at c.args.cid.0 fs) c.requires.there in
    slice_get_within fs c.place_of-place.result found.0
    (ap (slice_get fs) c.place_of-place.ensures ∙ get-place c.args.cid.0 0 roster.given fs found.0 c.requires.kept.ids_rise found.1)

pub returns-clause-was : goal.returns-clause-was
returns-clause-was c =
    let roster = c.args.self.now in
    let fs : List Facts = facts_kept roster in
    let found = some_of (facts_at c.args.cid.0 fs) c.requires.there in
    found.1 ∙ (sym (ap (slice_get fs) c.place_of-place.ensures ∙ get-place c.args.cid.0 0 roster.given fs found.0 c.requires.kept.ids_rise found.1)
    ∙ c.remove_at.ensures.was)

pub returns-clause-facts : goal.returns-clause-facts
returns-clause-facts c =
    let fs : List Facts = facts_kept c.args.self.now in
    c.remove_at.ensures.facts ∙ ap (λ n. without_at n fs) (found_id c.args.cid.0 fs c.remove_at.result (returns-clause-was c))
