use Rattle.std.proofs.Common.{List, IsSomeAnd, slice_get, sym, subst, ap, ◌∙◌}
use Rattle.net_base.specs.declared.connection.Facts.{Facts}
use Rattle.conn_state.specs.Use.{facts_at}
use Rattle.conn_table.specs.Conditions.{CanStep, after_step}
use Rattle.conn_table.specs.Rosters.{facts_kept}
use Rattle.conn_table.specs.Table.{moved_at}
use Rattle.conn_table.proofs.IdPlaces.{get-place, found_id}
use Rattle.conn_table.proofs.StateFacts.{some_with}
use Rattle.conn_table.proofs.roster.Roster.turn.Goals as goal

pub turn_at-requires-clause-can : goal.turn_at-requires-clause-can
turn_at-requires-clause-can c =
    let kept = c.args.self.now in
    let fs : List Facts = facts_kept kept in
    let found = some_with (CanStep c.args.step) (facts_at c.args.cid.0 fs) c.requires.can in
    subst (λ o. IsSomeAnd o (CanStep c.args.step))
    (sym (ap (slice_get fs) c.place_of-place.ensures ∙ get-place c.args.cid.0 0 kept.given fs found.0 c.requires.kept.ids_rise found.1)) found.2

pub returns-clause-was : goal.returns-clause-was
returns-clause-was c =
    let kept = c.args.self.now in
    let fs : List Facts = facts_kept kept in
    let found = some_with (CanStep c.args.step) (facts_at c.args.cid.0 fs) c.requires.can in
    found.1 ∙ (sym (ap (slice_get fs) c.place_of-place.ensures ∙ get-place c.args.cid.0 0 kept.given fs found.0 c.requires.kept.ids_rise found.1)
    ∙ c.turn_at.ensures.was)

pub returns-clause-facts : goal.returns-clause-facts
returns-clause-facts c =
    let fs : List Facts = facts_kept c.args.self.now in
    c.turn_at.ensures.facts ∙ ap (λ n. moved_at n (after_step c.args.step) fs) (found_id c.args.cid.0 fs c.turn_at.result (returns-clause-was c))
