use Rattle.std.proofs.Common.{◌≡◌, false, cond, Some, IsSomeAnd, slice_get, ap, sym, subst, ◌∙◌}
use Rattle.net_base.specs.declared.connection.Facts.{Facts}
use Rattle.conn_state.specs.Names.{name_of}
use Rattle.conn_state.specs.Use.{facts_at, live_at, is_acquirable}
use Rattle.conn_table.specs.Answers.{acquire_answer}
use Rattle.conn_table.specs.Conditions.{CanStep}
use Rattle.conn_table.specs.Rosters.{facts_kept}
use Rattle.conn_table.specs.declared.acquire.Acquire.TheVariants.{Leased, NotReusable}
use Rattle.conn_table.specs.declared.step.Step.TheVariants.{Acquire}
use Rattle.conn_table.proofs.IdPlaces.{found-get}
use Rattle.conn_table.proofs.Lives.{stands_found}
use Rattle.conn_table.proofs.table.ConnTable.acquire_at.Goals as goal

pub returns-then-not-is_acquirable-clause-answer :
    goal.returns-then-not-is_acquirable-clause-answer
returns-then-not-is_acquirable-clause-answer c =
    let f : Facts = c.at-facts.result.now in
    let table = c.args.self.now in
    let at : slice_get table.facts c.args.place ≡ Some f = subst (λ t. slice_get t.facts c.args.place ≡ Some f) c.self.view_is c.at-facts.ensures in
    let found : live_at c.args.addr table.facts ≡ Some f = stands_found table.facts (live_at c.args.addr table.facts) c.args.place f c.requires at in
    let unable : is_acquirable f ≡ false = sym c.is_acquirable.ensures ∙ c.if-not-is_acquirable.true in
    ap NotReusable c.name_of.ensures
    ∙ (ap (λ able. cond able (Leased f.cid) (NotReusable (name_of f))) (sym unable) ∙ ap acquire_answer (sym found))

pub turn-requires : goal.turn-requires
turn-requires c =
    let f : Facts = c.at-facts.result.now in
    let roster = c.self.inside.roster in
    subst (λ t. IsSomeAnd (facts_at f.cid.0 t.facts) (CanStep Acquire)) c.self.view_is
    (subst (λ o. IsSomeAnd o (CanStep Acquire))
    (sym (found-get 0 roster.given (facts_kept roster) c.args.place f c.self.invariant.is_kept.ids_rise c.at-facts.ensures))
    (sym c.is_acquirable.ensures ∙ c.if-not-is_acquirable.false))
