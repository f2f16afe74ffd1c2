use Rattle.std.proofs.Common.{◌≡◌, List, None, Some, sym, subst, ap, ◌∙◌}
use Rattle.std.specs.Option.{option_map}
use Rattle.net_base.specs.declared.connection.Facts.{Facts}
use Rattle.conn_state.specs.Use.{live_at}
use Rattle.conn_table.specs.Answers.{any_acquirable, may_acquire}
use Rattle.conn_table.specs.Index.{IsRising, placed_of, last_at}
use Rattle.conn_table.specs.Finds.{newest, StandsAt}
use Rattle.conn_table.specs.Rosters.{facts_kept, OnlyLastLives}
use Rattle.conn_table.specs.declared.placed.Placed.{Placed}
use Rattle.conn_table.proofs.IndexFacts.{index_rises, last_at-index}
use Rattle.conn_table.proofs.LastAt.{last_at-address}
use Rattle.conn_table.proofs.Lives.{may_acquire-live, none_newest, none_lives}
use Rattle.conn_table.proofs.table.ConnTable.live.Goals as goal
use Rattle.conn_table.proofs.table.ConnTable.live.Goals.{After-last_at}

found : (c : After-last_at) → option_map placed_of (newest c.args.addr (facts_kept c.self.inside.roster)) ≡ c.last_at.result
found c =
    sym (last_at-index c.args.addr 0 c.self.inside.roster.given (facts_kept c.self.inside.roster) c.self.invariant.is_kept.ids_rise)
    ∙ (ap (last_at c.args.addr) (sym c.self.invariant.indexed) ∙ sym c.last_at.ensures)

address : (c : After-last_at) (p : Placed) → c.last_at.result ≡ Some p → p.addr ≡ c.args.addr
address c p was = last_at-address c.args.addr c.self.inside.index p (sym c.last_at.ensures ∙ was)

pub last_at-requires : goal.last_at-requires
last_at-requires c =
    subst IsRising (sym c.self.invariant.indexed)
    (index_rises 0 c.self.inside.roster.given (facts_kept c.self.inside.roster) c.self.invariant.is_kept.ids_rise)

pub returns-in_err-last-clause-value : goal.returns-in_err-last-clause-value
returns-in_err-last-clause-value c =
    let fs : List Facts = facts_kept c.self.inside.roster in
    let none : newest c.args.addr fs ≡ None = none_newest (newest c.args.addr fs) (found (goal.at.returns-in_err-last-clause-value c).After-last_at ∙ c.in_err-last.was) in
    subst (λ t. StandsAt t.facts (live_at c.args.addr t.facts) c.from_residual.result) c.self.view_is
    (subst (StandsAt fs (live_at c.args.addr fs)) (sym c.from_residual.ensures)
    (none_lives c.args.addr fs c.self.invariant.is_kept.last_lives (subst (λ o. StandsAt fs o None) (sym none) tt)))

pub returns-in_err-last-clause-only : goal.returns-in_err-last-clause-only
returns-in_err-last-clause-only c =
    subst (λ t. may_acquire (live_at c.args.addr t.facts) ≡ any_acquirable c.args.addr t.facts) c.self.view_is
    (may_acquire-live c.args.addr (facts_kept c.self.inside.roster) c.self.invariant.is_kept.last_lives)

pub if_live-requires-clause-last : goal.if_live-requires-clause-last
if_live-requires-clause-last c =
    let fs : List Facts = facts_kept c.self.inside.roster in
    let before = (goal.at.if_live-requires-clause-last c).After-last_at in
    subst (λ a. option_map placed_of (newest a fs) ≡ Some c.in_ok-last.last) (sym (address before c.in_ok-last.last c.in_ok-last.was))
    (found before ∙ c.in_ok-last.was)

pub returns-clause-value : goal.returns-clause-value
returns-clause-value c =
    let fs : List Facts = facts_kept c.self.inside.roster in
    subst (λ t. StandsAt t.facts (live_at c.args.addr t.facts) c.if_live.result) c.self.view_is
    (subst (λ a. StandsAt fs (live_at a fs) c.if_live.result) (address (goal.at.returns-clause-value c).After-last_at c.in_ok-last.last c.in_ok-last.was)
    c.if_live.ensures)

pub returns-clause-only : goal.returns-clause-only
returns-clause-only c =
    subst (λ t. may_acquire (live_at c.args.addr t.facts) ≡ any_acquirable c.args.addr t.facts) c.self.view_is
    (may_acquire-live c.args.addr (facts_kept c.self.inside.roster) c.self.invariant.is_kept.last_lives)

pub returns-in_err-last-clause-last_lives : goal.returns-in_err-last-clause-last_lives
returns-in_err-last-clause-last_lives c = subst (λ t. OnlyLastLives t.facts) c.self.view_is c.self.invariant.is_kept.last_lives

pub returns-clause-last_lives : goal.returns-clause-last_lives
returns-clause-last_lives c = subst (λ t. OnlyLastLives t.facts) c.self.view_is c.self.invariant.is_kept.last_lives
