use Rattle.std.proofs.Common.{◌≡◌, List, Option, Some, None, map, refl, sym, subst, ap, ◌∙◌}
use Rattle.std.specs.Option.{option_map}
use Rattle.net_base.specs.declared.connection.Facts.{Facts}
use Rattle.conn_state.specs.Use.{live_at}
use Rattle.conn_table.specs.Finds.{newest, if_live, StandsAt}
use Rattle.conn_table.specs.Index.{placed_of}
use Rattle.conn_table.specs.Rosters.{facts_kept}
use Rattle.conn_table.specs.declared.placed.Placed.{Placed}
use Rattle.conn_table.proofs.LastAt.{last_at-address}
use Rattle.conn_table.proofs.Lives.{live_at-newest, none_newest, stands_found, stands_inside}
use Rattle.links.specs.Link.{place_of}
use Rattle.connections.proofs.connections.live_in.Goals as goal
use Rattle.connections.proofs.connections.live_in.Goals.{After-last_at}

none_there : (fs : List Facts) (o : Option Facts) → StandsAt fs o None → o ≡ None
none_there fs None h = refl
none_there fs (Some f) h = absurd h

found : (c : After-last_at) → option_map placed_of (newest c.args.addr (facts_kept c.args.roster.now)) ≡ c.last_at.result
found c = sym (c.requires.last c.last_at.ensures.ordered) ∙ sym c.last_at.ensures.value

address : (c : After-last_at) (p : Placed) → c.last_at.result ≡ Some p → p.addr ≡ c.args.addr
address c p was = last_at-address c.args.addr (map place_of c.args.links.now) p (sym c.last_at.ensures.value ∙ was)

pub returns-in_err-last-clause-value : goal.returns-in_err-last-clause-value
returns-in_err-last-clause-value c =
    let fs : List Facts = facts_kept c.args.roster.now in
    c.from_residual.ensures
    ∙ sym (live_at-newest c.args.addr fs c.requires.kept.last_lives
    ∙ ap if_live (none_newest (newest c.args.addr fs) (found (goal.at.returns-in_err-last-clause-value c).After-last_at ∙ c.in_err-last.was)))

pub if_live-requires-clause-last : goal.if_live-requires-clause-last
if_live-requires-clause-last c =
    let fs : List Facts = facts_kept c.args.roster.now in
    let before = (goal.at.if_live-requires-clause-last c).After-last_at in
    subst (λ a. option_map placed_of (newest a fs) ≡ Some c.in_ok-last.last) (sym (address before c.in_ok-last.last c.in_ok-last.was))
    (found before ∙ c.in_ok-last.was)

pub returns-in_err-place-clause-value : goal.returns-in_err-place-clause-value
returns-in_err-place-clause-value c =
    let fs : List Facts = facts_kept c.args.roster.now in
    let last = c.in_ok-last.last in
    c.from_residual-in_err-place.ensures
    ∙ (sym (none_there fs (live_at last.addr fs) (subst (StandsAt fs (live_at last.addr fs)) c.in_err-place.was c.if_live.ensures))
    ∙ ap (λ a. live_at a fs) (address (goal.at.returns-in_err-place-clause-value c).After-last_at last c.in_ok-last.was))

pub at-requires : goal.at-requires
at-requires c =
    let fs : List Facts = facts_kept c.args.roster.now in
    let last = c.in_ok-last.last in
    stands_inside fs (live_at last.addr fs) c.in_ok-place.place (subst (StandsAt fs (live_at last.addr fs)) c.in_ok-place.was c.if_live.ensures)

pub returns-clause-value : goal.returns-clause-value
returns-clause-value c =
    let fs : List Facts = facts_kept c.args.roster.now in
    let last = c.in_ok-last.last in
    sym (stands_found fs (live_at last.addr fs) c.in_ok-place.place c.at.result.now
    (subst (StandsAt fs (live_at last.addr fs)) c.in_ok-place.was c.if_live.ensures) c.at.ensures)
    ∙ ap (λ a. live_at a fs) (address (goal.at.returns-clause-value c).After-last_at last c.in_ok-last.was)
