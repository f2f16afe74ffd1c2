use Rattle.std.proofs.Common.{◌≡◌, ◌+◌, ℕ, true, cond, List, Some, IsSomeAnd, get_or, map, set, slice_get, refl, sym, subst, ap, ◌∙◌, arith}
use Rattle.std.proofs.lemmas.List.{map-set}
use Rattle.net_base.specs.declared.connection.Facts.{Facts}
use Rattle.conn_state.specs.Counted.{is_counted, counted}
use Rattle.conn_state.specs.State.{facts_of}
use Rattle.conn_state.specs.Use.{facts_at, is_live}
use Rattle.conn_state.specs.declared.state.ConnState.{ConnState}
use Rattle.conn_table.specs.Conditions.{CanStep, after_step}
use Rattle.conn_table.specs.Rosters.{facts_kept, OnlyLastLives}
use Rattle.conn_table.specs.Finds.{id_place}
use Rattle.conn_table.specs.Table.{IdsRise, without_at}
use Rattle.conn_table.specs.Turned.{HasTurned}
use Rattle.conn_table.proofs.IdPlaces.{place-get, id_place-moved, found-get, set-place, IdsRise-moved, count-moved, count-without}
use Rattle.conn_table.proofs.Lives.{OnlyLastLives-moved}
use Rattle.conn_table.proofs.StateFacts.{some_with, state_there, was_there, step_keeps, steps_live}
use Rattle.conn_table.proofs.Turns.{one_if, count_within}
use Rattle.conn_table.proofs.roster.Roster.turn_at.Goals.{After-change-counted}
use Rattle.conn_table.proofs.roster.Roster.turn_at.Goals as goal

-- the state that stood there
abbrev old : After-change-counted → ConnState
old c = get_or c.args.self.now.states c.args.place c.change-counted.ensures.item

turned : (c : After-change-counted) → HasTurned c.args.step (old c) c.change-counted.ensures.item c.change-counted.result
turned c = c.change-counted.ensures.done c.change-counted.ensures.item

there : (c : After-change-counted) → slice_get (facts_kept c.args.self.now) c.args.place ≡ Some c.change-counted.result.was
there c = was_there (CanStep c.args.step) c.args.self.now.states c.args.place (old c) c.change-counted.ensures.item c.change-counted.result.was
    c.requires.can refl (turned c).was

is : (c : After-change-counted) → facts_of c.change-counted.ensures.item ≡ after_step c.args.step c.change-counted.result.was
is c = (turned c).facts ∙ ap (after_step c.args.step) (sym (turned c).was)

pub change-counted-requires-clause-may : goal.change-counted-requires-clause-may
change-counted-requires-clause-may c = λ d.
    let found = some_with (CanStep c.args.step) (slice_get (facts_kept c.args.self.now) c.args.place) c.requires.can in
    subst (CanStep c.args.step) (sym (state_there c.args.self.now.states c.args.place found.0 d found.1)) found.2

pub recounted-self-requires : goal.recounted-self-requires
recounted-self-requires c =
    let kept = c.args.self.now in
    let fs : List Facts = facts_kept kept in
    let was : Facts = c.change-counted.result.was in
    let rises : IdsRise 0 kept.given fs = c.requires.kept.ids_rise in
    let at : slice_get fs c.args.place ≡ Some was = there (goal.at.recounted-self-requires c).After-change-counted in
    let rest : counted (without_at was.cid.0 fs) + cond (is_counted was) 1 0 ≡ counted fs =
    count-without is_counted was.cid.0 0 kept.given fs was rises (found-get 0 kept.given fs c.args.place was rises at) in (
      counted (without_at was.cid.0 fs),
      c.requires.kept.counted ∙ (sym rest ∙ ap (λ b. counted (without_at was.cid.0 fs) + cond b 1 0) (sym c.is_counted.ensures)),
      omega (arith, rest, count_within is_counted kept.given fs rises, c.requires.kept.few),
    )

pub returns-clause-was : goal.returns-clause-was
returns-clause-was c = there (goal.at.returns-clause-was c).After-change-counted

facts_move : (c : After-change-counted) → map facts_of c.change-counted.new.self
    ≡ map facts_of (set c.args.self.now.states c.args.place c.change-counted.ensures.item)
facts_move c = ap (map facts_of) c.change-counted.ensures.others_stay

pub returns-clause-facts : goal.returns-clause-facts
returns-clause-facts c =
    let kept = c.args.self.now in
    let fs : List Facts = facts_kept kept in
    let was : Facts = c.change-counted.result.was in
    let item : ConnState = c.change-counted.ensures.item in
    let rises : IdsRise 0 kept.given fs = c.requires.kept.ids_rise in
    let d = (goal.at.returns-clause-facts c).After-change-counted in
    let at : slice_get fs c.args.place ≡ Some was = there d in
    facts_move d
    ∙ (map-set facts_of kept.states c.args.place item
    ∙ (ap (λ n. set fs n (facts_of item)) (sym (place-get 0 kept.given fs c.args.place was rises at))
    ∙ (ap (set fs (id_place was.cid.0 fs)) (is d)
    ∙ set-place was.cid.0 0 kept.given (after_step c.args.step) fs was rises (found-get 0 kept.given fs c.args.place was rises at))))

pub returns-clause-kept : goal.returns-clause-kept
returns-clause-kept c =
    let kept = c.args.self.now in
    let fs : List Facts = facts_kept kept in
    let was : Facts = c.change-counted.result.was in
    let cid : ℕ = was.cid.0 in
    let move : Facts → Facts = after_step c.args.step in
    let rises : IdsRise 0 kept.given fs = c.requires.kept.ids_rise in
    let d = (goal.at.returns-clause-kept c).After-change-counted in
    let t = turned d in
    let at : slice_get fs c.args.place ≡ Some was = there d in
    let found : facts_at cid fs ≡ Some was = found-get 0 kept.given fs c.args.place was rises at in
    let can : CanStep c.args.step was = subst (λ o. IsSomeAnd o (CanStep c.args.step)) at c.requires.can in
    let lives : is_live was ≡ true = ap is_live t.was ∙ steps_live c.args.step (old d) t.shape (subst (CanStep c.args.step) t.was can) in
    let new = returns-clause-facts c in
    record {
      few = c.requires.kept.few;
      ids_rise = subst (IdsRise 0 kept.given) (sym new) (IdsRise-moved cid 0 kept.given move fs (λ f. ap (λ p. p.cid) (step_keeps c.args.step f)) rises);
      last_lives = subst OnlyLastLives (sym new) (OnlyLastLives-moved cid 0 kept.given move fs was (λ f. ap (λ p. p.addr) (step_keeps c.args.step f))
          rises found lives c.requires.kept.last_lives);
      counted = omega (
        arith,
        c.recounted-self.ensures,
        ap one_if c.is_counted.ensures,
        ap one_if (t.counted ∙ ap is_counted (is d)),
        c.requires.kept.counted,
        count-moved is_counted cid 0 kept.given move fs was rises found,
        ap counted new,
      );
      recent = sym (place-get 0 kept.given fs c.args.place was rises at)
          ∙ (sym (id_place-moved cid cid move fs (λ f. ap (λ p. p.cid) (step_keeps c.args.step f))) ∙ ap (id_place cid) (sym new));
    }
