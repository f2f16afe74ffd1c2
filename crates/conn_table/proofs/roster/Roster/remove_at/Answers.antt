use Rattle.std.proofs.Common.{◌≡◌, ◌+◌, ℕ, cond, List, Some, map, slice_get, sym, subst, ap, ◌∙◌, arith}
use Rattle.std.specs.List.{remove}
use Rattle.std.proofs.lemmas.List.{length-map}
use Rattle.net_base.specs.declared.connection.Facts.{Facts}
use Rattle.conn_state.specs.Counted.{is_counted, counted}
use Rattle.conn_state.specs.State.{facts_of}
use Rattle.conn_state.specs.Use.{facts_at}
use Rattle.conn_table.specs.Rosters.{facts_kept, OnlyLastLives}
use Rattle.conn_table.specs.Table.{IdsRise, without_at}
use Rattle.conn_table.proofs.IdPlaces.{place-get, found-get, remove-place, IdsRise-filter, count-without}
use Rattle.conn_table.proofs.Lives.{OnlyLastLives-filter}
use Rattle.conn_table.proofs.StateFacts.{stands_there}
use Rattle.conn_table.proofs.Turns.{one_if, map-remove, count_within}
use Rattle.conn_table.proofs.roster.Roster.remove_at.Goals as goal

pub returns-clause-was : goal.returns-clause-was
returns-clause-was c =
    stands_there c.args.self.now.states c.args.place c.remove.result c.requires.there c.remove.ensures.value ∙ ap Some (sym c.facts-facts.ensures.value)

pub recounted-self-requires : goal.recounted-self-requires
recounted-self-requires c =
    let roster = c.args.self.now in
    let fs : List Facts = facts_kept roster in
    let was : Facts = c.facts-facts.result in
    let at : slice_get fs c.args.place ≡ Some was =
    stands_there roster.states c.args.place c.remove.result c.requires.there c.remove.ensures.value ∙ ap Some (sym c.facts-facts.ensures.value) in
    let rises : IdsRise 0 roster.given fs = c.requires.kept.ids_rise in
    let rest : counted (without_at was.cid.0 fs) + cond (is_counted was) 1 0 ≡ counted fs =
    count-without is_counted was.cid.0 0 roster.given fs was rises (found-get 0 roster.given fs c.args.place was rises at) in (
      counted (without_at was.cid.0 fs),
      c.requires.kept.counted ∙ (sym rest ∙ ap (λ b. counted (without_at was.cid.0 fs) + cond b 1 0) (sym c.is_counted.ensures)),
      omega (arith, rest, count_within is_counted roster.given fs rises, c.requires.kept.few),
    )

pub returns-clause-facts : goal.returns-clause-facts
returns-clause-facts c =
    let roster = c.args.self.now in
    let fs : List Facts = facts_kept roster in
    let was : Facts = c.facts-facts.result in
    let rises : IdsRise 0 roster.given fs = c.requires.kept.ids_rise in
    let at : slice_get fs c.args.place ≡ Some was = returns-clause-was c in
    ap (map facts_of) c.remove.ensures.items
    ∙ (map-remove roster.states c.args.place (omega (arith, c.requires.there, length-map roster.states facts_of))
    ∙ (ap (remove fs) (sym (place-get 0 roster.given fs c.args.place was rises at))
    ∙ remove-place was.cid.0 0 roster.given fs was rises (found-get 0 roster.given fs c.args.place was rises at)))

pub returns-clause-kept : goal.returns-clause-kept
returns-clause-kept c =
    let roster = c.args.self.now in
    let fs : List Facts = facts_kept roster in
    let was : Facts = c.facts-facts.result in
    let cid : ℕ = was.cid.0 in
    let rises : IdsRise 0 roster.given fs = c.requires.kept.ids_rise in
    let found : facts_at cid fs ≡ Some was = found-get 0 roster.given fs c.args.place was rises (returns-clause-was c) in
    let new = returns-clause-facts c in
    record {
      few = c.requires.kept.few;
      ids_rise = subst (IdsRise 0 roster.given) (sym new) (IdsRise-filter _ 0 roster.given fs rises);
      last_lives = subst OnlyLastLives (sym new) (OnlyLastLives-filter _ fs c.requires.kept.last_lives);
      counted = omega (
        arith,
        c.recounted-self.ensures,
        ap one_if c.is_counted.ensures,
        c.requires.kept.counted,
        count-without is_counted cid 0 roster.given fs was rises found,
        ap counted new,
      );
      recent = tt;
    }
