use Rattle.std.proofs.Common.{◌≡◌, ◌+◌, ◌++◌, ◌∷◌, [], List, map, sym, subst, ap, ◌∙◌, arith}
use Rattle.std.proofs.lemmas.List.{map-append}
use Rattle.net_base.specs.declared.connection.Facts.{Facts}
use Rattle.conn_state.specs.Counted.{is_counted, counted}
use Rattle.conn_state.specs.State.{facts_of}
use Rattle.conn_table.specs.Rosters.{facts_kept, OnlyLastLives}
use Rattle.conn_table.specs.Table.{IdsRise}
use Rattle.conn_table.proofs.IdPlaces.{IdsRise-push}
use Rattle.conn_table.proofs.Lives.{OnlyLastLives-push}
use Rattle.conn_table.proofs.Turns.{one_if, count_within, count-push}
use Rattle.conn_table.proofs.roster.Roster.enter.Goals as goal

pub recounted-self-requires : goal.recounted-self-requires
recounted-self-requires c =
    let kept = c.args.self.now in (
      kept.counted,
      omega arith,
      omega (arith, c.requires.kept.counted, count_within is_counted kept.given (facts_kept kept) c.requires.kept.ids_rise, c.requires.kept.few),
    )

pub returns-clause-kept : goal.returns-clause-kept
returns-clause-kept c =
    let kept = c.args.self.now in
    let fs : List Facts = facts_kept kept in
    let f : Facts = facts_of c.args.state in
    let rises : IdsRise 0 kept.given fs = c.requires.kept.ids_rise in
    let new : map facts_of c.push.new.self ≡ fs ++ f ∷ [] =
    ap (map facts_of) c.in_ok-push.ensures.ok
    ∙ map-append facts_of kept.states (c.args.state ∷ []) in
    let is_counted_now : c.is_counted-is_counted.result ≡ is_counted f = c.is_counted-is_counted.ensures ∙ ap is_counted c.as_facts.ensures.value in
    record {
      few = omega (arith, c.requires.few);
      ids_rise = subst (IdsRise 0 (kept.given + 1)) (sym new) (IdsRise-push 0 kept.given fs f rises c.requires.next);
      last_lives = subst OnlyLastLives (sym new) (OnlyLastLives-push fs f c.requires.kept.last_lives c.requires.alone);
      counted = omega (
        arith,
        c.recounted-self.ensures,
        ap one_if is_counted_now,
        c.requires.kept.counted,
        count-push is_counted fs f,
        ap counted new,
      );
      recent = tt;
    }
