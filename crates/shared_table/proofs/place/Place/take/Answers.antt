use Rattle.std.proofs.Common.{rules, ◌≡◌, [], ◌∷◌, Some, subst, sym, ap, ◌∙◌}
use mathlib.Core.Option.{none}
use Rattle.atomic_table.specs.Table.{Allows, rest, step}
use Rattle.shared_table.specs.Turns.{Stands, AsksForTurn}
use Rattle.shared_table.specs.Views.{seen_of}
use Rattle.shared_table.specs.declared.view.View.TheVariants.{Waits}
use Rattle.shared_table.proofs.PlaceLemmas.{asks}
use Rattle.shared_table.proofs.place.Place.take.Goals as goal

pub swap-requires : goal.swap-requires
swap-requires g c =
    let t = c.self.inside.table.shared in
    let rule = Stands g.T.Recording.history g.T.Recording.settings t.key in
    let by = AsksForTurn g.T.Recording.history g.T.Recording.settings (step t.table_id.slots 0 1 0 none) in
    let seen = seen_of c.args.badge.views in
    let me : c.loop.seat.me ≡ (Waits t.key seen, []) = c.loop.invariant.3 ∙ ap (λ n. (Waits n.settings seen, [])) (sym c.self.view_is) in (
      search rules,
      search rules,
      subst (λ m. Allows rule t.table_id.slots c.loop.seat.id m 0 (λ _. 1) (by m)) (sym me)
          (subst (λ n. Allows rule n c.loop.seat.id (Waits t.key seen, []) 0 (λ _. 1) (by (Waits t.key seen, []))) (sym c.self.inside.sized.1)
          (asks g.T.Recording.history g.T.Recording.settings t.key (step t.table_id.slots 0 1 0 none) c.loop.seat.id seen)),
    )

pub exchange-requires : goal.exchange-requires
exchange-requires g c =
    let turn = c.swap.ensures.2.0 c.if-swap-eq0.true in
    let held = ap (λ m. m.1) turn.now in
    (search rules, (Some turn.value, held ∙ ap (λ l. (0, Some turn.value) ∷ rest l) (sym held)))
