use Rattle.std.proofs.Common.{rules, ◌≡◌, [], ◌∷◌, Option, Some, subst, sym, ap, ◌∙◌}
use Rattle.atomic_table.specs.Table.{Allows, Me, step}
use mathlib.Core.Option.{none}
use Rattle.shared_table.specs.Turns.{Stands, LeavesTurn}
use Rattle.shared_table.specs.Views.{Begins, seen_in, found_in}
use Rattle.shared_table.specs.declared.view.View.{View}
use Rattle.shared_table.specs.declared.view.View.TheVariants.{Holds}
use Rattle.shared_table.proofs.PlaceLemmas.{gives_back, begins_itself}
use Rattle.shared_table.proofs.place.Place.leave.Goals as goal

pub store-requires : goal.store-requires
store-requires g c =
    let t = c.self.inside.table.shared in
    let rule = Stands g.T.Recording.history g.T.Recording.settings t.key in
    let value = c.args.taken.value in
    let old = c.args.taken.turn.seat.me.0 in
    let turn : Me (Option g.row.T.Denot) View = (Holds t.key (seen_in old) (found_in old), (0, Some value) ∷ []) in
    let st = step t.table_id.slots 0 0 0 none in
    let key = sym (ap (λ n. n.settings) c.self.view_is) in
    let me : c.put-seat.result.me ≡ turn = c.put-seat.ensures.me ∙ ap (λ v. (v, (0, Some value) ∷ [])) (ap (λ m. m.0) c.requires.turn.1 ∙ ap (λ k. Holds k (seen_in old) (found_in old)) key) in (
      search rules,
      search rules,
      subst (λ m. Allows rule t.table_id.slots c.put-seat.result.id m 0 (λ _. 0) (λ _. LeavesTurn st m 0)) (sym me)
          (subst (λ n. Allows rule n c.put-seat.result.id turn 0 (λ _. 0) (λ _. LeavesTurn st turn 0)) (sym c.self.inside.sized.1)
          (gives_back g.T.Recording.history g.T.Recording.settings t.key c.put-seat.result.id value (seen_in old) (found_in old) (seen_in old)
          (c.requires.settings ∙ key) (subst (λ h. Begins (found_in old) h) (sym c.requires.same) (begins_itself (found_in old)))
          (λ mine. subst (λ h. Begins (seen_in old) h) (sym c.requires.same) mine))),
    )
