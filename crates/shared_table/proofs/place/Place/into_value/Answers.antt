use Rattle.std.proofs.Common.{rules, ◌≡◌, [], ◌∷◌, refl, subst, sym, ap, ◌∙◌}
use Rattle.std.specs.Option.{IsSome}
use Rattle.std.specs.Slots.{slots_items}
use Rattle.atomic_table.specs.Table.{Joins}
use Rattle.shared_table.specs.Turns.{Stands, joined}
use Rattle.shared_table.specs.Views.{Begins, seen_of}
use Rattle.shared_table.specs.declared.view.View.TheVariants.{Waits, Both, Gone}
use Rattle.shared_table.proofs.PlaceLemmas.{joins, brings, only_view, some_same}
use Rattle.shared_table.proofs.place.Place.into_value.Goals as goal

pub join_seat-requires : goal.join_seat-requires
join_seat-requires g c =
    let key = c.self.inside.table.shared.key in
    let rule = Stands g.T.Recording.history g.T.Recording.settings key in
    let one = c.into_seat-seat.result in
    let other = c.into_seat.result in
    let a = seen_of c.args.one.views in
    let b = seen_of c.args.other.views in
    let same = sym (ap (λ n. n.settings) c.self.view_is) in
    let v : one.me.0 ≡ Waits key a = only_view c.args.one.views one.me.0 (Waits key a) c.into_seat-seat.ensures.2 (c.requires.one.1 ∙ ap (λ k. Waits k a ∷ []) same) in
    let w : other.me.0 ≡ Waits key b = only_view c.args.other.views other.me.0 (Waits key b) c.into_seat.ensures.2 (c.requires.other.1 ∙ ap (λ k. Waits k b ∷ []) same) in (
      search rules,
      search rules,
      search rules,
      search rules,
      subst (λ x. Joins rule one.id x other.id other.me.0 (joined x other.me.0) Gone) (sym v)
          (subst (λ x. Joins rule one.id (Waits key a) other.id x (joined (Waits key a) x) Gone) (sym w)
          (joins g.T.Recording.history g.T.Recording.settings key one.id other.id a b)),
    )

pub unwrap-requires : goal.unwrap-requires
unwrap-requires g c =
    let key = c.self.inside.table.shared.key in
    let one = c.into_seat-seat.result in
    let other = c.into_seat.result in
    let a = seen_of c.args.one.views in
    let b = seen_of c.args.other.views in
    let same = sym (ap (λ n. n.settings) c.self.view_is) in
    let v : one.me.0 ≡ Waits key a = only_view c.args.one.views one.me.0 (Waits key a) c.into_seat-seat.ensures.2 (c.requires.one.1 ∙ ap (λ k. Waits k a ∷ []) same) in
    let w : other.me.0 ≡ Waits key b = only_view c.args.other.views other.me.0 (Waits key b) c.into_seat.ensures.2 (c.requires.other.1 ∙ ap (λ k. Waits k b ∷ []) same) in
    let me : c.join_seat.new.seat.me.0 ≡ Both key a b = ap (λ m. m.0) c.join_seat.ensures.2 ∙ (ap (λ x. joined x other.me.0) v ∙ ap (λ x. joined (Waits key a) x) w) in
    let brought = brings g.T.Recording.history g.T.Recording.settings key c.join_seat.new.seat.id c.join_seat.new.seat.me.0 a b (slots_items c.close_with-closed.result.words) (slots_items c.close_with-closed.result.slots) c.take-value.result me
    c.close_with-closed.ensures.values.2 c.take-value.ensures.value in
    subst IsSome (sym brought.is) refl

pub returns-clause-settings : goal.returns-clause-settings
returns-clause-settings g c =
    let key = c.self.inside.table.shared.key in
    let one = c.into_seat-seat.result in
    let other = c.into_seat.result in
    let a = seen_of c.args.one.views in
    let b = seen_of c.args.other.views in
    let same = sym (ap (λ n. n.settings) c.self.view_is) in
    let v : one.me.0 ≡ Waits key a = only_view c.args.one.views one.me.0 (Waits key a) c.into_seat-seat.ensures.2 (c.requires.one.1 ∙ ap (λ k. Waits k a ∷ []) same) in
    let w : other.me.0 ≡ Waits key b = only_view c.args.other.views other.me.0 (Waits key b) c.into_seat.ensures.2 (c.requires.other.1 ∙ ap (λ k. Waits k b ∷ []) same) in
    let me : c.join_seat.new.seat.me.0 ≡ Both key a b = ap (λ m. m.0) c.join_seat.ensures.2 ∙ (ap (λ x. joined x other.me.0) v ∙ ap (λ x. joined (Waits key a) x) w) in
    let brought = brings g.T.Recording.history g.T.Recording.settings key c.join_seat.new.seat.id c.join_seat.new.seat.me.0 a b (slots_items c.close_with-closed.result.words) (slots_items c.close_with-closed.result.slots) c.take-value.result me
    c.close_with-closed.ensures.values.2 c.take-value.ensures.value in
    let value = some_same brought.value c.unwrap.result (sym brought.is ∙ c.unwrap.ensures) in
    sym (ap g.T.Recording.settings value) ∙ (brought.settings ∙ sym same)

pub returns-clause-one : goal.returns-clause-one
returns-clause-one g c =
    let key = c.self.inside.table.shared.key in
    let one = c.into_seat-seat.result in
    let other = c.into_seat.result in
    let a = seen_of c.args.one.views in
    let b = seen_of c.args.other.views in
    let same = sym (ap (λ n. n.settings) c.self.view_is) in
    let v : one.me.0 ≡ Waits key a = only_view c.args.one.views one.me.0 (Waits key a) c.into_seat-seat.ensures.2 (c.requires.one.1 ∙ ap (λ k. Waits k a ∷ []) same) in
    let w : other.me.0 ≡ Waits key b = only_view c.args.other.views other.me.0 (Waits key b) c.into_seat.ensures.2 (c.requires.other.1 ∙ ap (λ k. Waits k b ∷ []) same) in
    let me : c.join_seat.new.seat.me.0 ≡ Both key a b = ap (λ m. m.0) c.join_seat.ensures.2 ∙ (ap (λ x. joined x other.me.0) v ∙ ap (λ x. joined (Waits key a) x) w) in
    let brought = brings g.T.Recording.history g.T.Recording.settings key c.join_seat.new.seat.id c.join_seat.new.seat.me.0 a b (slots_items c.close_with-closed.result.words) (slots_items c.close_with-closed.result.slots) c.take-value.result me
    c.close_with-closed.ensures.values.2 c.take-value.ensures.value in
    let value = some_same brought.value c.unwrap.result (sym brought.is ∙ c.unwrap.ensures) in
    subst (λ t. Begins a (g.T.Recording.history t)) value brought.one

pub returns-clause-other : goal.returns-clause-other
returns-clause-other g c =
    let key = c.self.inside.table.shared.key in
    let one = c.into_seat-seat.result in
    let other = c.into_seat.result in
    let a = seen_of c.args.one.views in
    let b = seen_of c.args.other.views in
    let same = sym (ap (λ n. n.settings) c.self.view_is) in
    let v : one.me.0 ≡ Waits key a = only_view c.args.one.views one.me.0 (Waits key a) c.into_seat-seat.ensures.2 (c.requires.one.1 ∙ ap (λ k. Waits k a ∷ []) same) in
    let w : other.me.0 ≡ Waits key b = only_view c.args.other.views other.me.0 (Waits key b) c.into_seat.ensures.2 (c.requires.other.1 ∙ ap (λ k. Waits k b ∷ []) same) in
    let me : c.join_seat.new.seat.me.0 ≡ Both key a b = ap (λ m. m.0) c.join_seat.ensures.2 ∙ (ap (λ x. joined x other.me.0) v ∙ ap (λ x. joined (Waits key a) x) w) in
    let brought = brings g.T.Recording.history g.T.Recording.settings key c.join_seat.new.seat.id c.join_seat.new.seat.me.0 a b (slots_items c.close_with-closed.result.words) (slots_items c.close_with-closed.result.slots) c.take-value.result me
    c.close_with-closed.ensures.values.2 c.take-value.ensures.value in
    let value = some_same brought.value c.unwrap.result (sym brought.is ∙ c.unwrap.ensures) in
    subst (λ t. Begins b (g.T.Recording.history t)) value brought.other
