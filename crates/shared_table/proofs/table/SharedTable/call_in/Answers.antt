use Rattle.std.proofs.Common.{◌∷◌, [], ◌++◌, sym, ap, subst, ◌∙◌}
use Rattle.shared_table.specs.Entries.{calls_of, noted}
use Rattle.shared_table.specs.Views.{Begins, seen_of}
use Rattle.shared_table.specs.declared.call.TableCall.TheVariants as calls
use Rattle.shared_table.specs.declared.who.Who.TheVariants.{In}
use Rattle.shared_table.proofs.SeenLemmas.{seen_grows}
use Rattle.shared_table.proofs.table.SharedTable.call_in.Goals as goal

pub invariant_of-seat-in-Ok-2 : goal.invariant_of-seat-in-Ok-2
invariant_of-seat-in-Ok-2 g c =
    let seat = c.seat-2.inside in
    let call = calls.In c.args.call in
    let history = c.take-taken.result.value.shared.history in
    let same = ap (λ b. seen_of b.views) c.replace-badge.ensures.value in
    let are = ap (λ s. calls_of In s.seen) c.seat-2.view_is ∙ (c.seat.invariant ∙ sym (ap (λ s. s.noted) c.seat-2.view_is)) in
    seen_grows call c.in-Ok.reply (seen_of seat.badge.views) history (seen_of c.give_back.result.views) seat.noted.items
    (subst (λ seen. Begins seen history) same c.take-taken.ensures.begins) are (sym c.seat-2.invariant.1 ∙ c.in-Ok.ensures.known) (c.give_back.ensures.1 ∙ c.in-Ok.ensures.history)
    ∙ sym (c.put.ensures ∙ ap (λ l. l ++ noted call c.in-Ok.reply ∷ []) c.make_room.ensures.items)
