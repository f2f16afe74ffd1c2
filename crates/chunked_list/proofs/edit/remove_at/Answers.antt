use Rattle.std.proofs.Common.{sym, ap, ◌∙◌}
use Rattle.std.specs.List.{remove}
use Rattle.chunked_list.specs.Chunks.{joined, place_of}
use Rattle.chunked_list.proofs.edit.remove_at.Goals as goal

pub returns-then-has_few-clause-items : goal.returns-then-has_few-clause-items
returns-then-has_few-clause-items g c =
    c.join_next-then-has_few.ensures.same
    ∙ (c.join_next.ensures.same
    ∙ (c.take_out-item.ensures.items ∙ ap (remove (joined c.args.chunks.now.items))
    (ap (λ l. place_of l c.spot_of-spot.result) (sym c.deref.ensures.value) ∙ c.spot_of-spot.ensures.place)))

pub returns-else-has_few-clause-items : goal.returns-else-has_few-clause-items
returns-else-has_few-clause-items g c =
    c.take_out-item.ensures.items ∙ ap (remove (joined c.args.chunks.now.items))
    (ap (λ l. place_of l c.spot_of-spot.result) (sym c.deref.ensures.value) ∙ c.spot_of-spot.ensures.place)
