use Rattle.std.proofs.Common.{sym, ap, ◌∙◌}
use Rattle.std.specs.List.{insert}
use Rattle.std.proofs.lemmas.Result.{on_ok_weaker}
use Rattle.chunked_list.specs.Chunks.{joined, place_of}
use Rattle.chunked_list.proofs.edit.insert_at.Goals as goal

pub returns-clause-ok : goal.returns-clause-ok
returns-clause-ok g c =
    let at = ap (λ l. place_of l c.spot_of-spot.result) (sym c.deref.ensures.value) ∙ c.spot_of-spot.ensures.place in
    on_ok_weaker c.put_in.result (λ e. e ∙ ap (λ n. insert (joined c.args.chunks.now.items) n c.args.item) at) c.put_in.ensures.ok
