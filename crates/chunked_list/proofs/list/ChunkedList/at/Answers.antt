use Rattle.std.proofs.Common.{◌≡◌, get_or, sym, subst, ap, ◌∙◌}
use Rattle.chunked_list.specs.Chunks.{items_in, joined, place_of, IsInside}
use Rattle.chunked_list.proofs.Edits.{get_in_chunk}
use Rattle.chunked_list.proofs.list.ChunkedList.at.Goals as goal

pub returns : goal.returns
returns g c =
    let cs = c.self.inside.chunks.items in
    let s = c.spot_of-spot.result in
    let d = c.index.result.now in
    let e = c.index-2.result.now in
    let inside : IsInside cs s = subst (λ l. IsInside l s) c.deref.ensures.value c.spot_of-spot.ensures.inside in
    let at : place_of cs s ≡ c.args.place = ap (λ l. place_of l s) (sym c.deref.ensures.value) ∙ c.spot_of-spot.ensures.place in
    c.index-2.ensures
    ∙ (ap (λ x. get_or (items_in x) s.at e) c.index.ensures
    ∙ (sym (get_in_chunk cs s.chunk s.at d e inside.chunk (inside.at d))
    ∙ (ap (λ n. get_or (joined cs) n e) at ∙ ap (λ l. get_or l c.args.place e) c.self.view_is)))
