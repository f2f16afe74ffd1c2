use Rattle.std.proofs.Common.{◌≡◌, [], ◌∷◌, Some, slice_get, ap, ◌∙◌}
use Rattle.chunked_list.specs.Chunks.{items_in}
use Rattle.chunked_list.proofs.Points.{first_got}
use Rattle.chunked_list.proofs.search.fn.point_in.point_of.Goals as goal

pub returns-in-Some : goal.returns-in-Some
returns-in-Some g c =
    λ p h.
    let called = (g.met.P.FnMut.1.post_iff _ _ _).0 c.pred.ensures in
    let got : Some c.in-Some.item.now ≡ slice_get (items_in c.args.chunk.now) 0 = c.in-Some.ensures.value ∙ ap (λ l. slice_get l 0) c.deref.ensures.value in
    (h.at ((c.in-Some.item, tt) ∷ []) _ _ called.1).0 ∙ first_got p (items_in c.args.chunk.now) c.in-Some.item.now got
