use Rattle.std.proofs.Common.{◌<◌, ◌++◌, length, take, take_all, sym, ap, ◌∙◌, arith}
use Rattle.chunked_list.specs.Chunks.{items_in, joined}
use Rattle.chunked_list.proofs.Numbers.{joined-next}
use Rattle.chunked_list.proofs.list.ChunkedList.to_vec.Goals as goal

pub loop-place-init : goal.loop-place-init
loop-place-init g c = c.in_ok-items.ensures.items

pub loop-place-preserved : goal.loop-place-preserved
loop-place-preserved g c =
    let cs = c.self.inside.chunks.items in
    let i = c.loop-place.place in
    let d = c.index.result.now in
    let here : i < length cs = omega arith in
    c.in_ok-extend_from_slice.ensures.items
    ∙ (ap (λ l. l ++ c.deref.result.now) c.loop-place.invariant
    ∙ (ap (λ l. joined (take i cs) ++ l) (c.deref.ensures.value ∙ ap items_in c.index.ensures)
    ∙ sym (joined-next cs i d here)))

pub returns : goal.returns
returns g c = c.loop-place.invariant ∙ (ap joined (take_all c.loop-place.place c.self.inside.chunks.items (omega arith)) ∙ c.self.view_is)
