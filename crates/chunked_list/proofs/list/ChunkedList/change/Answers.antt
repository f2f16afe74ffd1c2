use Rattle.std.proofs.Common.{◌∙◌, sym, ap, length, length-set}
use Rattle.chunked_list.specs.Chunks.{joined}
use Rattle.chunked_list.proofs.list.ChunkedList.change.Goals as goal

pub invariant_of-self : goal.invariant_of-self
invariant_of-self g c = (
  record { filled = c.change_in.ensures.filled; numbers = c.self.invariant.0.numbers ∙ sym c.change_in.ensures.numbers },
  c.self.invariant.1
      ∙ sym (ap length c.change_in.ensures.changed.others_stay ∙ length-set (joined c.self.inside.chunks.items) _ c.change_in.ensures.changed.item),
)
