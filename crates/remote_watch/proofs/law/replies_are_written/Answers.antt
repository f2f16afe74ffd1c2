use Rattle.std.proofs.Common.{refl}
use Rattle.cbor_items.specs.Head.{shortest_head}
use Rattle.remote_watch.proofs.law.replies_are_written.Goals as goal

pub returns : goal.returns
unfolding shortest_head
returns c = record { no_intersect = λ peers. refl; await = λ peers. refl; no_blocks = λ peers. refl }
