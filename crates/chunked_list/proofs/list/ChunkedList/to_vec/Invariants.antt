use Rattle.std.proofs.Common.{◌≡◌, take}
use Rattle.chunked_list.specs.Chunks.{joined}
use Rattle.chunked_list.proofs.list.ChunkedList.to_vec.Given as goal

abbrev pub invariant-loop-place : goal.invariant-loop-place
invariant-loop-place g l = l.items.items ≡ joined (take l.place l.self-inside.chunks.items)
