use Rattle.std.proofs.Common.{◌≡◌, ◌++◌, take, drop}
use Rattle.chunked_list.specs.Firsts.{lowered}
use Rattle.chunked_list.proofs.first.lower.Given as goal

abbrev pub invariant-loop-place : goal.invariant-loop-place
invariant-loop-place l = l.firsts ≡ take l.place (lowered l.from l.fn.firsts) ++ drop l.place l.fn.firsts
