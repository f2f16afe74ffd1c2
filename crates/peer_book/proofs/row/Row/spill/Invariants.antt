use Rattle.std.proofs.Common.{◌≡◌, ◌≤◌, length, vec_capacity}
use Rattle.peer_book.specs.Row.{addresses_in}
use Rattle.peer_book.proofs.row.Row.spill.Given as goal

abbrev pub invariant-loop-last : goal.invariant-loop-last
invariant-loop-last l = (addresses_in l.self ≡ addresses_in l.initial.self) × (vec_capacity l.initial.self.rest ≤ vec_capacity l.self.rest)

abbrev pub decreases-loop-last : goal.decreases-loop-last
decreases-loop-last l = length l.self.chunks
