use Rattle.std.proofs.Common.{◌≡◌, ◌-◌}
use Rattle.hs_message.specs.Reading.{known_in, offer_at, row_at}
use Rattle.hs_message.proofs.Loops.{with_front}
use Rattle.hs_message.proofs.read.read_offers.Given as goal

abbrev pub invariant-loop : goal.invariant-loop
invariant-loop l = with_front l.table (row_at (offer_at (known_in l.profile)) (l.count - l.counter) l.rest) ≡ row_at (offer_at (known_in l.profile)) l.count l.bytes
