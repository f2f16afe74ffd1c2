use Rattle.std.proofs.Common.{◌≡◌, length}
use Rattle.trace_text.specs.Events.{next_addresses}
use Rattle.trace_text.proofs.Lists.{behind}
use Rattle.trace_text.proofs.words.Words.addresses.Given as goal

abbrev pub invariant-loop-addresses : goal.invariant-loop-addresses
invariant-loop-addresses l = next_addresses l.fn.version l.fn.self ≡ behind l.addresses (next_addresses l.version l.self)

abbrev pub decreases-loop-addresses : goal.decreases-loop-addresses
decreases-loop-addresses l = length l.self.words
