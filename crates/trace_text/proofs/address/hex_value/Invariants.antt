use Rattle.std.proofs.Common.{◌≡◌, ℕ, ◌^◌, ◌<◌, List, drop}
use Rattle.trace_text.specs.Addresses.{hex_digit, number_read}
use Rattle.trace_text.proofs.Reading.{read_on}
use Rattle.trace_text.proofs.address.hex_value.Given as goal

pub record Reads (value index : ℕ) (digits : List ℕ) : Type 0 where
  pub same : read_on 16 hex_digit value (drop index digits) ≡ number_read 16 hex_digit digits
  pub small : value < 16 ^ index

abbrev pub invariant-loop-digit : goal.invariant-loop-digit
invariant-loop-digit l = Reads l.value l.digit-index l.digits
