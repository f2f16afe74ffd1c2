use Rattle.std.proofs.Common.{◌≡◌, ℕ, ◌^◌, ◌<◌, List, take, Some}
use Rattle.trace_text.specs.Views.{digits_value}
use Rattle.trace_text.proofs.decimal.front_number.Given as goal

pub record Counts (value index : ℕ) (bytes : List ℕ) : Type 0 where
  pub same : digits_value (take index bytes) ≡ Some value
  pub small : value < 10 ^ index

abbrev pub invariant-loop-i : goal.invariant-loop-i
invariant-loop-i l = Counts l.value l.i l.bytes
