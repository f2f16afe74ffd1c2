use Rattle.std.proofs.Common.{◌≡◌, ℕ, ◌+◌, ◌*◌, ◌-◌, ◌^◌, ◌<◌, List, drop, fold, Option, Some, None, if◌then◌else◌}
use Rattle.std.specs.List.{list_all}
use Rattle.net_base.specs.Number.{is_digit}
use Rattle.trace_text.specs.Views.{digits_value}
use Rattle.trace_text.proofs.decimal.digits_value.Given as goal

-- the value so far, followed by more digits
abbrev value_with : ℕ → List ℕ → Option ℕ
value_with value rest = if list_all is_digit rest then Some (fold (λ value c. value * 10 + (c - 48)) value rest) else None

pub record Reads (value index : ℕ) (digits : List ℕ) : Type 0 where
  pub same : value_with value (drop index digits) ≡ digits_value digits
  pub small : value < 10 ^ index

abbrev pub invariant-loop-digit : goal.invariant-loop-digit
invariant-loop-digit l = Reads l.value l.digit-index l.digits
