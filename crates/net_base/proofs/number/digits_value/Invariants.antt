use Rattle.std.proofs.Common.{◌≡◌, ◌≤◌, ℕ, List, drop}
use Rattle.net_base.specs.Number.{digits_up_to}
use Rattle.net_base.proofs.NumberLemmas.{with_rest}
use Rattle.net_base.proofs.number.digits_value.Given as goal

pub record Reads (value most : ℕ) (digits rest : List ℕ) : Type 0 where
  pub same : digits_up_to most digits ≡ with_rest most value rest
  pub within : value ≤ most

abbrev pub invariant-loop-digit : goal.invariant-loop-digit
invariant-loop-digit l = Reads l.value l.most l.digits (drop l.digit-index l.digits)
