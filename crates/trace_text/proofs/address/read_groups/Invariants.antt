use Rattle.std.proofs.Common.{◌≡◌, ℕ, ◌-◌, ◌^◌, ◌<◌, List}
use Rattle.trace_text.specs.Addresses.{group_of, groups_of}
use Rattle.trace_text.proofs.Reading.{read_rest}
use Rattle.trace_text.proofs.address.read_groups.Given as goal

pub record Reads (ip counter : ℕ) (groups : List (List ℕ)) (text : List ℕ) : Type 0 where
  pub same : read_rest 65536 group_of (8 - counter) ip groups ≡ groups_of text
  pub small : ip < 65536 ^ counter

abbrev pub invariant-loop : goal.invariant-loop
invariant-loop l = Reads l.ip l.counter l.groups l.text
