use Rattle.std.proofs.Common.{◌≡◌, ◌≤◌, length, drop}
use Rattle.accept_gate.specs.Prune.{first_to_go}
use Rattle.accept_gate.proofs.prune.first_to_go.Given as goal

abbrev pub invariant-loop-place : goal.invariant-loop-place
invariant-loop-place l = record {
  within : l.place ≤ length l.candidates;
  so_far : l.first ≡ first_to_go (drop l.place l.candidates);
}
