-- Counts that rise over several calls.
use Rattle.std.proofs.Common.{ℕ, ◌≤◌, arith}
use Rattle.io_edge.specs.Causes.{Rose}

pub Rose-after : (first second third : ℕ) → first ≤ second → Rose second third → Rose first third
Rose-after first second third later rose = omega arith

pub Rose-before : (first second third : ℕ) → Rose first second → second ≤ third → Rose first third
Rose-before first second third rose later = omega arith
