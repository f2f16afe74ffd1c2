-- The order of keys: by the first number, and then by the second.
use Rattle.std.proofs.Common.{◌≡◌, ℕ, ◌%◌, ◌^◌, ◌<◌, ◌≤◌, arith}
use Rattle.least_tree.specs.Keys.{key}
use Rattle.least_tree.specs.Numbers.{none}

pub first_lower : (a b c d : ℕ) → b < 2 ^ 64 → a < c → key a b < key c d
first_lower a b c d fits lower = omega (arith, fits, lower)

pub second_is : (a b : ℕ) → b < 2 ^ 64 → key a b % 2 ^ 64 ≡ b
second_is a b fits = omega (arith, fits)

pub upto_none : (a b : ℕ) → a < 2 ^ 64 → b < 2 ^ 64 → key a b ≤ none
upto_none a b h k = omega (arith, h, k)
