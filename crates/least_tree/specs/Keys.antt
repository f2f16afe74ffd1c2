-- Two numbers as one.
use Rattle.std.specs.Prelude.{ℕ, ◌+◌, ◌*◌, ◌^◌}

abbrev pub key : ℕ → ℕ → ℕ
key first second = first * 2 ^ 64 + second
