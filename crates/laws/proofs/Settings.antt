-- What sound settings say.
use Rattle.std.proofs.Common.{ℕ, ◌≤◌, ◌≡◌, Bool, true, List, [], ◌∷◌, None, All, nat_le, arith, leb-true}
use Rattle.laws.proofs.Words.{and_parts, All-nil}
use Rattle.laws.specs.Words.{Settings, Field, Version, AreSound, first_failing, settings_tests, is_interval}

pub first_failing-none : (tests : List (Field × Bool)) → first_failing tests ≡ None → All (λ test. test.1 ≡ true) tests
first_failing-none [] e = All-nil (λ test. test.1 ≡ true)
first_failing-none (test ∷ tests) e = search (arith, first_failing-none tests)

pub interval-positive : (n : ℕ) → is_interval n ≡ true → 1 ≤ n
interval-positive n h = leb-true 1 n (and_parts (nat_le 1 n) (nat_le n 86400000) h).0

pub timewait-positive : (s : Settings) → AreSound s → 1 ≤ s.timewait
timewait-positive s h =
    interval-positive s.timewait (first_failing-none (settings_tests s) h 8 (Version, true) (omega arith))

pub handshake-positive : (s : Settings) → AreSound s → 1 ≤ s.handshake
handshake-positive s h =
    interval-positive s.handshake (first_failing-none (settings_tests s) h 9 (Version, true) (omega arith))
