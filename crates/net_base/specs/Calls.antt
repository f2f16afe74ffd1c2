-- The calls of a device in memory, some of which are to fail.
use Rattle.std.specs.Prelude.{ℕ, ◌+◌, ◌-◌, ◌^◌, min, Bool, ◌==◌, List, if◌then◌else◌}
use Rattle.std.specs.List.{list_any}

-- one more, where the last value of 64 bits stays
abbrev pub one_more : ℕ → ℕ
one_more count = min (count + 1) (2 ^ 64 - 1)

-- How many calls were made, the numbers of those that fail, counted from 1, and how many faults there were.
pub record Calls : Type 0 where
  pub made : ℕ
  pub failing : List ℕ
  pub faults : ℕ

-- the next call is one of those that fail
abbrev pub next_fails : Calls → Bool
next_fails calls = list_any (λ number. number == one_more calls.made) calls.failing

abbrev pub after_fault : Calls → Calls
after_fault calls = record calls { faults = one_more calls.faults }

-- after the next call
abbrev pub after_call : Calls → Calls
after_call calls = record calls {
  made = one_more calls.made;
  faults = if next_fails calls then one_more calls.faults else calls.faults;
}
