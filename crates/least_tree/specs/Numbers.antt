-- A row of numbers.
use Rattle.std.specs.Prelude.{◌≡◌, ℕ, ◌+◌, ◌/◌, ◌^◌, ◌-◌, ◌<◌, ◌≤◌, List, [], ◌∷◌, ◌++◌, length, min, replicate, slice_index_or}

-- what stands where there is no number
abbrev pub none : ℕ
none = 2 ^ 128 - 1

abbrev pub least_of : List ℕ → ℕ
least_of [] = none
least_of (n ∷ ns) = min n (least_of ns)

-- a row that begins with some numbers, and has no other
abbrev pub IsLaid : List ℕ → List ℕ → Type 0
IsLaid numbers row = row ≡ numbers ++ replicate (length row - length numbers) none

-- for so many numbers, half as many again, and two more
abbrev pub room_for : ℕ → ℕ
room_for count = count + count / 2 + 2

-- the last place that has the least number of a row
pub record IsLastLeast (row : List ℕ) (place : ℕ) : Type 0 where
  pub inside : place < length row
  pub least : slice_index_or row place 0 ≡ least_of row
  pub some : least_of row < none
  pub behind : (i : ℕ) → place < i → i < length row → least_of row < slice_index_or row i 0
