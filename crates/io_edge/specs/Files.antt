-- Files by name: what a reading of one answers, and which readings were made.
use Rattle.std.specs.Prelude.{◌≡◌, ℕ, ◌<◌, ◌≤◌, List, [], ◌∷◌, ◌++◌, length, Option, IfSome, Result, Ok, Err, ⊤}
use Rattle.io_edge.specs.declared.reading.LentReading.{LentReading}
use Rattle.io_edge.specs.declared.reading.Reading.{Reading}
use Rattle.io_edge.specs.declared.shelf_refusal.ShelfRefusal.{ShelfRefusal}
use Rattle.io_edge.specs.declared.shelf_refusal.ShelfRefusal.TheVariants.{Failed, TooLarge, OutOfMemory}

-- The answer to a reading of at most `limit` bytes of a file, which has these bytes where they are told: all of them,
-- or how many there are where they are more.
abbrev pub IsReading : Option (List ℕ) → ℕ → Result (List ℕ) ShelfRefusal → Type 0
IsReading told limit (Ok bytes) = (length bytes ≤ limit) × IfSome told (λ all. bytes ≡ all)
IsReading told limit (Err (TooLarge size)) = (limit < size) × IfSome told (λ all. size ≡ length all)
IsReading told limit (Err Failed) = ⊤
IsReading told limit (Err OutOfMemory) = ⊤

-- What is read of bytes that are told or not, where at most `limit` are wanted: all of them, or how many were seen where
-- they are more.
abbrev pub IsWithin : Option (List ℕ) → ℕ → Result (List ℕ) ℕ → Type 0
IsWithin told limit (Ok bytes) = (length bytes ≤ limit) × IfSome told (λ all. bytes ≡ all)
IsWithin told limit (Err seen) = (limit < seen) × IfSome told (λ all. seen ≤ length all)

-- the readings, with one more behind them
abbrev pub with_reading : List Reading → List ℕ → ℕ → Result (List ℕ) ShelfRefusal → List Reading
with_reading readings name limit answer = readings ++ record { name = name; limit = limit; answer = answer } ∷ []

-- the reading that code lends to its log
abbrev pub reading_lent : LentReading → Reading
reading_lent reading = record { name = reading.name.now; limit = reading.limit; answer = reading.answer.now }
