-- Files in memory.
use Rattle.std.specs.Prelude.{◌≡◌, ℕ, nat_le, Bool, List, length, slice_get, bytes_eq, if◌then◌else◌, Option, Some, None, Result, Ok, Err, ⊤}
use Rattle.std.specs.List.{position_or_len}
use Rattle.std.specs.Option.{option_map}
use Rattle.io_edge.specs.declared.named_file.NamedFile.{NamedFile}
use Rattle.io_edge.specs.declared.reading.Reading.{Reading}
use Rattle.io_edge.specs.Files.{with_reading}
use Rattle.io_edge.specs.declared.shelf_refusal.ShelfRefusal.{ShelfRefusal}
use Rattle.io_edge.specs.declared.shelf_refusal.ShelfRefusal.TheVariants.{Failed, TooLarge, OutOfMemory}
use Rattle.net_base.specs.Calls.{Calls, next_fails, after_call}

-- The files, the calls and the readings.
pub record MemoryShelf : Type 0 where
  pub files : List NamedFile
  pub calls : Calls
  pub readings : List Reading

abbrev pub has_name : List ℕ → NamedFile → Bool
has_name name file = bytes_eq file.name name

-- the place of the first file of a name, or the number of files
abbrev pub place_of : List NamedFile → List ℕ → ℕ
place_of files name = position_or_len (has_name name) files

-- the bytes of the first file of a name
abbrev pub bytes_of : List NamedFile → List ℕ → Option (List ℕ)
bytes_of files name = option_map (λ file. file.bytes) (slice_get files (place_of files name))

-- what a reading of some bytes answers
abbrev pub reading_of : List ℕ → ℕ → Result (List ℕ) ShelfRefusal
reading_of bytes limit = if nat_le (length bytes) limit then Ok bytes else Err (TooLarge (length bytes))

-- what the next reading answers, of a file with these bytes
abbrev pub next_reading : Calls → Option (List ℕ) → ℕ → Result (List ℕ) ShelfRefusal
next_reading calls None limit = Err Failed
next_reading calls (Some bytes) limit = if next_fails calls then Err Failed else reading_of bytes limit

-- the answer is the wanted one, unless memory was wanting
abbrev pub IsAnswerOr : Result (List ℕ) ShelfRefusal → Result (List ℕ) ShelfRefusal → Type 0
IsAnswerOr wanted (Ok bytes) = wanted ≡ Ok bytes
IsAnswerOr wanted (Err Failed) = wanted ≡ Err Failed
IsAnswerOr wanted (Err (TooLarge size)) = wanted ≡ Err (TooLarge size)
IsAnswerOr wanted (Err OutOfMemory) = ⊤

-- the shelf after a reading of a name that was answered so
abbrev pub after_reading : MemoryShelf → List ℕ → ℕ → Result (List ℕ) ShelfRefusal → MemoryShelf
after_reading shelf name limit answer = record shelf {
  calls = after_call shelf.calls;
  readings = with_reading shelf.readings name limit answer;
}
