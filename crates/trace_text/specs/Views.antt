-- What contracts see of the reader's own types.
use Rattle.std.specs.Prelude.{◌≡◌, ℕ, List, [], ◌∷◌, Option, Some, None, Result, Ok, Err, if◌then◌else◌}
use Rattle.std.specs.List.{list_all}
use Rattle.net_base.specs.Number.{is_digit, decimal_value}
use Rattle.std.specs.Borrow.{Bor}
use Rattle.trace_text.specs.declared.line.LineRefusal.{LineRefusal}
use Rattle.trace_text.specs.declared.line.LineRefusal.TheVariants.{OutOfMemory}
use Rattle.trace_text.specs.declared.setting.Row.{Row}
use Rattle.trace_text.specs.declared.setting.Found.{Found}
use Rattle.trace_text.specs.Words.{Unread, pieces_of}
use Rattle.trace_text.specs.Settings.{Setting, setting}

-- the pieces of what is left, if anything is
abbrev pub pieces_left : ℕ → Option (Bor (List ℕ)) → List (List ℕ)
pieces_left separator None = []
pieces_left separator (Some rest) = pieces_of separator rest.now

-- the first piece, where there is one
abbrev pub first_of : List (List ℕ) → Option (List ℕ)
first_of [] = None
first_of (piece ∷ pieces) = Some piece

-- a row of the table of settings, and one that was found in it
abbrev pub row_view : Row → Setting
row_view row = setting row.name.now row.least row.most

abbrev pub found_view : Found → ℕ × Setting
found_view found = (found.place, row_view found.row)

-- a value and the words that are left, or a refusal
abbrev pub Gives : {A B : Type 0} → (A → B) → Result A LineRefusal → Unread → Result (B × Unread) LineRefusal → Type 0
Gives view (Ok value) rest expected = expected ≡ Ok (view value, rest)
Gives view (Err refusal) rest expected = expected ≡ Err refusal

-- the same, where want of memory may come in its place
abbrev pub GivesIfRoom : {A B : Type 0} → (A → B) → Result A LineRefusal → Unread → Result (B × Unread) LineRefusal → Type 0
GivesIfRoom view (Err OutOfMemory) rest expected = Unit {0}
GivesIfRoom view (Ok value) rest expected = expected ≡ Ok (view value, rest)
GivesIfRoom view (Err refusal) rest expected = expected ≡ Err refusal

-- the number that digits spell, where all of them are digits
abbrev pub digits_value : List ℕ → Option ℕ
digits_value digits = if list_all is_digit digits then Some (decimal_value digits) else None
