-- How a line is cut into words.
use Rattle.std.specs.Prelude.{ℕ, ◌+◌, ◌==◌, List, take, drop, position, Option}
use Rattle.std.specs.List.{slice_split}
use Rattle.std.specs.Option.{option_map}

-- what stands between the separators: one piece more than there are separators
abbrev pub pieces_of : ℕ → List ℕ → List (List ℕ)
pieces_of separator bytes = slice_split (λ c. c == separator) bytes

-- what stands before and after the first separator, where there is one
abbrev pub cut_at : ℕ → List ℕ → Option (List ℕ × List ℕ)
cut_at separator bytes =
    option_map (λ place. (take place bytes, drop (place + 1) bytes)) (position (λ c. c == separator) bytes)

-- the words that are not read yet, and the place of the first of them
pub record Unread : Type 0 where
  pub words : List (List ℕ)
  pub place : ℕ

-- a line is cut at every single space, so a word may be empty
abbrev pub words_of : List ℕ → Unread
words_of line = record { words = pieces_of 32 line; place = 1 }
