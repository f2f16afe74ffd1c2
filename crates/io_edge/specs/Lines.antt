-- A list of bytes, cut at its line feeds.
use Rattle.std.specs.Prelude.{◌≡◌, ℕ, ◌-◌, ◌<◌, ◌≤◌, Bool, false, ◌==◌, List, [], ◌∷◌, ◌++◌, length, take, slice_index_or, All}
use Rattle.std.specs.List.{slice_split, before_first, flat_map}

abbrev pub is_line_feed : ℕ → Bool
is_line_feed byte = byte == 10

abbrev pub StandsInLine : ℕ → Type 0
StandsInLine byte = is_line_feed byte ≡ false

abbrev pub HasNoLineFeed : List ℕ → Type 0
HasNoLineFeed bytes = All StandsInLine bytes

-- what stands between line feeds: one part more than there are line feeds
abbrev pub parts_of : List ℕ → List (List ℕ)
parts_of bytes = slice_split is_line_feed bytes

-- the lines that a line feed ends, each without it: every part but the last
unfoldable pub whole_lines : List ℕ → List (List ℕ)
whole_lines bytes = take (length (parts_of bytes) - 1) (parts_of bytes)

-- what stands behind the last line feed: the last part
unfoldable pub unfinished_line : List ℕ → List ℕ
unfinished_line bytes = slice_index_or (parts_of bytes) (length (parts_of bytes) - 1) []

-- lines one after another, each with its line feed
abbrev pub ended_lines : List (List ℕ) → List ℕ
ended_lines lines = flat_map (λ line. line ++ 10 ∷ []) lines

-- The bytes are these lines, each with its line feed, and a rest, and no other line feed stands in them. There is
-- one such cut, and it is that of `whole_lines` and `unfinished_line`.
pub record CutsInto (bytes : List ℕ) (lines : List (List ℕ)) (rest : List ℕ) : Type 0 where
  pub joined : bytes ≡ ended_lines lines ++ rest
  pub each_one_line : All HasNoLineFeed lines
  pub rest_unfinished : HasNoLineFeed rest

-- how many bytes a line may have, without its line feed
abbrev pub line_limit : ℕ
line_limit = 140000

-- bytes of one line, and no more of them than a line may have
pub record FitsLine (bytes : List ℕ) : Type 0 where
  pub one_line : HasNoLineFeed bytes
  pub short : length bytes ≤ line_limit

-- more bytes than a line may have stand before the first line feed, or before the end where there is none
abbrev pub IsPastLimit : List ℕ → Type 0
IsPastLimit bytes = line_limit < length (before_first is_line_feed bytes)
