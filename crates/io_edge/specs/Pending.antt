-- Bytes that are pending, line by line.
use Rattle.std.specs.Prelude.{ℕ, List, [], ◌∷◌, Option, Some, None}
use Rattle.std.specs.List.{before_first}
use Rattle.io_edge.specs.Lines.{is_line_feed}

-- the first line of some bytes, without its line feed; what no line feed ends is a line too, and no bytes are none
abbrev pub front_line : List ℕ → Option (List ℕ)
front_line [] = None
front_line (byte ∷ bytes) = Some (before_first is_line_feed (byte ∷ bytes))
