-- An output that is read as an input.
use Rattle.std.specs.Prelude.{◌≡◌, ℕ, ◌≤◌, List, length, All, Option}
use Rattle.io_edge.specs.Lines.{whole_lines, line_limit}
use Rattle.io_edge.specs.Told.{Takes}
use Rattle.line_run.specs.Judgement.{ended, most_lines}
use Rattle.trace_meaning.specs.Output.{output_of}
use Rattle.trace_meaning.specs.Replays.{verdict_of}

-- a line has no more bytes than it may have
abbrev pub IsShortLine : List ℕ → Type 0
IsShortLine line = length line ≤ line_limit

-- no more lines than a trace may have, and none of them too long
pub record AreFewShortLines (lines : List (List ℕ)) : Type 0 where
  pub few : length lines ≤ most_lines
  pub short : All IsShortLine lines

-- the lines of these bytes keep the limits that those of a trace have
abbrev pub FitsTrace : List ℕ → Type 0
FitsTrace bytes = AreFewShortLines (whole_lines bytes)

-- Read as an input, the bytes are a trace up to its `end`, and what is written for them is exactly themselves.
pub record IsItsOwnOutput (bytes : List ℕ) : Type 0 where
  pub ends : verdict_of bytes ≡ ended
  pub same : output_of bytes ≡ bytes

-- The sink took bytes which, where they keep the limits of a trace, are their own output.
pub record TakesItsOwnOutput (taken_before taken_after : Option (List ℕ)) : Type 0 where
  pub written : List ℕ
  pub taken : Takes taken_before taken_after written
  pub own : FitsTrace written → IsItsOwnOutput written
