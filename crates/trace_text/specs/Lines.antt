-- The grammar of a trace's lines.
use Rattle.std.specs.Prelude.{ℕ, ◌==◌, nat_le, nat_eq, Bool, ◌≡◌, List, codes, bytes_eq, if◌then◌else◌, Option, Some, None, Result, Ok, Err}
use Rattle.std.specs.List.{starts_with}
use Rattle.trace_text.specs.declared.line.Line.{Line}
use Rattle.trace_text.specs.declared.line.Line.TheVariants.{Head, Acted, End}
use Rattle.trace_text.specs.declared.line.HeadLine.TheVariants.{Trace, Own, Set}
use Rattle.trace_text.specs.declared.line.LineRefusal.{LineRefusal}
use Rattle.trace_text.specs.declared.line.LineRefusal.TheVariants.{BadWord, OutOfOrder, OutOfMemory}
use Rattle.trace_text.specs.declared.stage.Stage.{Stage}
use Rattle.trace_text.specs.Events.{event_line}
use Rattle.trace_text.specs.Reading.{◌>>=◌, next_word, next_read, next_number, next_address, no_more, this_word}
use Rattle.trace_text.specs.Settings.{setting_of}
use Rattle.trace_text.specs.Words.{Unread, words_of}

-- ---- the head

abbrev pub version_of : List ℕ → Option ℕ
version_of word = if bytes_eq word (codes "1") then Some 1 else if bytes_eq word (codes "2") then Some 2 else None

abbrev pub first_line : Unread → Result Line LineRefusal
first_line unread = do
  (trace, rest) ← next_read (this_word (codes "trace")) BadWord unread
  (version, rest) ← next_read version_of BadWord rest
  end ← no_more rest
  Ok (Head (Trace version))

abbrev pub second_line : ℕ → Unread → Result Line LineRefusal
second_line version unread = do
  (own, rest) ← next_read (this_word (codes "own")) BadWord unread
  (address, rest) ← next_address version rest
  end ← no_more rest
  Ok (Head (Own address))

-- behind its place a setting's line has a value in its range, and no more
abbrev pub setting_line : ℕ → ℕ → ℕ → Unread → Result Line LineRefusal
setting_line place least most unread = do
  (value, rest) ← next_number least most unread
  end ← no_more rest
  Ok (Head (Set place value))

-- behind `set`: a known name that comes after the last one, and its value
abbrev pub set_line : Stage → Unread → Result Line LineRefusal
set_line stage unread =
    if stage.events then Err OutOfOrder else do
      (found, rest) ← next_read (setting_of stage.hard) BadWord unread
      if nat_le found.0 stage.last then Err OutOfOrder else setting_line found.0 found.1.least found.1.most rest

-- ---- the end

abbrev pub end_line : Unread → Result Line LineRefusal
end_line unread = do
  end ← no_more unread
  Ok End

-- ---- a line by its stage

abbrev pub later_line : Stage → Unread → Result Line LineRefusal
later_line stage unread = do
  (word, rest) ← next_word unread
  if bytes_eq word (codes "set") then set_line stage rest
      else if bytes_eq word (codes "end") then end_line rest
      else event_line stage.version word rest

abbrev pub is_action_line : List ℕ → Bool
is_action_line line = starts_with nat_eq line (codes "> ")

-- what a line says at a stage, or why it is refused
abbrev pub line_of : Stage → List ℕ → Result Line LineRefusal
line_of stage line =
    if stage.seen == 0 then first_line (words_of line)
    else if stage.seen == 1 then second_line stage.version (words_of line)
    else if is_action_line line then Ok Acted
    else later_line stage (words_of line)

-- what is read is what the line says; only want of memory may come in its place
abbrev pub IsReading : {A : Type 0} → Result A LineRefusal → Result A LineRefusal → Type 0
IsReading (Err OutOfMemory) expected = Unit {0}
IsReading result expected = result ≡ expected
