-- The grammar of a pair's lines.
use Rattle.std.specs.Prelude.{ℕ, nat_eq, false, List, codes, bytes_eq, if◌then◌else◌, Option, Some, None, Result, Ok, Err}
use Rattle.hs_message.specs.declared.info.VersionInfo.{VersionInfo}
use Rattle.trace_text.specs.declared.line.LineRefusal.{LineRefusal}
use Rattle.trace_text.specs.declared.line.LineRefusal.TheVariants.{BadWord}
use Rattle.trace_text.specs.Lines.{is_action_line}
use Rattle.trace_text.specs.Reading.{◌>>=◌, next_word, next_read, next_number, no_more, this_word}
use Rattle.trace_text.specs.Words.{Unread, words_of}
use Rattle.pair_net.specs.declared.end.End.{End}
use Rattle.pair_net.specs.declared.end.End.TheVariants.{Left, Right}
use Rattle.pair_net.specs.declared.pair_line.PairLine.{PairLine}
use Rattle.pair_net.specs.declared.pair_line.PairLine.TheVariants as lines
use Rattle.pair_net.specs.declared.pair_step.PairStep.{PairStep}
use Rattle.pair_net.specs.declared.pair_step.PairStep.TheVariants.{Meet, Cross, Deliver, Timeout, Close}

-- ---- the head

abbrev pub opening_line : Unread → Result (Unit {0}) LineRefusal
opening_line unread = do
  (pair, rest) ← next_read (this_word (codes "pair")) BadWord unread
  (version, rest) ← next_read (this_word (codes "1")) BadWord rest
  no_more rest

-- what an end says of itself: it doesn't only ask
abbrev pub info_of : ℕ → ℕ → ℕ → VersionInfo
info_of magic only sharing = record { magic = magic; initiator_only = nat_eq only 1; sharing = nat_eq sharing 1; query = false }

-- an end's name, its magic, whether it is initiator only and whether it shares
abbrev pub info_line : List ℕ → Unread → Result VersionInfo LineRefusal
info_line name unread = do
  (end, rest) ← next_read (this_word name) BadWord unread
  (magic, rest) ← next_number 0 4294967295 rest
  (only, rest) ← next_number 0 1 rest
  (sharing, rest) ← next_number 0 1 rest
  over ← no_more rest
  Ok (info_of magic only sharing)

-- ---- the steps

abbrev pub end_named : List ℕ → Option End
end_named word = if bytes_eq word (codes "left") then Some Left else if bytes_eq word (codes "right") then Some Right else None

-- an end, and no more
abbrev pub last_end : Unread → Result End LineRefusal
last_end unread = do
  (end, rest) ← next_read end_named BadWord unread
  over ← no_more rest
  Ok end

abbrev pub end_step : (End → PairStep) → Unread → Result PairLine LineRefusal
end_step step unread = do
  end ← last_end unread
  Ok (lines.Step (step end))

-- an end and a number of bytes, from 1 to 2^48
abbrev pub deliver_step : Unread → Result PairLine LineRefusal
deliver_step unread = do
  (end, rest) ← next_read end_named BadWord unread
  (count, rest) ← next_number 1 281474976710656 rest
  over ← no_more rest
  Ok (lines.Step (Deliver end count))

-- a line of one word
abbrev pub alone : PairLine → Unread → Result PairLine LineRefusal
alone line unread = do
  over ← no_more unread
  Ok line

abbrev pub step_named : ℕ → List ℕ → Unread → Result PairLine LineRefusal
step_named place word rest =
    if bytes_eq word (codes "meet") then end_step Meet rest
    else if bytes_eq word (codes "cross") then alone (lines.Step Cross) rest
    else if bytes_eq word (codes "deliver") then deliver_step rest
    else if bytes_eq word (codes "timeout") then end_step Timeout rest
    else if bytes_eq word (codes "close") then end_step Close rest
    else if bytes_eq word (codes "end") then alone lines.End rest
    else Err (BadWord place)

abbrev pub step_line : Unread → Result PairLine LineRefusal
step_line unread = do
  (word, rest) ← next_word unread
  step_named unread.place word rest

-- what a line behind the head says, or why it is refused
abbrev pub later_line : List ℕ → Result PairLine LineRefusal
later_line line = if is_action_line line then Ok lines.Skipped else step_line (words_of line)
