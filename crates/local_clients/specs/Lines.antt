-- The grammar of the lines that lead local clients.
use Rattle.std.specs.Prelude.{ℕ, List, codes, bytes_eq, if◌then◌else◌, Result, Ok, Err}
use Rattle.trace_text.specs.declared.line.LineRefusal.{LineRefusal}
use Rattle.trace_text.specs.declared.line.LineRefusal.TheVariants.{BadWord}
use Rattle.trace_text.specs.Events.{id_most, piece_of}
use Rattle.trace_text.specs.Lines.{is_action_line}
use Rattle.trace_text.specs.Reading.{◌>>=◌, next_word, next_read, next_number, no_more}
use Rattle.trace_text.specs.Words.{Unread, words_of}
use Rattle.local_clients.specs.Rules.{CanHappen}
use Rattle.local_clients.specs.declared.client_line.ClientLine.{ClientLine}
use Rattle.local_clients.specs.declared.client_line.ClientLine.TheVariants.{Happen, Skipped, End}
use Rattle.local_clients.specs.declared.event.ClientEvent.TheVariants.{Now, Joined, Bytes, Gone}

-- behind the word that names the event

abbrev pub now_line : Unread → Result ClientLine LineRefusal
now_line unread = do
  (moment, rest) ← next_number 0 id_most unread
  over ← no_more rest
  Ok (Happen (Now moment))

abbrev pub bytes_line : Unread → Result ClientLine LineRefusal
bytes_line unread = do
  (id, rest) ← next_number 0 id_most unread
  (bytes, rest) ← next_read piece_of BadWord rest
  over ← no_more rest
  Ok (Happen (Bytes id bytes))

abbrev pub gone_line : Unread → Result ClientLine LineRefusal
gone_line unread = do
  (id, rest) ← next_number 0 id_most unread
  over ← no_more rest
  Ok (Happen (Gone id))

-- a line of one word
abbrev pub alone : ClientLine → Unread → Result ClientLine LineRefusal
alone line unread = do
  over ← no_more unread
  Ok line

abbrev pub line_named : List ℕ → Unread → Result ClientLine LineRefusal
line_named name rest =
    if bytes_eq name (codes "now") then now_line rest
    else if bytes_eq name (codes "joined") then alone (Happen Joined) rest
    else if bytes_eq name (codes "bytes") then bytes_line rest
    else if bytes_eq name (codes "gone") then gone_line rest
    else if bytes_eq name (codes "end") then alone End rest
    else Err (BadWord 1)

abbrev pub word_line : Unread → Result ClientLine LineRefusal
word_line unread = do
  (name, rest) ← next_word unread
  line_named name rest

-- what a line says, or why it is refused
abbrev pub client_line : List ℕ → Result ClientLine LineRefusal
client_line line = if is_action_line line then Ok Skipped else word_line (words_of line)

-- what a line tells can happen
abbrev pub CanBeTaken : ClientLine → Type 0
CanBeTaken (Happen event) = CanHappen event
CanBeTaken Skipped = Unit {0}
CanBeTaken End = Unit {0}
