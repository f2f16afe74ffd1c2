-- How long is waited: whatever a connection comes to wait for, it does so for as long as the setting of that name says.
use Rattle.std.specs.Prelude.{ℕ, ◌+◌, ◌≡◌, ◌⊎◌, Option, Some, None}
use Rattle.laws.specs.Words.{option_map, Grace, Off, ForRemote, ForLocal, Phase, Dialing, Greeting, Negotiated, Closing, Settings, Kind, Machine, Entry, Owed, entry_at, reply_on}
use Rattle.laws.specs.Words.kind

-- ---- until when a connection waits

abbrev pub until_greeted : Phase → Option ℕ
until_greeted Dialing = None
until_greeted (Greeting until) = Some until
until_greeted Negotiated = None
until_greeted (Closing until) = None

abbrev pub until_gone : Phase → Option ℕ
until_gone Dialing = None
until_gone (Greeting until) = None
until_gone Negotiated = None
until_gone (Closing until) = Some until

abbrev pub until_unused : Grace → Option ℕ
until_unused Off = None
until_unused (ForRemote until) = Some until
until_unused (ForLocal until) = Some until

abbrev pub until_paid : Option Owed → Option ℕ
until_paid o = option_map (λ owed. owed.until) o

abbrev pub until_of : Kind → Entry → Option ℕ
until_of kind.Handshake e = until_greeted e.facts.phase
until_of kind.Grace e = until_unused e.facts.grace
until_of kind.TimeWait e = until_gone e.facts.phase
until_of kind.Reply2 e = until_paid (reply_on 2 e)
until_of kind.Reply8 e = until_paid (reply_on 8 e)
until_of kind.Reply10 e = until_paid (reply_on 10 e)

abbrev pub until_in : Kind → Option Entry → Option ℕ
until_in kind None = None
until_in kind (Some e) = until_of kind e

abbrev pub until_at : Kind → ℕ → Machine → Option ℕ
until_at kind cid m = until_in kind (entry_at cid m)

-- ---- how long

abbrev pub length_of : Kind → Settings → ℕ
length_of kind.Handshake s = s.handshake
length_of kind.Grace s = s.idle
length_of kind.TimeWait s = s.timewait
length_of kind.Reply2 s = s.reply
length_of kind.Reply8 s = s.reply
length_of kind.Reply10 s = s.reply

-- It waits for nothing, or as before, or from now on for the whole length.
abbrev pub IsWait : ℕ → Option ℕ → Option ℕ → Type 0
IsWait whole before None = Unit {0}
IsWait whole before (Some until) = (before ≡ Some until) ⊎ (until ≡ whole)

-- Each connection waits so.
abbrev pub WaitsRight : Machine → Machine → Type 0
WaitsRight before after = (kind : Kind) (cid : ℕ) → IsWait (after.now + length_of kind after.settings) (until_at kind cid before) (until_at kind cid after)
