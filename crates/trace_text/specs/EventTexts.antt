-- How events are printed, and which there are in a trace of a version.
use Rattle.std.specs.Prelude.{ℕ, Bool, true, false, ◌≡◌, ◌<◌, ◌^◌, List, [], ◌∷◌, map, codes, decimal, All, IsTrue, Result}
use Rattle.std.specs.List.{join_with_byte, flat_map}
use Rattle.net_base.specs.declared.address.Addr.{Addr}
use Rattle.net_base.specs.declared.event.Event.{Event}
use Rattle.net_base.specs.declared.event.Event.TheVariants.{Now, Govern, Accepted, Dialed, Bytes, Closed, Aims, Locals, Roots, BigAims, Bigs}
use Rattle.net_base.specs.declared.event.Group.{Group}
use Rattle.net_base.specs.declared.event.RootAnswer.{RootAnswer}
use Rattle.net_base.specs.declared.event.RootAnswer.TheVariants.{Found, Failed}
use Rattle.trace_text.specs.declared.line.Line.{Line}
use Rattle.trace_text.specs.declared.line.LineRefusal.{LineRefusal}
use Rattle.trace_text.specs.Addresses.{IsAddress, knows_family, printed_address}
use Rattle.trace_text.specs.Bytes.{bytes_words}
use Rattle.trace_text.specs.Events.{event_line}
use Rattle.trace_text.specs.Reading.{◌>>=◌, next_word}
use Rattle.trace_text.specs.Words.{words_of}

-- ---- printing

abbrev pub outcome_word : Bool → List ℕ
outcome_word true = codes "ok"
outcome_word false = codes "failed"

abbrev pub sign_word : Bool → List ℕ
sign_word true = codes "+"
sign_word false = codes "-"

-- words behind another, each with its space
abbrev pub spaced : List (List ℕ) → List ℕ
spaced words = flat_map (λ word. 32 ∷ word) words

abbrev pub group_words : Group → List (List ℕ)
group_words group =
    codes "/" ∷ decimal group.hot ∷ decimal group.warm ∷ sign_word group.advertise ∷ map printed_address group.members

abbrev pub answer_words : RootAnswer → List (List ℕ)
answer_words (Found ttl addresses) = outcome_word true ∷ decimal ttl ∷ map printed_address addresses
answer_words Failed = outcome_word false ∷ []

abbrev pub event_words : Event → List (List ℕ)
event_words (Now t) = codes "now" ∷ decimal t ∷ []
event_words (Govern word) = codes "govern" ∷ decimal word ∷ []
event_words (Accepted address) = codes "accepted" ∷ printed_address address ∷ []
event_words (Dialed cid opened) = codes "dialed" ∷ decimal cid.0 ∷ outcome_word opened ∷ []
event_words (Bytes cid bytes) = bytes_words (codes "bytes") cid.0 bytes
event_words (Closed cid) = codes "closed" ∷ decimal cid.0 ∷ []
event_words (Aims t) =
    codes "targets" ∷ decimal t.root ∷ decimal t.known ∷ decimal t.established ∷ decimal t.active ∷ []
event_words (Locals groups) = codes "locals" ∷ flat_map group_words groups
event_words (Roots job answer) = codes "roots" ∷ decimal job.0 ∷ answer_words answer
event_words (BigAims t) = codes "bigtargets" ∷ decimal t.known ∷ decimal t.established ∷ decimal t.active ∷ []
event_words (Bigs addresses) = codes "bigs" ∷ map printed_address addresses

-- an event's line, without its line feed
abbrev pub printed_event : Event → List ℕ
printed_event event = join_with_byte 32 (event_words event)

-- ---- what a version knows

abbrev pub IsKnownIn : ℕ → Addr → Type 0
IsKnownIn version address = IsAddress address × IsTrue (knows_family version address.ip)

abbrev pub AreKnownIn : ℕ → List Addr → Type 0
AreKnownIn version addresses = All (IsKnownIn version) addresses

abbrev pub IsAnswerIn : ℕ → RootAnswer → Type 0
IsAnswerIn version (Found ttl addresses) = AreKnownIn version addresses
IsAnswerIn version Failed = Unit {0}

-- an event that a trace of a version can hold
abbrev pub IsEventIn : ℕ → Event → Type 0
IsEventIn version (Now t) = Unit {0}
IsEventIn version (Govern word) = word < 2 ^ 64
IsEventIn version (Accepted address) = IsKnownIn version address
IsEventIn version (Dialed cid opened) = Unit {0}
IsEventIn version (Bytes cid bytes) = All (λ b. b < 256) bytes
IsEventIn version (Closed cid) = Unit {0}
IsEventIn version (Aims targets) = Unit {0}
IsEventIn version (Locals groups) = All (λ group. AreKnownIn version group.members) groups
IsEventIn version (Roots job answer) = IsAnswerIn version answer
IsEventIn version (BigAims targets) = version ≡ 2
IsEventIn version (Bigs addresses) = (version ≡ 2) × AreKnownIn version addresses

-- ---- reading

-- what an event line says in a trace of a version
abbrev pub event_of : ℕ → List ℕ → Result Line LineRefusal
event_of version line = do
  (name, rest) ← next_word (words_of line)
  event_line version name rest
