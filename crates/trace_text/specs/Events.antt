-- The grammar of event lines, behind the word that names the event.
use Rattle.std.specs.Prelude.{ℕ, zero, suc, ◌+◌, ◌&&◌, ◌||◌, ◌==◌, nat_le, Bool, true, false, List, [], ◌∷◌, length, codes, bytes_eq, if◌then◌else◌, Option, Some, None, Result, Ok, Err}
use Rattle.std.specs.Option.{ok_or}
use Rattle.std.specs.List.{list_all}
use Rattle.hex.specs.Hex.{decode_of}
use Rattle.hex.specs.declared.error.FromHexError.{FromHexError}
use Rattle.net_base.specs.Bounds.{targets_fault, big_targets_fault}
use Rattle.net_base.specs.declared.address.Addr.{Addr}
use Rattle.net_base.specs.declared.event.Event.TheVariants.{Now, Govern, Accepted, Dialed, Bytes, Closed, Aims, Locals, Roots, BigAims, Bigs}
use Rattle.net_base.specs.declared.event.Group.{Group}
use Rattle.net_base.specs.declared.event.RootAnswer.TheVariants.{Found, Failed}
use Rattle.net_base.specs.declared.settings.Field.{Field}
use Rattle.trace_text.specs.declared.line.Line.{Line}
use Rattle.trace_text.specs.declared.line.Line.TheVariants.{Happen}
use Rattle.trace_text.specs.declared.line.LineRefusal.{LineRefusal}
use Rattle.trace_text.specs.declared.line.LineRefusal.TheVariants.{BadWord, BadTargets}
use Rattle.trace_text.specs.Addresses.{address_of}
use Rattle.trace_text.specs.Reading.{◌>>=◌, next_read, next_number, next_address, no_more, this_word}
use Rattle.trace_text.specs.Words.{Unread}

-- ---- numbers

-- moments, connection ids and numbers of questions are at most so great
abbrev pub id_most : ℕ
id_most = 281474976710656

abbrev pub word_most : ℕ
word_most = 18446744073709551615

-- a day of milliseconds
abbrev pub interval_most : ℕ
interval_most = 86400000

abbrev pub valency_most : ℕ
valency_most = 10000

-- ---- the clock, the governor, and connections

abbrev pub now_line : Unread → Result Line LineRefusal
now_line unread = do
  (moment, rest) ← next_number 0 id_most unread
  end ← no_more rest
  Ok (Happen (Now moment))

abbrev pub govern_line : Unread → Result Line LineRefusal
govern_line unread = do
  (word, rest) ← next_number 0 word_most unread
  end ← no_more rest
  Ok (Happen (Govern word))

abbrev pub accepted_line : ℕ → Unread → Result Line LineRefusal
accepted_line version unread = do
  (address, rest) ← next_address version unread
  end ← no_more rest
  Ok (Happen (Accepted address))

-- the socket is open, or it is not
abbrev pub outcome_of : List ℕ → Option Bool
outcome_of word =
    if bytes_eq word (codes "ok") then Some true else if bytes_eq word (codes "failed") then Some false else None

abbrev pub dialed_line : Unread → Result Line LineRefusal
dialed_line unread = do
  (cid, rest) ← next_number 0 id_most unread
  (opened, rest) ← next_read outcome_of BadWord rest
  end ← no_more rest
  Ok (Happen (Dialed (record { 0 = cid }) opened))

-- '0' to '9' and 'a' to 'f'
abbrev pub is_lower_digit : ℕ → Bool
is_lower_digit c = (nat_le 48 c && nat_le c 57) || (nat_le 97 c && nat_le c 102)

abbrev pub decoded : Result (List ℕ) FromHexError → Option (List ℕ)
decoded (Ok bytes) = Some bytes
decoded (Err refusal) = None

-- one read of a socket: 1 to 65,536 bytes, two digits each
abbrev pub piece_of : List ℕ → Option (List ℕ)
piece_of word =
    if list_all is_lower_digit word && nat_le 2 (length word) && nat_le (length word) 131072
    then decoded (decode_of word) else None

abbrev pub bytes_line : Unread → Result Line LineRefusal
bytes_line unread = do
  (cid, rest) ← next_number 0 id_most unread
  (bytes, rest) ← next_read piece_of BadWord rest
  end ← no_more rest
  Ok (Happen (Bytes (record { 0 = cid }) bytes))

abbrev pub closed_line : Unread → Result Line LineRefusal
closed_line unread = do
  (cid, rest) ← next_number 0 id_most unread
  end ← no_more rest
  Ok (Happen (Closed (record { 0 = cid })))

-- ---- targets

-- no bound is broken
abbrev pub in_bounds : Option Field → Result (Unit {0}) LineRefusal
in_bounds None = Ok tt
in_bounds (Some field) = Err BadTargets

-- The bounds are tested once all numbers are read, and before what follows them.
abbrev pub targets_line : Unread → Result Line LineRefusal
targets_line unread = do
  (root, rest) ← next_number 0 id_most unread
  (known, rest) ← next_number 0 id_most rest
  (established, rest) ← next_number 0 id_most rest
  (active, rest) ← next_number 0 id_most rest
  bounds ← in_bounds (targets_fault (record { root = root; known = known; established = established; active = active }))
  end ← no_more rest
  Ok (Happen (Aims (record { root = root; known = known; established = established; active = active })))

abbrev pub big_targets_line : Unread → Result Line LineRefusal
big_targets_line unread = do
  (known, rest) ← next_number 0 id_most unread
  (established, rest) ← next_number 0 id_most rest
  (active, rest) ← next_number 0 id_most rest
  bounds ← in_bounds (big_targets_fault (record { known = known; established = established; active = active }))
  end ← no_more rest
  Ok (Happen (BigAims (record { known = known; established = established; active = active })))

-- ---- addresses and groups

abbrev pub slash : List ℕ
slash = codes "/"

-- the end, or a slash
abbrev pub stops : List (List ℕ) → Bool
stops [] = true
stops (word ∷ words) = bytes_eq word slash

-- addresses up to the end, or to a slash
unfoldable pub addresses_from : ℕ → ℕ → List (List ℕ) → Result (List Addr × Unread) LineRefusal
addresses_from version place [] = Ok ([], record { words = []; place = place })
addresses_from version place (word ∷ words) =
    if bytes_eq word slash then Ok ([], record { words = word ∷ words; place = place }) else do
      address ← ok_or (address_of version word) (BadWord place)
      (addresses, rest) ← addresses_from version (place + 1) words
      Ok (address ∷ addresses, rest)

abbrev pub next_addresses : ℕ → Unread → Result (List Addr × Unread) LineRefusal
next_addresses version unread = addresses_from version unread.place unread.words

-- the members are told to others, or they are not
abbrev pub sign_of : List ℕ → Option Bool
sign_of word =
    if bytes_eq word (codes "+") then Some true else if bytes_eq word (codes "-") then Some false else None

abbrev pub next_group : ℕ → Unread → Result (Group × Unread) LineRefusal
next_group version unread = do
  (begun, rest) ← next_read (this_word slash) BadWord unread
  (hot, rest) ← next_number 0 valency_most rest
  (warm, rest) ← next_number 0 valency_most rest
  (advertise, rest) ← next_read sign_of BadWord rest
  (members, rest) ← next_addresses version rest
  Ok (record { hot = hot; warm = warm; advertise = advertise; members = members }, rest)

abbrev pub is_over : List (List ℕ) → Bool
is_over [] = true
is_over (word ∷ words) = false

-- Groups up to the end, so many at most.
unfoldable pub groups_within : ℕ → ℕ → Unread → Result (List Group) LineRefusal
groups_within zero version unread = Ok []
groups_within (suc most) version unread = if is_over unread.words then Ok [] else do
  (group, rest) ← next_group version unread
  groups ← groups_within most version rest
  Ok (group ∷ groups)

-- a group has words, so there are no more groups than words
abbrev pub all_groups : ℕ → Unread → Result (List Group) LineRefusal
all_groups version unread = groups_within (length unread.words) version unread

abbrev pub locals_line : ℕ → Unread → Result Line LineRefusal
locals_line version unread = do
  groups ← all_groups version unread
  Ok (Happen (Locals groups))

-- ---- root peers and big ledger peers

abbrev pub roots_found : ℕ → ℕ → Unread → Result Line LineRefusal
roots_found version job unread = do
  (ttl, rest) ← next_number 1 interval_most unread
  (addresses, rest) ← next_addresses version rest
  end ← no_more rest
  Ok (Happen (Roots (record { 0 = job }) (Found ttl addresses)))

abbrev pub roots_failed : ℕ → Unread → Result Line LineRefusal
roots_failed job unread = do
  end ← no_more unread
  Ok (Happen (Roots (record { 0 = job }) Failed))

abbrev pub roots_line : ℕ → Unread → Result Line LineRefusal
roots_line version unread = do
  (job, rest) ← next_number 0 id_most unread
  (found, rest) ← next_read outcome_of BadWord rest
  if found then roots_found version job rest else roots_failed job rest

abbrev pub bigs_line : ℕ → Unread → Result Line LineRefusal
bigs_line version unread = do
  (addresses, rest) ← next_addresses version unread
  end ← no_more rest
  Ok (Happen (Bigs addresses))

-- ---- by the name of the event

-- those that only version 2 has
abbrev pub big_line : ℕ → List ℕ → Unread → Result Line LineRefusal
big_line version name unread =
    if version == 2 && bytes_eq name (codes "bigtargets") then big_targets_line unread
    else if version == 2 && bytes_eq name (codes "bigs") then bigs_line version unread
    else Err (BadWord 1)

-- those of what others decide: the operator and the providers of peers
abbrev pub provided_line : ℕ → List ℕ → Unread → Result Line LineRefusal
provided_line version name unread =
    if bytes_eq name (codes "targets") then targets_line unread
    else if bytes_eq name (codes "locals") then locals_line version unread
    else if bytes_eq name (codes "roots") then roots_line version unread
    else big_line version name unread

abbrev pub event_line : ℕ → List ℕ → Unread → Result Line LineRefusal
event_line version name unread =
    if bytes_eq name (codes "now") then now_line unread
    else if bytes_eq name (codes "govern") then govern_line unread
    else if bytes_eq name (codes "accepted") then accepted_line version unread
    else if bytes_eq name (codes "dialed") then dialed_line unread
    else if bytes_eq name (codes "bytes") then bytes_line unread
    else if bytes_eq name (codes "closed") then closed_line unread
    else provided_line version name unread
