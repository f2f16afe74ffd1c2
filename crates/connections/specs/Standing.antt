-- The connections that stand, as a list of what is known of each.
use Rattle.std.specs.Prelude.{◌≡◌, ℕ, ◌+◌, not, List, [], ◌∷◌, ◌++◌, map, filter, find, Option, Some, None, IfSome, if◌then◌else◌}
use Rattle.conn_state.specs.Moves.{closing}
use Rattle.conn_state.specs.Use.{has_id, is_live_at}
use Rattle.machine.specs.Govern.{is_used_at}
use Rattle.machine.specs.Machine.{Entry, fresh_entry}
use Rattle.machine.specs.Replies.{with_reply}
use Rattle.mux_segment.specs.Protocols.{node_limits}
use Rattle.mux_segment.specs.Stream.{FedBy, fed_by}
use Rattle.net_base.specs.Shared.{nothing_undecoded}
use Rattle.net_base.specs.declared.address.Addr.{Addr}
use Rattle.net_base.specs.declared.connection.Facts.{Facts}
use Rattle.net_base.specs.declared.settings.Settings.{Settings}

-- The connections that stand, with what is known of each.
pub record Standing : Type 0 where
  pub settings : Settings
  -- in order of id
  pub entries : List Entry
  pub next_id : ℕ

abbrev pub none_standing : Settings → Standing
none_standing settings = record { settings = settings; entries = []; next_id = 1 }

abbrev pub facts_in : Standing → List Facts
facts_in s = map (λ e. e.facts) s.entries

-- ---- one of them

abbrev pub entry_with : ℕ → Standing → Option Entry
entry_with cid s = find (λ e. has_id cid e.facts) s.entries

abbrev pub live_entry : Addr → Standing → Option Entry
live_entry addr s = find (λ e. is_live_at addr e.facts) s.entries

-- the one of an address that is in local use
abbrev pub used_entry : Addr → Standing → Option Entry
used_entry addr s = find (is_used_at addr) s.entries

-- one that was found, where it is in local use
abbrev pub if_used : Option Facts → Option Facts
if_used None = None
if_used (Some f) = if f.local then Some f else None

-- ---- changes

-- the one with the id of a new entry is the new one
abbrev pub turned : Entry → Standing → Standing
turned new s = record s { entries = map (λ e. if has_id new.facts.cid.0 e.facts then new else e) s.entries }

-- all but the one with an id
abbrev pub gone : ℕ → Standing → Standing
gone cid s = record s { entries = filter (λ e. not (has_id cid e.facts)) s.entries }

-- one more, under the next id
abbrev pub come : Facts → Standing → Standing
come facts s = record s { entries = s.entries ++ fresh_entry facts ∷ []; next_id = s.next_id + 1 }

-- the connection with an id turns into another, by its entry
abbrev pub Turns : ℕ → (Entry → Entry) → Standing → Standing → Type 0
Turns cid change old new = IfSome (entry_with cid old) (λ e. new ≡ turned (change e) old)

-- ---- what the one that turns becomes

-- a move of its facts
abbrev pub moved : (Facts → Facts) → Entry → Entry
moved move entry = record entry { facts = move entry.facts }

-- this side closes, and keeps it until a moment
abbrev pub closed : ℕ → Entry → Entry
closed until entry = record entry { facts = closing until entry.facts; undecoded = nothing_undecoded }

-- a reply comes to be owed until a moment, for what was asked
abbrev pub owes : ℕ → ℕ → ℕ → Entry → Entry
owes protocol asked until entry = record entry {
  owed = with_reply (record { protocol = protocol; until = until; asked = asked }) entry.owed;
}

-- ---- what comes in

-- what new bytes make of a stream that goes on
abbrev pub fed_of : List ℕ → Entry → FedBy
fed_of bytes entry = fed_by node_limits (record { undecoded = entry.undecoded; fault = None }) bytes

-- the bytes that are not decoded yet stay
abbrev pub fed_entry : List ℕ → Entry → Entry
fed_entry bytes entry = record entry { undecoded = (fed_of bytes entry).state.undecoded }

-- what came in and was not decoded is lost
abbrev pub unread : Entry → Entry
unread entry = record entry { undecoded = nothing_undecoded }
