-- What actions tell: who is closed and dialed, which ids come, and what connections and peers turn into.
use Rattle.std.specs.Prelude.{ℕ, ◌+◌, ◌≡◌, Bool, true, false, not, ◌==◌, nat_lt, if◌then◌else◌, List, [], ◌∷◌, Option, Some, None}
use Rattle.laws.specs.Words.{flat_map, name_of, same_name, same_address, Action, Admit, Dial, Close, State, CloseCause, Unused, PeerNote, StateName, Terminated, Addr, Peer, Temp, Cold, Warm, Hot, same_temp, Happened, Move, promoted, ended, unused, Machine, Entry, entry_at, peer_at}
use Rattle.net_base.specs.declared.action.Action.TheVariants.{Peer as TellPeer}
use Rattle.laws.specs.Words.note

-- ---- who is closed

-- a connection that this node ended, and why
pub record End : Type 0 where
  pub cid : ℕ
  pub cause : CloseCause

abbrev pub closed_by : Action → List End
closed_by (Close cid cause) = record { cid = cid.0; cause = cause } ∷ []
closed_by other = []

-- what the actions close, in order
abbrev pub closes_in : List Action → List End
closes_in actions = flat_map closed_by actions

abbrev pub ended_by : Happened → List End
ended_by (ended cid cause) = record { cid = cid; cause = cause } ∷ []
ended_by (unused cid) = record { cid = cid; cause = Unused } ∷ []
ended_by other = []

-- what the moves end, in order
abbrev pub ends_in : List Move → List End
ends_in moves = flat_map (λ move. ended_by move.happened) moves

-- ---- who is dialed

-- an id that is given out, and the address that it is for
pub record Given : Type 0 where
  pub cid : ℕ
  pub addr : Addr

abbrev pub dialed_by : Action → List Given
dialed_by (Dial cid addr) = record { cid = cid.0; addr = addr } ∷ []
dialed_by other = []

-- what the actions dial, in order
abbrev pub dials_in : List Action → List Given
dials_in actions = flat_map dialed_by actions

-- A promotion that gives out an id is by dial; one that does not is by reuse.
abbrev pub promoted_by_dial : Happened → ℕ → ℕ → List Given
promoted_by_dial (promoted addr) before after = if nat_lt before after then record { cid = before; addr = addr } ∷ [] else []
promoted_by_dial other before after = []

-- the promotions by dial, in order
abbrev pub dial_promotions_in : List Move → List Given
dial_promotions_in moves = flat_map (λ move. promoted_by_dial move.happened move.before.next_id move.after.next_id) moves

-- ---- which ids come

abbrev pub given_by : Action → List Given
given_by (Admit cid addr) = record { cid = cid.0; addr = addr } ∷ []
given_by (Dial cid addr) = record { cid = cid.0; addr = addr } ∷ []
given_by other = []

-- those that are admitted and dialed, in order
abbrev pub given_in : List Action → List Given
given_in actions = flat_map given_by actions

-- their ids are the numbers from one on up to another
abbrev pub CountUp : ℕ → List Given → ℕ → Type 0
CountUp next [] after = next ≡ after
CountUp next (given ∷ each) after = (given.cid ≡ next) × CountUp (next + 1) each after

-- whoever has an id has the address that was told with it
abbrev pub HasAddress : Addr → Option Entry → Type 0
HasAddress addr None = Unit {0}
HasAddress addr (Some e) = e.facts.addr ≡ addr

abbrev pub AreAt : List Given → Machine → Type 0
AreAt [] m = Unit {0}
AreAt (given ∷ each) m = HasAddress given.addr (entry_at given.cid m) × AreAt each m

-- ---- what something turns into

-- Each notice tells a change of what stood before it, and after the last one stands what it says.
abbrev pub LeadTo : {S N : Type 0} → (S → N → Bool) → (N → S) → S → List N → S → Type 0
LeadTo changes says before [] after = before ≡ after
LeadTo changes says before (n ∷ ns) after = (changes before n ≡ true) × LeadTo changes says (says n) ns after

-- a peer's temperature; none where it is not in the book
abbrev pub temp_of : Option Peer → Option Temp
temp_of None = None
temp_of (Some p) = Some p.temp

abbrev pub temp_at : Addr → Machine → Option Temp
temp_at addr m = temp_of (peer_at addr m)

abbrev pub notes_by : Addr → Action → List PeerNote
notes_by addr (TellPeer other note) = if same_address other addr then note ∷ [] else []
notes_by addr other = []

abbrev pub notes_in : Addr → List Action → List PeerNote
notes_in addr actions = flat_map (notes_by addr) actions

abbrev pub noted : PeerNote → Option Temp
noted note.Known = Some Cold
noted note.Cold = Some Cold
noted note.Warm = Some Warm
noted note.Hot = Some Hot
noted note.Forgotten = None

-- a peer comes into the book where there is none, and changes or goes where there is one
abbrev pub is_change : Option Temp → PeerNote → Bool
is_change None note.Known = true
is_change None other = false
is_change (Some temp) note.Known = false
is_change (Some temp) note.Cold = not (same_temp temp Cold)
is_change (Some temp) note.Warm = not (same_temp temp Warm)
is_change (Some temp) note.Hot = not (same_temp temp Hot)
is_change (Some temp) note.Forgotten = true

-- a connection's name; an id that nobody has is terminated
abbrev pub state_of : Option Entry → StateName
state_of None = Terminated
state_of (Some e) = name_of e.facts

abbrev pub state_at : ℕ → Machine → StateName
state_at cid m = state_of (entry_at cid m)

abbrev pub names_by : ℕ → Action → List StateName
names_by cid (State other name) = if other.0 == cid then name ∷ [] else []
names_by cid other = []

abbrev pub names_in : ℕ → List Action → List StateName
names_in cid actions = flat_map (names_by cid) actions

abbrev pub is_other_name : StateName → StateName → Bool
is_other_name before name = not (same_name before name)

abbrev pub same_state : StateName → StateName
same_state name = name
