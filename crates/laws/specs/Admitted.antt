-- Who is let in where a peer connects, and for which cause one is turned away.
use Rattle.std.specs.Prelude.{◌≡◌, Bool, true, false, nat_le, List, [], ◌∷◌, if◌then◌else◌, Option, Some, None}
use Rattle.laws.specs.Words.{flat_map, is_greeting, is_live, is_outbound, is_pending, same_address, address_below, nothing_undecoded, Action, Admit, Turnaway, Away, OwnAddr, Crossed, Addr, Effect, Machine, Entry, counted_in, entry_at}
use Rattle.net_base.specs.declared.action.Away.TheVariants.{Full, Present}
use Rattle.laws.specs.Acts.{Act, connects}
use Rattle.laws.specs.AtMoves.{some_connection, OnEntry}
use Rattle.laws.specs.InActions.{Given}

-- ---- what is told

abbrev pub admitted_by : Action → List Given
admitted_by (Admit cid addr) = record { cid = cid.0; addr = addr } ∷ []
admitted_by other = []

abbrev pub admitted_in : List Action → List Given
admitted_in actions = flat_map admitted_by actions

abbrev pub turned_away_by : Action → List Away
turned_away_by (Turnaway away) = away ∷ []
turned_away_by other = []

abbrev pub turned_away_in : List Action → List Away
turned_away_in actions = flat_map turned_away_by actions

-- ---- the causes, in their order

-- this node dials the address, or greets after its dial, so both have dialed
abbrev pub is_crossing : Addr → Machine → Bool
is_crossing addr m = some_connection (λ e. is_pending e.facts) addr m

-- a live connection has the address; one that was closed and waits its time does not count
abbrev pub is_present : Addr → Machine → Bool
is_present addr m = some_connection (λ e. is_live e.facts) addr m

-- The first that holds: it is the own address; as many are counted as may be; both have dialed, and what the other side dialed
-- does not survive, since its address is not the lower one; somebody live has the address.
abbrev pub cause_against : Addr → Machine → Option Away
cause_against addr m =
    if same_address addr m.settings.own then Some OwnAddr
    else if nat_le m.settings.hard (counted_in m) then Some Full
    else if is_crossing addr m then (if address_below addr m.settings.own then None else Some Crossed)
    else if is_present addr m then Some Present
    else None

-- ---- what comes of it

-- It is told, and changes nothing.
pub record IsTurnedAway (away : Away) (before : Machine) (effect : Effect) : Type 0 where
  pub told : turned_away_in effect.actions ≡ away ∷ []
  pub admitted : admitted_in effect.actions ≡ []
  pub same : effect.machine ≡ before

-- what the other side dialed, and nothing is agreed on, nor has come in, nor is awaited but that
pub record IsNew (addr : Addr) (e : Entry) : Type 0 where
  pub address : e.facts.addr ≡ addr
  pub inbound : is_outbound e.facts ≡ false
  pub greeting : is_greeting e.facts ≡ true
  pub agreed : e.facts.agreed ≡ None
  pub undecoded : e.undecoded ≡ nothing_undecoded
  pub owed : e.owed ≡ []

-- It is told, under the next id, and it stands.
pub record IsLetIn (addr : Addr) (before : Machine) (effect : Effect) : Type 0 where
  pub told : admitted_in effect.actions ≡ record { cid = before.next_id; addr = addr } ∷ []
  pub turned_away : turned_away_in effect.actions ≡ []
  pub stands : OnEntry (entry_at before.next_id effect.machine) (IsNew addr)

abbrev pub ByCause : Option Away → Addr → Machine → Effect → Type 0
ByCause None addr before effect = IsLetIn addr before effect
ByCause (Some away) addr before effect = IsTurnedAway away before effect

-- nobody is let in, and nobody turned away
pub record AdmitsNobody (effect : Effect) : Type 0 where
  pub admitted : admitted_in effect.actions ≡ []
  pub turned_away : turned_away_in effect.actions ≡ []

-- A peer that connects is let in exactly where nothing is against it. Nothing but a peer that connects lets anybody in, or turns
-- anybody away.
abbrev pub AdmitsRight : Act → Machine → Effect → Type 0
AdmitsRight (connects addr) before effect = ByCause (cause_against addr before) addr before effect
AdmitsRight other before effect = AdmitsNobody effect
