-- The parts of an event: what is done, one thing after the other.
use Rattle.std.specs.Prelude.{ℕ, zero, suc, Bool, nat_le, List, [], ◌∷◌, ◌++◌, ◌||◌, map, length, if◌then◌else◌, Option, Some, None}
use Rattle.laws.specs.Words.{is_greeting, is_negotiated, Order, FedBy, CutFault, Item, Undecoded, RootState, Addr, Cid, Event, Now, Govern, Accepted, Dialed, Bytes, Closed, Aims, Locals, Roots, BigAims, Bigs, Group, RootAnswer, Found, Failed, BigTargets, Targets, Deadline, cleaned, members_of, awaits, publics_of, found, failed, entry_turns, deadlines, due, fires, Effect, tells, on_connection, for_each, peer_connects, peer_closes, dial_ends, carries_out, asks_roots, ordinary_rules, big_rules, rules, Machine, Entry, entry_at, peer_is_ordinary, targets_are, big_targets_are, comes_ordinary, comes_big, handles, faulted}
use Rattle.laws.specs.AtMoves.{fed_on}

pub data Act : Type 0 where
  -- the clock shows a moment
  shows : ℕ → Act
  -- a deadline fires
  fires_one : Deadline → Act
  -- the public root peers are asked for
  asks_for_roots : Act
  -- an order of the governor is carried out
  carries : Order → Act
  -- a peer connects
  connects : Addr → Act
  -- a dial ends
  ends_dial : Cid → Bool → Act
  -- what is not decoded yet is stored
  stores : Entry → Undecoded → Act
  -- an item that came in is handled
  handles_item : Cid → Item → Act
  -- the stream ends, with a fault or without one
  ends_stream : Cid → Option CutFault → Act
  -- the other side closes
  is_closed : Cid → Act
  -- something is set
  sets_targets : Targets → Act
  sets_big_targets : BigTargets → Act
  sets_groups : List Group → Act
  sets_roots : RootState → Act
  -- a peer becomes an ordinary one
  makes_ordinary : Addr → Act
  -- an address is provided, as an ordinary peer's or a big ledger peer's
  provides : Addr → Act
  provides_big : Addr → Act

abbrev pub does : Act → Machine → Effect
does (shows t) m = tells [] (record m { now = t })
does (fires_one d) m = fires d m
does asks_for_roots m = asks_roots m
does (carries order) m = carries_out order m
does (connects addr) m = peer_connects addr m
does (ends_dial cid opened) m = dial_ends cid opened m
does (stores entry undecoded) m = entry_turns entry (record entry { undecoded = undecoded }) m
does (handles_item cid item) m = handles cid item m
does (ends_stream cid fault) m = on_connection cid (faulted fault) m
does (is_closed cid) m = peer_closes cid m
does (sets_targets targets) m = targets_are targets m
does (sets_big_targets targets) m = big_targets_are targets m
does (sets_groups groups) m = tells [] (record m { groups = groups })
does (sets_roots roots) m = tells [] (record m { roots = roots })
does (makes_ordinary addr) m = peer_is_ordinary addr m
does (provides addr) m = comes_ordinary addr m
does (provides_big addr) m = comes_big addr m

-- ---- which acts an event is

abbrev pub fired_from : Option Deadline → (Machine → List Deadline) → Machine → List Deadline
fired_from None next m = []
fired_from (Some d) next m = d ∷ next (fires d m).machine

-- the deadlines that fire, each the least that is due when those before it have fired
unfoldable pub fired : ℕ → Machine → List Deadline
fired zero m = []
fired (suc n) m = fired_from (due m) (fired n) m

-- the orders of rules, each rule's on what those before it have left
unfoldable pub orders_of : List (Machine → List Order) → Machine → List Order
orders_of [] m = []
orders_of (orders ∷ each) m = orders m ++ orders_of each (rules orders m).machine

abbrev pub acts_at_moment : ℕ → Machine → List Act
acts_at_moment t m = shows t ∷ map fires_one (fired (length (deadlines (record m { now = t }))) (record m { now = t }))

abbrev pub acts_of_governor : ℕ → Machine → List Act
acts_of_governor word m =
    let n = (asks_roots m).machine in
    asks_for_roots
    ∷ (map carries (orders_of (ordinary_rules word) n)
    ++ map carries (orders_of (big_rules word) (for_each rules (ordinary_rules word) n).machine))

abbrev pub acts_fed : FedBy → Entry → List Act
acts_fed fed entry =
    stores entry fed.state.undecoded ∷ (map (handles_item entry.facts.cid) fed.items ++ ends_stream entry.facts.cid fed.state.fault ∷ [])

-- nothing comes in on a socket that is not open
abbrev pub acts_of_bytes : Option Entry → List ℕ → List Act
acts_of_bytes None bytes = []
acts_of_bytes (Some entry) bytes = if is_greeting entry.facts || is_negotiated entry.facts then acts_fed (fed_on entry bytes) entry else []

abbrev pub acts_of_groups : List Group → List Act
acts_of_groups kept = sets_groups kept ∷ (map makes_ordinary (members_of kept) ++ map provides (members_of kept))

abbrev pub acts_of_answer : RootAnswer → Machine → List Act
acts_of_answer (Found ttl addrs) m =
    let publics = publics_of m.settings.own m.targets.root addrs in
    sets_roots (found m.now ttl publics m.roots) ∷ map provides publics
acts_of_answer Failed m = sets_roots (failed m.now m.settings.backoff m.roots) ∷ []

abbrev pub acts : Machine → Event → List Act
acts m (Now t) = if nat_le t m.now then [] else acts_at_moment t m
acts m (Govern word) = acts_of_governor word m
acts m (Accepted addr) = connects addr ∷ []
acts m (Dialed cid opened) = ends_dial cid opened ∷ []
acts m (Bytes cid bytes) = acts_of_bytes (entry_at cid.0 m) bytes
acts m (Closed cid) = is_closed cid ∷ []
acts m (Aims targets) = sets_targets targets ∷ []
acts m (Locals groups) = acts_of_groups (cleaned m.settings.own groups)
acts m (Roots job answer) = if awaits job.0 m.roots then acts_of_answer answer m else []
acts m (BigAims targets) = sets_big_targets targets ∷ []
acts m (Bigs addrs) = map provides_big addrs

-- ---- the parts

-- an act, and the machine before it
pub record Part : Type 0 where
  pub act : Act
  pub before : Machine

abbrev pub effect_of : Part → Effect
effect_of part = does part.act part.before

unfoldable pub parts_from : List Act → Machine → List Part
parts_from [] m = []
parts_from (act ∷ each) m = record { act = act; before = m } ∷ parts_from each (does act m).machine

abbrev pub parts_of : Machine → Event → List Part
parts_of m event = parts_from (acts m event) m
