-- What an operator counts on at each move of an event: in the record just before it and in the one just after it.
use Rattle.std.specs.Prelude.{ℕ, ◌+◌, ◌≡◌, ◌≤◌, Bool, true, false, not, ◌&&◌, ◌||◌, ◌==◌, List, count_by, All, Option, Some, None, is_some}
use Rattle.laws.specs.Words.{list_any, option_map, is_candidate, rank_of_candidate, goes_before, Candidate, effective_of, effective_big_of, is_counted, is_negotiated, is_pending, some_runs, node_limits, FedBy, fed_by, same_address, failed_peer, CloseCause, Unused, Pruned, Overwritten, Refused, Query, Fault, Addr, Facts, Grace, Off, ForRemote, ForLocal, Event, Now, Govern, Accepted, Dialed, Bytes, Closed, Aims, Locals, Roots, BigAims, Bigs, Group, RootAnswer, Found, Failed, Peer, is_of, is_established, is_active, known_of, is_listed, members_of, Happened, Move, promoted, activated, shared, ended, unused, gone, Machine, Entry, counted_in, entry_at, live_entry_at, peer_at, reply_on, step}
use Rattle.laws.specs.Stages.{IsLateCause}
use Rattle.laws.specs.Laws.{is_local, is_used_connection, is_pending_connection}

-- ---- back-off

-- there is a peer, and it is out of its back-off
abbrev pub IsReady : ℕ → Option Peer → Type 0
IsReady now None = ⊥
IsReady now (Some p) = p.not_before ≤ now

-- Whoever is promoted or activated is out of its back-off at that move.
abbrev pub OutOfBackOff : Happened → Machine → Type 0
OutOfBackOff (promoted addr) before = IsReady before.now (peer_at addr before)
OutOfBackOff (activated addr) before = IsReady before.now (peer_at addr before)
OutOfBackOff (shared addr) before = Unit {0}
OutOfBackOff (ended cid cause) before = Unit {0}
OutOfBackOff (unused cid) before = Unit {0}
OutOfBackOff (gone cid) before = Unit {0}

-- ---- targets and valencies

-- some connection of an address passes a test
abbrev pub some_connection : (Entry → Bool) → Addr → Machine → Bool
some_connection test addr m = list_any (λ e. same_address e.facts.addr addr && test e) m.connections

-- warm or hot, or dialed by this node and with a handshake that is not done
abbrev pub is_established_or_pending : Machine → Peer → Bool
is_established_or_pending m p = is_established p.temp || some_connection (λ e. is_pending e.facts) p.addr m

-- hot, or asked to become so and with an answer that is owed
abbrev pub is_active_or_asked : Machine → Peer → Bool
is_active_or_asked m p = is_active p.temp || some_connection (λ e. is_some (reply_on 2 e)) p.addr m

-- how many peers of a class pass a test
abbrev pub number_with : (Machine → Peer → Bool) → Bool → Machine → ℕ
number_with test big m = count_by (λ p. is_of big p && test m p) m.peers

-- how many members of a group do: those that are ordinary peers, as all are
abbrev pub members_with : (Machine → Peer → Bool) → Group → Machine → ℕ
members_with test group m = count_by (λ p. is_of false p && (is_listed p.addr group.members && test m p)) m.peers

-- the targets of a class in a moment
abbrev pub known_wanted : Bool → Machine → ℕ
known_wanted false m = (effective_of m.targets m.now).known
known_wanted true m = (effective_big_of m.big_targets m.now).known

abbrev pub established_wanted : Bool → Machine → ℕ
established_wanted false m = (effective_of m.targets m.now).established
established_wanted true m = (effective_big_of m.big_targets m.now).established

abbrev pub active_wanted : Bool → Machine → ℕ
active_wanted false m = (effective_of m.targets m.now).active
active_wanted true m = (effective_big_of m.big_targets m.now).active

-- After a move on a peer so many are wanted at least as pass a test: of its class where it is no local peer, of the
-- members of its group where it is one. No address is in two groups.
pub record IsWanted (test : Machine → Peer → Bool) (wanted : Bool → Machine → ℕ) (valency : Group → ℕ) (addr : Addr) (before after : Machine) : Type 0 where
  pub by_target : (p : Peer) → peer_at addr before ≡ Some p → (p.big || not (is_local before.groups addr)) ≡ true →
      number_with test p.big after ≤ wanted p.big after
  pub by_valency : (p : Peer) → peer_at addr before ≡ Some p → p.big ≡ false →
      All (λ group. is_listed addr group.members ≡ true → members_with test group after ≤ valency group) before.groups

-- After an address has come into the book, no more are known of its class than wanted.
abbrev pub IsWantedNew : Addr → Machine → Machine → Type 0
IsWantedNew addr before after = peer_at addr before ≡ None → (p : Peer) → peer_at addr after ≡ Some p → known_of p.big after.peers ≤ known_wanted p.big after

-- Nobody is promoted or activated, and no address that was told is taken, beyond what is wanted.
abbrev pub WithinTargets : Happened → Machine → Machine → Type 0
WithinTargets (promoted addr) before after = IsWanted is_established_or_pending established_wanted (λ group. group.warm) addr before after
WithinTargets (activated addr) before after = IsWanted is_active_or_asked active_wanted (λ group. group.hot) addr before after
WithinTargets (shared addr) before after = IsWantedNew addr before after
WithinTargets (ended cid cause) before after = Unit {0}
WithinTargets (unused cid) before after = Unit {0}
WithinTargets (gone cid) before after = Unit {0}

-- ---- why a connection ends

abbrev pub as_candidate : Entry → Candidate
as_candidate e = record { cid = e.facts.cid; rank = rank_of_candidate e.facts }

-- One more than the hard limit are counted, the connection among them. And of those that may go, it goes first: where there
-- is one, it is one itself, and no other is before it, by a lower rank or, of one rank, as a newer connection.
pub record IsDueToGo (e : Entry) (m : Machine) : Type 0 where
  pub crowded : counted_in m ≡ m.settings.hard + 1
  pub counted : is_counted e.facts ≡ true
  pub first : All (λ f. is_candidate f.facts ≡ true → (is_candidate e.facts ≡ true) × (goes_before (as_candidate f) (as_candidate e) ≡ false)) m.connections

abbrev pub IsPrunedRightly : CloseCause → Entry → Machine → Type 0
IsPrunedRightly Unused e m = Unit {0}
IsPrunedRightly Pruned e m = IsDueToGo e m
IsPrunedRightly Overwritten e m = Unit {0}
IsPrunedRightly Refused e m = Unit {0}
IsPrunedRightly Query e m = Unit {0}
IsPrunedRightly (Fault kind) e m = Unit {0}

-- this node used the connection, or was on its way to it
abbrev pub is_missed : Facts → Bool
is_missed f = f.local || is_pending f

-- a dial that a crossing overwrites is no failure
abbrev pub is_failure : CloseCause → Facts → Bool
is_failure Unused f = is_missed f
is_failure Pruned f = is_missed f
is_failure Overwritten f = false
is_failure Refused f = is_missed f
is_failure Query f = is_missed f
is_failure (Fault kind) f = is_missed f

abbrev pub failed_where : Bool → ℕ → ℕ → Option Peer → Option Peer
failed_where true now base p = option_map (failed_peer now base) p
failed_where false now base p = p

-- With a failure the peer of a connection that goes is cold, has one failure more, and is left alone for its back-off; else
-- it stays as it was.
abbrev pub FailsWhere : Bool → Entry → Machine → Machine → Type 0
FailsWhere fails e before after = peer_at e.facts.addr after ≡ failed_where fails before.now before.settings.backoff (peer_at e.facts.addr before)

abbrev pub IsPast : ℕ → Grace → Type 0
IsPast now Off = ⊥
IsPast now (ForRemote until) = until ≤ now
IsPast now (ForLocal until) = until ≤ now

-- nobody uses it, and its grace is over
pub record IsOver (now : ℕ) (f : Facts) : Type 0 where
  pub local : f.local ≡ false
  pub running : some_runs f.running ≡ false
  pub grace : IsPast now f.grace

abbrev pub OnEntry : Option Entry → (Entry → Type 0) → Type 0
OnEntry None law = ⊥
OnEntry (Some e) law = law e

-- No connection whose handshake is done ends but unused past its grace, pruned in its turn, or for a fault. The peer of one
-- that goes fails where it is missed.
abbrev pub ForCause : Happened → Machine → Machine → Type 0
ForCause (promoted addr) before after = Unit {0}
ForCause (activated addr) before after = Unit {0}
ForCause (shared addr) before after = Unit {0}
ForCause (ended cid cause) before after = OnEntry (entry_at cid before)
    (λ e. (is_negotiated e.facts ≡ true → IsLateCause cause) × IsPrunedRightly cause e before × FailsWhere (is_failure cause e.facts) e before after)
ForCause (unused cid) before after = OnEntry (entry_at cid before) (λ e. IsOver before.now e.facts)
ForCause (gone cid) before after = OnEntry (entry_at cid before) (λ e. (is_negotiated e.facts ≡ false) × FailsWhere (is_missed e.facts) e before after)

-- ---- what comes in

-- after what was not decoded yet
abbrev pub fed_on : Entry → List ℕ → FedBy
fed_on e bytes = fed_by node_limits (record { undecoded = e.undecoded; fault = None }) bytes

-- ---- each move, and each event

pub record IsLawful (move : Move) : Type 0 where
  pub back_off : OutOfBackOff move.happened move.before
  pub targets : WithinTargets move.happened move.before move.after
  pub cause : ForCause move.happened move.before move.after

abbrev pub is_negotiated_entry : Option Entry → Bool
is_negotiated_entry None = false
is_negotiated_entry (Some e) = is_negotiated e.facts

abbrev pub is_negotiated_at : ℕ → Machine → Bool
is_negotiated_at cid m = is_negotiated_entry (entry_at cid m)

-- this node ended the connection in that move
abbrev pub ends : ℕ → Happened → Bool
ends cid (promoted addr) = false
ends cid (activated addr) = false
ends cid (shared addr) = false
ends cid (ended old cause) = old == cid
ends cid (unused old) = old == cid
ends cid (gone old) = false

abbrev pub is_ended_in : ℕ → List Move → Bool
is_ended_in cid moves = list_any (λ move. ends cid move.happened) moves

-- the other side ended it
abbrev pub is_closed_by : ℕ → Event → Bool
is_closed_by cid (Now t) = false
is_closed_by cid (Govern word) = false
is_closed_by cid (Accepted addr) = false
is_closed_by cid (Dialed old opened) = false
is_closed_by cid (Bytes old bytes) = false
is_closed_by cid (Closed old) = old.0 == cid
is_closed_by cid (Aims targets) = false
is_closed_by cid (Locals groups) = false
is_closed_by cid (Roots job answer) = false
is_closed_by cid (BigAims targets) = false
is_closed_by cid (Bigs addrs) = false

-- Each move of an event is lawful.
abbrev pub MovesAreLawful : Machine → Event → Type 0
MovesAreLawful m event = All IsLawful (step m event).moves

-- ---- who comes up

-- used by this node, or on its way to it
abbrev pub is_up_connection : Option Entry → Bool
is_up_connection e = is_used_connection e || is_pending_connection e

abbrev pub is_up : Addr → Machine → Bool
is_up addr m = is_up_connection (live_entry_at addr m)

abbrev pub is_hot_peer : Option Peer → Bool
is_hot_peer None = false
is_hot_peer (Some p) = is_active p.temp

-- the peer was asked on it to become hot, and has not answered
abbrev pub is_asked_connection : Option Entry → Bool
is_asked_connection None = false
is_asked_connection (Some e) = is_some (reply_on 2 e)

-- hot, or asked to become so
abbrev pub is_hot_or_asked : Addr → Machine → Bool
is_hot_or_asked addr m = is_hot_peer (peer_at addr m) || is_asked_connection (live_entry_at addr m)

-- in the book
abbrev pub is_known : Addr → Machine → Bool
is_known addr m = is_some (peer_at addr m)

-- the move is of that kind, and of that address
abbrev pub promotes : Addr → Happened → Bool
promotes addr (promoted other) = same_address other addr
promotes addr (activated other) = false
promotes addr (shared other) = false
promotes addr (ended cid cause) = false
promotes addr (unused cid) = false
promotes addr (gone cid) = false

abbrev pub activates : Addr → Happened → Bool
activates addr (promoted other) = false
activates addr (activated other) = same_address other addr
activates addr (shared other) = false
activates addr (ended cid cause) = false
activates addr (unused cid) = false
activates addr (gone cid) = false

abbrev pub shares : Addr → Happened → Bool
shares addr (promoted other) = false
shares addr (activated other) = false
shares addr (shared other) = same_address other addr
shares addr (ended cid cause) = false
shares addr (unused cid) = false
shares addr (gone cid) = false

abbrev pub is_shared_in : Addr → List Move → Bool
is_shared_in addr moves = list_any (λ move. shares addr move.happened) moves

abbrev pub is_found_in : Addr → RootAnswer → Bool
is_found_in addr (Found ttl addrs) = is_listed addr addrs
is_found_in addr Failed = false

-- the event names it, as a local root peer or a public one
abbrev pub is_provided_by : Addr → Event → Bool
is_provided_by addr (Now t) = false
is_provided_by addr (Govern word) = false
is_provided_by addr (Accepted other) = false
is_provided_by addr (Dialed cid opened) = false
is_provided_by addr (Bytes cid bytes) = false
is_provided_by addr (Closed cid) = false
is_provided_by addr (Aims targets) = false
is_provided_by addr (Locals groups) = is_listed addr (members_of groups)
is_provided_by addr (Roots job answer) = is_found_in addr answer
is_provided_by addr (BigAims targets) = false
is_provided_by addr (Bigs addrs) = false
