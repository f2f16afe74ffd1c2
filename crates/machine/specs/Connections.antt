-- Changes of a connection.
--
-- A move takes a connection as it stands in the machine beside it. After a part that may have changed or ended it, it is
-- looked up again by its id; after one that only sends, or changes the book of peers, it is the same still.
use Rattle.std.specs.Prelude.{ℕ, ◌+◌, ◌%◌, Bool, ◌||◌, not, nat_le, List, [], ◌∷◌, ◌++◌, map, filter, if◌then◌else◌, Option}
use Rattle.std.specs.List.{filter_map}
use Rattle.std.specs.Option.{option_map, unwrap_or}
use Rattle.accept_gate.specs.Prune.{rank_of, choice_of}
use Rattle.accept_gate.specs.declared.prune.Candidate.{Candidate}
use Rattle.conn_state.specs.Moves.{dialing, connected, agreed_inbound, agreed_outbound, acquired, released, awakened, idled, closing, expired}
use Rattle.conn_state.specs.Names.{name_of, same_name}
use Rattle.conn_state.specs.Protocols.{handshake, keep_alive, peer_sharing}
use Rattle.conn_state.specs.Use.{has_id, is_pending, agreed_sharing}
use Rattle.hs_decide.specs.Answers.{proposal_of}
use Rattle.net_base.specs.Shared.{nothing_undecoded}
use Rattle.net_base.specs.declared.action.Action.{Action}
use Rattle.net_base.specs.declared.action.Action.TheVariants.{Close, Dial, State}
use Rattle.net_base.specs.declared.action.CloseCause.{CloseCause}
use Rattle.net_base.specs.declared.action.CloseCause.TheVariants.{Unused, Pruned, Overwritten}
use Rattle.net_base.specs.declared.action.StateName.TheVariants.{Terminated}
use Rattle.net_base.specs.declared.address.Addr.{Addr}
use Rattle.net_base.specs.declared.connection.Agreed.{Agreed}
use Rattle.net_base.specs.declared.connection.Cid.{Cid}
use Rattle.net_base.specs.declared.connection.Facts.{Facts}
use Rattle.net_base.specs.declared.peer.Temp.TheVariants.{Cold}
use Rattle.warm_messages.specs.Writing.{written_alive}
use Rattle.warm_messages.specs.declared.alive.Alive.TheVariants.{Ask, Done}
use Rattle.machine.specs.Machine.{Machine, Entry, fresh_entry, facts_of, counted_in, next_cid}
use Rattle.machine.specs.Effect.{Effect, ended, unused, gone, nothing_more, tells, then_do, as_move, on_connection}
use Rattle.machine.specs.Own.{own_info}
use Rattle.machine.specs.Peers.{peer_fails, peer_succeeds, peer_becomes}
use Rattle.machine.specs.Replies.{owing, sends_as_initiator, peer_sharing_done}

abbrev pub with_entry : Entry → Machine → Machine
with_entry new m = record m {
  connections = map (λ e. if has_id new.facts.cid.0 e.facts then new else e) m.connections;
}

abbrev pub without_entry : ℕ → Machine → Machine
without_entry cid m = record m { connections = filter (λ e. not (has_id cid e.facts)) m.connections }

-- A connection turns into another, and its name is told where it is another one.
abbrev pub entry_turns : Entry → Entry → Machine → Effect
entry_turns old new m = tells
    (if same_name (name_of old.facts) (name_of new.facts) then [] else State old.facts.cid (name_of new.facts) ∷ [])
    (with_entry new m)

-- A connection comes under the next id. What is told of it before its name is handed in.
abbrev pub entry_comes : List Action → Entry → Machine → Effect
entry_comes notices new m = tells
    (notices ++ State new.facts.cid (name_of new.facts) ∷ [])
    (record m { connections = m.connections ++ new ∷ []; next_id = m.next_id + 1 })

abbrev pub entry_goes : Entry → Machine → Effect
entry_goes old m = tells (State old.facts.cid Terminated ∷ []) (without_entry old.facts.cid.0 m)

-- The peer of a connection that went has failed where this node used it or was on its way to it.
abbrev pub is_missed : Facts → Bool
is_missed f = f.local || is_pending f

abbrev pub lost : Facts → Machine → Effect
lost f m = if is_missed f then peer_fails f.addr m else nothing_more m

-- The connection that a crossing replaces is no failure.
abbrev pub lost_by : CloseCause → Facts → Machine → Effect
lost_by Overwritten = λ f m. nothing_more m
lost_by other = lost

-- This node ends a connection for a cause.
abbrev pub ending : CloseCause → Entry → Machine → Effect
ending cause entry m = as_move (ended entry.facts.cid.0 cause) m
    (then_do (tells (Close entry.facts.cid cause ∷ []) m)
    (λ m. then_do (entry_goes entry m) (lost_by cause entry.facts)))

-- A connection goes without this node's doing.
abbrev pub vanishes : Entry → Machine → Effect
vanishes entry m = then_do (entry_goes entry m) (lost entry.facts)

-- This side closes, and keeps the connection for the time-wait. No reply is owed on one that nobody uses.
abbrev pub closing_entry : Machine → Entry → Entry
closing_entry m entry = record entry {
  facts = closing (m.now + m.settings.timewait) entry.facts;
  undecoded = nothing_undecoded;
}

-- The grace of a connection is over. In local use it goes on; otherwise it is unused, and closed.
abbrev pub grace_over : Entry → Machine → Effect
grace_over entry m =
    if entry.facts.local then entry_turns entry (record entry { facts = expired entry.facts }) m
    else as_move (unused entry.facts.cid.0) m
    (then_do (tells (Close entry.facts.cid Unused ∷ []) m) (entry_turns entry (closing_entry m entry)))

-- The time-wait of a connection is over.
abbrev pub wait_over : Entry → Machine → Effect
wait_over entry m = as_move (gone entry.facts.cid.0) m (entry_goes entry m)

-- ---- moves of a connection

-- A connection comes into this node's use: its peer is warm, and a keep-alive is sent, to which a reply is owed.
abbrev pub is_used : Facts → Entry → Machine → Effect
is_used facts entry m =
    let cookie = facts.cid.0 % 65536 in
    then_do (entry_turns entry (owing keep_alive cookie m (record entry { facts = facts })) m)
    (λ m. then_do (peer_succeeds facts.addr m)
    (sends_as_initiator facts.cid keep_alive (written_alive (Ask cookie))))

-- The handshake of a peer that connected is done: the connection is kept for the other side.
abbrev pub is_agreed_inbound : Agreed → Entry → Machine → Effect
is_agreed_inbound agreed entry m =
    entry_turns entry (record entry { facts = agreed_inbound agreed (m.now + m.settings.idle) entry.facts }) m

-- The handshake of a peer that was dialed is done: the connection is in use at once.
abbrev pub is_agreed_outbound : Agreed → Entry → Machine → Effect
is_agreed_outbound agreed entry m =
    is_used (agreed_outbound agreed (m.now + m.settings.idle) entry.facts) entry m

-- This node takes a connection that stands into its use.
abbrev pub acquire : Entry → Machine → Effect
acquire entry m = is_used (acquired entry.facts) entry m

-- Where more are counted than the hard limit, one of them goes: the first of those that may, else the one that moved.
abbrev pub candidate_of : Facts → Option Candidate
candidate_of f = option_map (λ rank. record { cid = f.cid; rank = rank }) (rank_of f)

abbrev pub candidates_in : Machine → List Candidate
candidates_in m = filter_map candidate_of (facts_of m)

abbrev pub trim : Cid → Machine → Effect
trim moved m =
    if nat_le (counted_in m) m.settings.hard then nothing_more m
    else on_connection (unwrap_or (choice_of (candidates_in m)) moved) (ending Pruned) m

-- The protocols that this node began are done: peer sharing, where it was agreed, and keep-alive.
abbrev pub says_done : Facts → Machine → Effect
says_done f m = then_do
    (if agreed_sharing f.agreed then sends_as_initiator f.cid peer_sharing peer_sharing_done m else nothing_more m)
    (sends_as_initiator f.cid keep_alive (written_alive Done))

-- This node gives a connection out of its use.
abbrev pub release : Entry → Machine → Effect
release entry m = then_do (says_done entry.facts m)
    (λ m. then_do (entry_turns entry (record entry { facts = released (m.now + m.settings.idle) entry.facts }) m)
    (λ m. then_do (peer_becomes Cold entry.facts.addr m)
    (trim entry.facts.cid)))

-- The other side begins a protocol.
abbrev pub awake : ℕ → Entry → Machine → Effect
awake protocol entry m = then_do (entry_turns entry (record entry { facts = awakened protocol entry.facts }) m)
    (trim entry.facts.cid)

-- The other side ends a protocol.
abbrev pub idle : ℕ → Entry → Machine → Effect
idle protocol entry m =
    entry_turns entry (record entry { facts = idled protocol (m.now + m.settings.idle) entry.facts }) m

-- ---- dials

-- An address is dialed, under the next id.
abbrev pub dial : Addr → Machine → Effect
dial addr m = entry_comes (Dial (next_cid m) addr ∷ []) (fresh_entry (dialing m.next_id addr)) m

-- The socket is open: the handshake begins with this node's proposal.
abbrev pub dial_opens : Entry → Machine → Effect
dial_opens entry m = then_do
    (entry_turns entry (record entry { facts = connected (m.now + m.settings.handshake) entry.facts }) m)
    (sends_as_initiator entry.facts.cid handshake (proposal_of (own_info m.settings)))

-- It is not: the connection goes, and its peer has failed.
abbrev pub dial_fails : Entry → Machine → Effect
dial_fails entry m = as_move (gone entry.facts.cid.0) m (vanishes entry m)
