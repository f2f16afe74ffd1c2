-- A connection whose handshake is done: what the other side asks, and what it answers.
use Rattle.std.specs.Prelude.{ℕ, Bool, false, ◌||◌, ◌==◌, not, nat_le, List, [], length, if◌then◌else◌, Option, Some, None, Result, Ok, Err}
use Rattle.churn_clock.specs.Windows.{effective_of}
use Rattle.conn_state.specs.Use.{is_outbound, is_duplex, agreed_sharing, runs}
use Rattle.mux_segment.specs.declared.item.Item.{Item}
use Rattle.net_base.specs.declared.action.CloseCause.TheVariants.{Fault}
use Rattle.net_base.specs.declared.action.FaultKind.{FaultKind}
use Rattle.net_base.specs.declared.action.FaultKind.TheVariants.{Protocol}
use Rattle.net_base.specs.declared.address.Addr.{Addr}
use Rattle.net_base.specs.declared.peer.Temp.TheVariants.{Hot}
use Rattle.remote_watch.specs.Watch.{watched}
use Rattle.remote_watch.specs.Replies.{reply_bytes_of}
use Rattle.remote_watch.specs.declared.reply.Reply.{Reply}
use Rattle.remote_watch.specs.declared.reply.Reply.TheVariants as reply
use Rattle.remote_watch.specs.declared.seen.Seen.{Seen}
use Rattle.share_rounds.specs.Rounds.{served_to, fresh_of}
use Rattle.warm_messages.specs.First.{item_number_of}
use Rattle.warm_messages.specs.Reading.{alive_of, share_of}
use Rattle.warm_messages.specs.declared.alive.Alive.{Alive}
use Rattle.warm_messages.specs.declared.alive.Alive.TheVariants as alive
use Rattle.warm_messages.specs.declared.share.Share.{Share}
use Rattle.warm_messages.specs.declared.share.Share.TheVariants as share
use Rattle.machine.specs.Machine.{Machine, Entry, Owed}
use Rattle.machine.specs.Effect.{Effect, shared, nothing_more, then_do, as_move, on_connection, for_each}
use Rattle.machine.specs.Replies.{reply_on, paid, by_reply, sends_as_responder}
use Rattle.machine.specs.Peers.{peer_becomes, peer_comes}
use Rattle.machine.specs.Connections.{entry_turns, ending, awake, idle}

-- ---- side 0: the other side asks

-- the peers that are told to the other side
abbrev pub served_peers : Reply → Addr → Machine → List Addr
served_peers (reply.Share n) asker m = served_to asker n m.peers m.groups m.roots.publics
served_peers other asker m = []

abbrev pub replies : Reply → ℕ → Entry → Machine → Effect
replies reply.Nothing protocol entry m = nothing_more m
replies some protocol entry m =
    sends_as_responder entry.facts.cid protocol (reply_bytes_of some (served_peers some entry.facts.addr m)) m

abbrev pub stops_if : Bool → ℕ → Entry → Machine → Effect
stops_if done protocol entry m = if done then idle protocol entry m else nothing_more m

-- The reply is sent, and the protocol that is done stops.
abbrev pub serves : Seen → ℕ → Entry → Machine → Effect
serves seen protocol entry m =
    then_do (replies seen.reply protocol entry m) (stops_if seen.done protocol entry)

-- A protocol that does not run starts with its first item. That may end the connection.
abbrev pub begins : ℕ → Entry → Machine → Effect
begins protocol entry m =
    if runs protocol entry.facts.running then nothing_more m else awake protocol entry m

-- Nothing is taken from the other side where this node alone may begin protocols.
abbrev pub takes_requests : Entry → Bool
takes_requests entry = not (is_outbound entry.facts) || is_duplex entry.facts

abbrev pub asked_as : Result Seen FaultKind → ℕ → Entry → Machine → Effect
asked_as (Err kind) protocol entry m = ending (Fault kind) entry m
asked_as (Ok seen) protocol entry m =
    if takes_requests entry
    then then_do (begins protocol entry m) (on_connection entry.facts.cid (serves seen protocol))
    else ending (Fault Protocol) entry m

-- ---- side 1: the other side answers

-- An address that a peer told comes into the book. It is a move also where the book is full and takes nothing.
abbrev pub shares_address : Addr → Machine → Effect
shares_address addr m = as_move (shared addr) m (peer_comes false addr m)

-- the addresses that are taken of those that a peer told
abbrev pub taken_of : List Addr → Machine → List Addr
taken_of addrs m =
    fresh_of m.settings.own (effective_of m.targets m.now).known m.settings.version m.peers addrs

abbrev pub takes_addresses : Option Share → Machine → Effect
takes_addresses (Some (share.Peers addrs)) m = for_each shares_address (taken_of addrs m) m
takes_addresses other m = nothing_more m

-- a reply on chain-sync: an intersection was found, or none
abbrev pub pays_chain_sync : Option ℕ → Bool
pays_chain_sync None = false
pays_chain_sync (Some n) = n == 5 || n == 6

-- the cookie that was sent
abbrev pub pays_keep_alive : ℕ → Option Alive → Bool
pays_keep_alive cookie (Some (alive.Reply n)) = n == cookie
pays_keep_alive cookie other = false

-- at most as many addresses as were asked for
abbrev pub pays_peer_sharing : ℕ → Option Share → Bool
pays_peer_sharing asked (Some (share.Peers addrs)) = nat_le (length addrs) asked
pays_peer_sharing asked other = false

abbrev pub pays : Owed → List ℕ → Bool
pays owed body =
    by_reply owed.protocol
    (pays_chain_sync (item_number_of body))
    (pays_keep_alive owed.asked (alive_of body))
    (pays_peer_sharing owed.asked (share_of body))

-- what a reply brings
abbrev pub brings : ℕ → List ℕ → Entry → Machine → Effect
brings protocol body entry m =
    by_reply protocol
    (peer_becomes Hot entry.facts.addr m)
    (nothing_more m)
    (takes_addresses (share_of body) m)

abbrev pub answered_as : Option Owed → Item → Entry → Machine → Effect
answered_as None item entry m = ending (Fault Protocol) entry m
answered_as (Some owed) item entry m =
    if pays owed item.body
    then then_do (entry_turns entry (paid item.id entry) m) (brings item.id item.body entry)
    else ending (Fault Protocol) entry m

-- An item of a connection whose handshake is done.
abbrev pub talks : Item → Entry → Machine → Effect
talks item entry m =
    if item.side == 0 then asked_as (watched item.id (agreed_sharing entry.facts.agreed) item.body) item.id entry m
    else answered_as (reply_on item.id entry) item entry m
