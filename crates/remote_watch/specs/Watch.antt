-- What the initiator's side may send on each protocol, and what it is answered. Bodies of other messages of
-- chain-sync, block-fetch and tx-submission are passed over.
use Rattle.std.specs.Prelude.{ℕ, Bool, true, false, ◌==◌, List, if◌then◌else◌, Option, Some, None, Result, Ok, Err}
use Rattle.conn_state.specs.Protocols.{handshake, chain_sync, block_fetch, tx_submission, keep_alive, peer_sharing}
use Rattle.net_base.specs.declared.action.FaultKind.{FaultKind}
use Rattle.net_base.specs.declared.action.FaultKind.TheVariants.{Protocol, UnknownId}
use Rattle.remote_watch.specs.declared.reply.Reply.{Reply}
use Rattle.remote_watch.specs.declared.reply.Reply.TheVariants.{Nothing, Alive, Share, NoIntersect, Await, NoBlocks}
use Rattle.remote_watch.specs.declared.seen.Seen.{Seen}
use Rattle.warm_messages.specs.First.{item_number_of}
use Rattle.warm_messages.specs.Reading.{alive_of, share_of}
use Rattle.warm_messages.specs.declared.alive.Alive.{Alive as AliveMessage}
use Rattle.warm_messages.specs.declared.alive.Alive.TheVariants as alive
use Rattle.warm_messages.specs.declared.share.Share.{Share as ShareMessage}
use Rattle.warm_messages.specs.declared.share.Share.TheVariants as share

-- it goes on, and is answered
abbrev pub goes_on : Reply → Seen
goes_on reply = record { done = false; reply = reply }

-- it is done, which has no answer
abbrev pub is_done : Seen
is_done = record { done = true; reply = Nothing }

-- chain-sync: 4 asks where the chains meet, 0 for the next block, and 7 is done
abbrev pub chain_sync_seen : ℕ → Seen
chain_sync_seen n =
    if n == 4 then goes_on NoIntersect
    else if n == 0 then goes_on Await
    else if n == 7 then is_done
    else goes_on Nothing

-- block-fetch: 0 asks for blocks, and 1 is done
abbrev pub block_fetch_seen : ℕ → Seen
block_fetch_seen n = if n == 0 then goes_on NoBlocks else if n == 1 then is_done else goes_on Nothing

-- tx-submission: 4 is done
abbrev pub tx_submission_seen : ℕ → Seen
tx_submission_seen n = if n == 4 then is_done else goes_on Nothing

-- By the first number of the item, which is whole. One without a first number is a fault.
abbrev pub seen_by_number : (ℕ → Seen) → Option ℕ → Result Seen FaultKind
seen_by_number seen (Some n) = Ok (seen n)
seen_by_number seen None = Err Protocol

-- keep-alive: a cookie comes back
abbrev pub keep_alive_seen : Option AliveMessage → Result Seen FaultKind
keep_alive_seen (Some (alive.Ask cookie)) = Ok (goes_on (Alive cookie))
keep_alive_seen (Some (alive.Reply cookie)) = Err Protocol
keep_alive_seen (Some alive.Done) = Ok is_done
keep_alive_seen None = Err Protocol

-- peer sharing: addresses are asked for
abbrev pub peer_sharing_seen : Option ShareMessage → Result Seen FaultKind
peer_sharing_seen (Some (share.Request n)) = Ok (goes_on (Share n))
peer_sharing_seen (Some (share.Peers peers)) = Err Protocol
peer_sharing_seen (Some share.Done) = Ok is_done
peer_sharing_seen None = Err Protocol

-- An item of a protocol, where peer sharing was agreed on or not. The handshake is over, and any other number is
-- that of no protocol.
abbrev pub watched : ℕ → Bool → List ℕ → Result Seen FaultKind
watched id sharing item =
    if id == handshake then Err Protocol
    else if id == chain_sync then seen_by_number chain_sync_seen (item_number_of item)
    else if id == block_fetch then seen_by_number block_fetch_seen (item_number_of item)
    else if id == tx_submission then seen_by_number tx_submission_seen (item_number_of item)
    else if id == keep_alive then keep_alive_seen (alive_of item)
    else if id == peer_sharing then (if sharing then peer_sharing_seen (share_of item) else Err UnknownId)
    else Err UnknownId
