-- What is sent, and the replies that the other side owes for it.
use Rattle.std.specs.Prelude.{ℕ, ◌+◌, Bool, ◌||◌, ◌==◌, not, nat_lt, List, [], ◌∷◌, ◌++◌, filter, find, Option, if◌then◌else◌}
use Rattle.conn_state.specs.Protocols.{chain_sync, keep_alive, peer_sharing}
use Rattle.mux_segment.specs.Frame.{frame_of}
use Rattle.net_base.specs.declared.action.Action.TheVariants.{Send}
use Rattle.net_base.specs.declared.connection.Cid.{Cid}
use Rattle.machine.specs.Machine.{Machine, Entry, Owed}
use Rattle.machine.specs.Effect.{Effect, tells}

-- ---- what is owed: at most one reply on each protocol, in order of protocol

abbrev pub with_reply : Owed → List Owed → List Owed
with_reply new owed =
    filter (λ o. nat_lt o.protocol new.protocol) owed ++ new ∷ filter (λ o. nat_lt new.protocol o.protocol) owed

abbrev pub without_reply : ℕ → List Owed → List Owed
without_reply protocol owed = filter (λ o. not (o.protocol == protocol)) owed

abbrev pub reply_on : ℕ → Entry → Option Owed
reply_on protocol entry = find (λ o. o.protocol == protocol) entry.owed

-- a reply comes to be owed from now on, for what was asked
abbrev pub owing : ℕ → ℕ → Machine → Entry → Entry
owing protocol asked m entry = record entry {
  owed = with_reply (record { protocol = protocol; until = m.now + m.settings.reply; asked = asked }) entry.owed;
}

-- it is paid
abbrev pub paid : ℕ → Entry → Entry
paid protocol entry = record entry { owed = without_reply protocol entry.owed }

-- replies are owed on three protocols alone
abbrev pub is_owed_on : ℕ → Bool
is_owed_on protocol = protocol == chain_sync || protocol == keep_alive || protocol == peer_sharing

-- what stands for each of the three
abbrev pub by_reply : {X : Type 0} → ℕ → X → X → X → X
by_reply protocol on_chain_sync on_keep_alive on_peer_sharing =
    if protocol == chain_sync then on_chain_sync
    else if protocol == keep_alive then on_keep_alive
    else on_peer_sharing

-- ---- messages

-- a message on a protocol, from side 0
abbrev pub sends_as_initiator : Cid → ℕ → List ℕ → Machine → Effect
sends_as_initiator cid protocol payload m = tells (Send cid (frame_of 0 protocol m.now payload) ∷ []) m

-- a message on a protocol, from side 1
abbrev pub sends_as_responder : Cid → ℕ → List ℕ → Machine → Effect
sends_as_responder cid protocol payload m = tells (Send cid (frame_of 1 protocol m.now payload) ∷ []) m

-- [4, []]: where do our chains meet
abbrev pub find_intersect : List ℕ
find_intersect = 0x82 ∷ 0x04 ∷ 0x80 ∷ []

-- [7]: chain-sync is done
abbrev pub chain_sync_done : List ℕ
chain_sync_done = 0x81 ∷ 0x07 ∷ []

-- [2]: peer sharing is done
abbrev pub peer_sharing_done : List ℕ
peer_sharing_done = 0x81 ∷ 0x02 ∷ []
