-- Changes of a peer.
use Rattle.std.specs.Prelude.{ℕ, Bool, false, [], ◌∷◌, Option, Some, None, if◌then◌else◌}
use Rattle.net_base.specs.Peer.{failed_peer}
use Rattle.net_base.specs.declared.action.Action.TheVariants.{Peer as TellPeer}
use Rattle.net_base.specs.declared.action.PeerNote.{PeerNote}
use Rattle.net_base.specs.declared.action.PeerNote.TheVariants.{Known, Cold as TellCold, Warm as TellWarm, Hot as TellHot, Forgotten}
use Rattle.net_base.specs.declared.address.Addr.{Addr}
use Rattle.net_base.specs.declared.peer.Peer.{Peer}
use Rattle.net_base.specs.declared.peer.Temp.{Temp}
use Rattle.net_base.specs.declared.peer.Temp.TheVariants.{Cold, Warm, Hot}
use Rattle.peer_book.specs.Book.{peer_at as peer_in, with_peer as with_peer_in, without_peer, new_peer, entry_of, entered, same_temp}
use Rattle.peer_book.specs.declared.added.Added.{Added}
use Rattle.peer_book.specs.declared.added.Added.TheVariants.{New, Present, Full}
use Rattle.machine.specs.Machine.{Machine}
use Rattle.machine.specs.Effect.{Effect, nothing_more, tells}

abbrev pub peer_at : Addr → Machine → Option Peer
peer_at addr m = peer_in addr m.peers

abbrev pub note_of : Temp → PeerNote
note_of Cold = TellCold
note_of Warm = TellWarm
note_of Hot = TellHot

-- ---- a peer of the book

abbrev pub with_peer : Peer → Machine → Machine
with_peer new m = record m { peers = with_peer_in new m.peers }

-- A peer turns into another, and its temperature is told where it is another one.
abbrev pub peer_turns : Peer → Peer → Machine → Effect
peer_turns old new m = tells
    (if same_temp old.temp new.temp then [] else TellPeer old.addr (note_of new.temp) ∷ [])
    (with_peer new m)

abbrev pub turns_at : Option Peer → (Peer → Peer) → Machine → Effect
turns_at None change m = nothing_more m
turns_at (Some peer) change m = peer_turns peer (change peer) m

-- the peer with an address changes, where there is one
abbrev pub peer_changes : Addr → (Peer → Peer) → Machine → Effect
peer_changes addr change m = turns_at (peer_at addr m) change m

-- The peer fails: it is cold, and left alone for the back-off.
abbrev pub peer_fails : Addr → Machine → Effect
peer_fails addr m = peer_changes addr (failed_peer m.now m.settings.backoff) m

-- A connection with the peer is in use: it is warm, and its failures are forgotten.
abbrev pub peer_succeeds : Addr → Machine → Effect
peer_succeeds addr m = peer_changes addr (λ p. record p { temp = Warm; failures = 0 }) m

abbrev pub peer_becomes : Temp → Addr → Machine → Effect
peer_becomes temp addr m = peer_changes addr (λ p. record p { temp = temp }) m

-- the peer is not asked for addresses before a moment
abbrev pub peer_was_asked : ℕ → Addr → Machine → Effect
peer_was_asked next addr m = peer_changes addr (λ p. record p { share_next = next }) m

-- a big ledger peer becomes an ordinary one
abbrev pub peer_is_ordinary : Addr → Machine → Effect
peer_is_ordinary addr m = peer_changes addr (λ p. record p { big = false }) m

-- ---- a peer comes and goes

abbrev pub note_of_coming : Added → Addr → Machine → Effect
note_of_coming New addr m = tells (TellPeer addr Known ∷ []) m
note_of_coming Present addr m = nothing_more m
note_of_coming Full addr m = nothing_more m

-- An address comes into the book, as a big ledger peer's or an ordinary one's. One that is there stays as it is, and a
-- full book takes none.
abbrev pub peer_comes : Bool → Addr → Machine → Effect
peer_comes big addr m =
    note_of_coming (entry_of addr m.peers) addr (record m { peers = entered (new_peer big addr) m.peers })

abbrev pub peer_goes : Addr → Machine → Effect
peer_goes addr m = tells (TellPeer addr Forgotten ∷ []) (record m { peers = without_peer addr m.peers })
