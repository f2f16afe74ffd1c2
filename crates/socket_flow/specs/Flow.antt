-- What comes of what happens on the sockets.
use Rattle.std.specs.Prelude.{ℕ, true, false, ◌==◌, if◌then◌else◌, length, List, [], ◌∷◌, ◌++◌, Option, Some, None}
use Rattle.net_base.specs.declared.address.Addr.{Addr}
use Rattle.net_base.specs.declared.event.Event.{Event}
use Rattle.net_base.specs.declared.event.Event.TheVariants.{Dialed, Bytes, Closed}
use Rattle.socket_flow.specs.Announcement.{hearing}
use Rattle.socket_flow.specs.Writing.{gone_by}
use Rattle.socket_flow.specs.declared.ask.Dialed.{Dialed as Outcome}
use Rattle.socket_flow.specs.declared.ask.Dialed.TheVariants.{Connected, Failed}
use Rattle.socket_flow.specs.declared.announcement.Heard.{Heard}
use Rattle.socket_flow.specs.declared.announcement.Heard.TheVariants.{Front, Whole, Else}
use Rattle.socket_flow.specs.declared.socket.Socket.{Socket}
use Rattle.socket_flow.specs.declared.socket.Stage.{Stage}
use Rattle.socket_flow.specs.declared.socket.Stage.TheVariants.{Dialing, Announcing, Waiting, Open, Closing}

-- ---- what the node is told

-- The end of a connection, or of a dial. Of a peer that the node was not told of nothing is told.
abbrev pub ending : Stage → List Event
ending (Dialing id) = Dialed id.cid false ∷ []
ending (Open id) = Closed id.cid ∷ []
ending _ = []

abbrev pub endings : Option Socket → List Event
endings (Some socket) = ending socket.stage
endings None = []

-- bytes that came: those of a connection are told as they came
abbrev pub told_bytes : Stage → List ℕ → Option Event
told_bytes (Open id) bytes = Some (Bytes id.cid bytes)
told_bytes _ bytes = None

abbrev pub told_of : Option Socket → List ℕ → Option Event
told_of (Some socket) bytes = told_bytes socket.stage bytes
told_of None bytes = None

-- ---- what a socket is afterwards

-- what was heard of an announcement: its front, all of it, or something else, for which the socket is closed
abbrev pub introduced : Socket → Heard → Option Socket
introduced socket Front = Some socket
introduced socket (Whole addr) = Some (record socket { stage = Waiting addr })
introduced socket Else = None

abbrev pub heard_on : Socket → Stage → List ℕ → Option Socket
heard_on socket (Announcing said) bytes = introduced (record socket { stage = Announcing (said ++ bytes) }) (hearing (said ++ bytes))
heard_on socket _ bytes = Some socket

-- Bytes came: those of an announcement are put behind what was said of it.
abbrev pub after_bytes : Option Socket → List ℕ → Option Socket
after_bytes (Some socket) bytes = heard_on socket socket.stage bytes
after_bytes None bytes = None

-- a peer whose address is known waits until the node is told of it
abbrev pub waits_with : Addr → Option Socket → Option Socket
waits_with addr (Some socket) = Some (record socket { stage = Waiting addr })
waits_with addr None = None

-- ---- what is written

-- a closed connection whose last byte went out is over
abbrev pub unless_over : Socket → Stage → List ℕ → Option Socket
unless_over socket Closing [] = None
unless_over socket _ _ = Some socket

abbrev pub went_on : Socket → ℕ → Option Socket
went_on socket count =
    let out = gone_by socket.out count in
    unless_over (record socket { out = out; has_taken = true; is_held = false }) socket.stage out

-- so many of the bytes that wait went out
abbrev pub after_going : Option Socket → ℕ → Option Socket
after_going (Some socket) count = went_on socket count
after_going None count = None

abbrev pub blocked : Socket → Stage → Option Socket
blocked socket Closing = None
blocked socket _ = Some (record socket { is_blocked = true })

-- the socket takes no more for now
abbrev pub after_full : Option Socket → Option Socket
after_full (Some socket) = blocked socket socket.stage
after_full None = None

-- ---- a dial

-- what the node is told of a socket that connects, if it is one
abbrev pub dial_told : Stage → Outcome → List Event
dial_told (Dialing id) Connected = Dialed id.cid true ∷ []
dial_told (Dialing id) Failed = Dialed id.cid false ∷ []
dial_told _ _ = []

abbrev pub dial_events : Option Socket → Outcome → List Event
dial_events (Some socket) outcome = dial_told socket.stage outcome
dial_events None outcome = []

abbrev pub dial_stage : Stage → Outcome → Option Stage
dial_stage (Dialing id) Connected = Some (Open id)
dial_stage (Dialing id) Failed = None
dial_stage stage _ = Some stage

abbrev pub after_dial : Option Socket → Outcome → Option Stage
after_dial (Some socket) outcome = dial_stage socket.stage outcome
after_dial None outcome = None

-- ---- who has connected

-- A socket that was accepted is to announce an address, where that is done here; else its own is the peer's.
abbrev pub welcomed : List ℕ → Addr → Stage
welcomed greeting addr = if length greeting == 0 then Waiting addr else Announcing []

abbrev pub newcomer : List ℕ → Addr → Socket
newcomer greeting addr = record { stage = welcomed greeting addr; out = []; is_blocked = false; is_held = false; is_watched = false; has_taken = false }
