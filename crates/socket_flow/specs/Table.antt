-- The sockets under their keys, and the keys of connections.
use Rattle.std.specs.Prelude.{◌≡◌, ℕ, Bool, true, false, eqb, List, [], if◌then◌else◌, Option, Some, None}
use Rattle.std.specs.HashMap.{get}
use Rattle.net_base.specs.declared.address.Addr.{Addr}
use Rattle.socket_flow.specs.declared.socket.Socket.{Socket}
use Rattle.socket_flow.specs.declared.socket.Stage.{Stage}
use Rattle.socket_flow.specs.declared.socket.Stage.TheVariants.{Dialing, Announcing, Waiting, Told, Open}
use Rattle.socket_flow.specs.declared.socket_table.SocketTable.{SocketTable}

-- the socket of a key
abbrev pub socket_at : SocketTable → ℕ → Option Socket
socket_at table key = get eqb table.sockets key

-- the key of the socket that is the connection of an id
abbrev pub key_at : SocketTable → ℕ → Option ℕ
key_at table cid = get eqb table.keys cid

-- a key has this socket, or none, and each other has what it had
abbrev pub Puts : SocketTable → SocketTable → ℕ → Option Socket → Type 0
Puts old new key socket = (k : ℕ) → socket_at new k ≡ (if eqb key k then socket else socket_at old k)

abbrev pub out_of : Option Socket → List ℕ
out_of (Some socket) = socket.out
out_of None = []

-- what waits to be sent on the socket of a key
abbrev pub out_at : SocketTable → ℕ → List ℕ
out_at table key = out_of (socket_at table key)

abbrev pub stage_of : Option Socket → Option Stage
stage_of (Some socket) = Some socket.stage
stage_of None = None

-- what the socket of a key is for
abbrev pub stage_at : SocketTable → ℕ → Option Stage
stage_at table key = stage_of (socket_at table key)

-- every socket is for what it was, and the same waits on it
abbrev pub KeepsTalk : SocketTable → SocketTable → Type 0
KeepsTalk old new = (k : ℕ) → (out_at new k ≡ out_at old k) × (stage_at new k ≡ stage_at old k)

abbrev pub HasSame : SocketTable → SocketTable → Type 0
HasSame old new = (k : ℕ) → socket_at new k ≡ socket_at old k

abbrev pub NamesSame : SocketTable → SocketTable → Type 0
NamesSame old new = (cid : ℕ) → key_at new cid ≡ key_at old cid

abbrev pub is_connection : Stage → ℕ → Bool
is_connection (Dialing id) cid = eqb id.cid.0 cid
is_connection (Open id) cid = eqb id.cid.0 cid
is_connection _ cid = false

-- whether a socket is the connection of an id
abbrev pub is_of : Option Socket → ℕ → Bool
is_of (Some socket) cid = is_connection socket.stage cid
is_of None cid = false

-- whether a socket is to connect
abbrev pub is_dialing : Option Stage → Bool
is_dialing (Some (Dialing id)) = true
is_dialing _ = false

-- whether a socket announces an address
abbrev pub is_announcing : Option Stage → Bool
is_announcing (Some (Announcing said)) = true
is_announcing _ = false

-- whether a socket is a connection, or is to be one
abbrev pub is_linked : Option Stage → Bool
is_linked (Some (Dialing id)) = true
is_linked (Some (Open id)) = true
is_linked _ = false

-- the address of a peer of which the node is to be told, if a socket is that of one
abbrev pub waiting_of : Option Stage → Option Addr
waiting_of (Some (Waiting addr)) = Some addr
waiting_of _ = None

-- whether the node is to be told of the peer of a socket
abbrev pub is_waiting : Option Stage → Bool
is_waiting (Some (Waiting addr)) = true
is_waiting _ = false

-- whether the node was told of the peer of a socket, and has neither admitted it nor turned it away
abbrev pub is_told : Option Stage → Bool
is_told (Some Told) = true
is_told _ = false

-- whether a socket is a connection
abbrev pub is_open : Option Stage → Bool
is_open (Some (Open id)) = true
is_open _ = false
