-- What the town says, and what it hears: one segment each time.
use Rattle.std.specs.Prelude.{ℕ, ◌+◌, Bool, false, ◌&&◌, ◌==◌, List, [], ◌∷◌, length, take, drop, if◌then◌else◌, Option, Some, None}
use Rattle.mux_segment.specs.Segment.{Segment, header_of, segment_bytes}
use Rattle.mux_segment.specs.Frame.{segment_of}
use Rattle.node_world.specs.declared.town.question.Question.{Question}
use Rattle.node_world.specs.declared.town.question.Question.TheVariants.{Proposes, AsksAlive, AsksIntersection, AsksPeers, AsksNothing}

-- the numbers of protocols
abbrev pub handshake : ℕ
handshake = 0

abbrev pub chain_sync : ℕ
chain_sync = 2

abbrev pub keep_alive : ℕ
keep_alive = 8

abbrev pub peer_sharing : ℕ
peer_sharing = 10

-- who speaks
abbrev pub initiator : ℕ
initiator = 0

abbrev pub responder : ℕ
responder = 1

-- a payload in one segment, at time 0
abbrev pub spoken : ℕ → ℕ → List ℕ → List ℕ
spoken side protocol payload = segment_bytes (segment_of side protocol 0 payload)

-- the segment that the bytes are, where they are one and no more
abbrev pub heard : List ℕ → Option Segment
heard bytes =
    if 8 + (header_of (take 8 bytes)).size == length bytes
    then Some (record { header = header_of (take 8 bytes); payload = drop 8 bytes })
    else None

abbrev pub is_from : ℕ → ℕ → Segment → Bool
is_from side protocol s = s.header.side == side && s.header.id == protocol

-- ---- what is said

-- versions 13 and 14, each with the network magic 42, both directions, peer sharing, and no query
abbrev pub proposal : List ℕ
proposal = 0x82 ∷ 0x00 ∷ 0xa2
    ∷ 0x0d ∷ 0x84 ∷ 0x18 ∷ 0x2a ∷ 0xf4 ∷ 0x01 ∷ 0xf4
    ∷ 0x0e ∷ 0x84 ∷ 0x18 ∷ 0x2a ∷ 0xf4 ∷ 0x01 ∷ 0xf4 ∷ []

-- version 14, with the same
abbrev pub acceptance : List ℕ
acceptance = 0x83 ∷ 0x01 ∷ 0x0e ∷ 0x84 ∷ 0x18 ∷ 0x2a ∷ 0xf4 ∷ 0x01 ∷ 0xf4 ∷ []

-- a keep-alive with the cookie 5
abbrev pub alive_with_five : List ℕ
alive_with_five = 0x82 ∷ 0x00 ∷ 0x05 ∷ []

abbrev pub alive_done : List ℕ
alive_done = 0x81 ∷ 0x02 ∷ []

-- no block is in common, and the chain is empty
abbrev pub no_intersection : List ℕ
no_intersection = 0x82 ∷ 0x06 ∷ 0x82 ∷ 0x80 ∷ 0x00 ∷ []

-- ---- what is heard

-- it asks for a block in common
abbrev pub asks_intersection : List ℕ → Bool
asks_intersection (a ∷ b ∷ c ∷ []) = a == 0x82 && b == 0x04 && c == 0x80
asks_intersection payload = false

-- it is an array of two that begins with 0: a keep-alive or a share request
abbrev pub begins_asking : List ℕ → Bool
begins_asking (a ∷ b ∷ rest) = a == 0x82 && b == 0x00
begins_asking payload = false

-- what the node asks as initiator, where the town knows an answer
abbrev pub question_of : Segment → Question
question_of s =
    if is_from initiator handshake s then Proposes
    else (if is_from initiator keep_alive s && begins_asking s.payload then AsksAlive
    else (if is_from initiator chain_sync s && asks_intersection s.payload then AsksIntersection
    else (if is_from initiator peer_sharing s && begins_asking s.payload then AsksPeers
    else AsksNothing)))

-- the reply to a keep-alive is the same with 1 in place of 0
abbrev pub alive_reply : List ℕ → List ℕ
alive_reply payload = 0x82 ∷ 0x01 ∷ drop 2 payload
