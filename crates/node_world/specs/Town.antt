-- The town: a made world of sixty peers. It depends on its seed and on the actions that it is asked for.
use Rattle.std.specs.Prelude.{ℕ, ◌+◌, ◌*◌, ◌/◌, ◌%◌, ◌^◌, Bool, true, false, ◌&&◌, not, ◌==◌, nat_le, min, max, List, [], ◌∷◌, ◌++◌, length, map, if◌then◌else◌, Option, Some, None}
use Rattle.rand_core.specs.Pcg32Seed.{pcg32_seed}
use Rattle.rand_pcg.specs.Lcg.{Lcg}
use Rattle.rand_pcg.specs.Pcg.{pcg64, pcg64_of_seed}
use Rattle.mux_segment.specs.Segment.{Segment}
use Rattle.warm_messages.specs.Writing.{written_peers}
use Rattle.net_base.specs.declared.action.Action.{Action}
use Rattle.net_base.specs.declared.action.Action.TheVariants.{Admit, Dial, Send, AskRoots}
use Rattle.net_base.specs.declared.address.Addr.{Addr}
use Rattle.net_base.specs.declared.address.Ip.TheVariants.{V4}
use Rattle.net_base.specs.declared.connection.Cid.{Cid}
use Rattle.net_base.specs.declared.event.Event.{Event}
use Rattle.net_base.specs.declared.event.Event.TheVariants.{Now, Govern, Accepted, Dialed, Bytes, Closed, Aims, Locals, Roots}
use Rattle.net_base.specs.declared.event.RootAnswer.TheVariants.{Found}
use Rattle.node_world.specs.Segments.{handshake, chain_sync, keep_alive, peer_sharing, initiator, responder, spoken, heard, question_of, proposal, acceptance, alive_with_five, alive_done, no_intersection, alive_reply}
use Rattle.node_world.specs.declared.town.question.Question.{Question}
use Rattle.node_world.specs.declared.town.question.Question.TheVariants.{Proposes, AsksAlive, AsksIntersection, AsksPeers, AsksNothing}

pub record Town : Type 0 where
  -- what draws are taken from
  pub generator : Lcg
  -- those of its first events that it has not given yet
  pub first : List Event
  pub clock : ℕ
  -- answers that wait, and come before anything that is drawn
  pub queue : List Event
  -- the greatest connection id that an admission or a dial named, or 1
  pub newest : ℕ

-- a town with the events that were taken from it and the actions that were done
pub record LivedTown : Type 0 where
  pub town : Town
  pub taken : List Event
  pub done : List Action

-- ---- peers

-- 10.0.0.NUMBER:3001
abbrev pub peer : ℕ → Addr
peer number = record { ip = V4 (10 * 2 ^ 24 + number); port = 3001 }

-- one of the sixty
abbrev pub some_peer : ℕ → Addr
some_peer number = peer (1 + number % 60)

abbrev pub local_peers : List Addr
local_peers = peer 1 ∷ peer 2 ∷ peer 3 ∷ []

abbrev pub root_peers : List Addr
root_peers = map peer (11 ∷ 12 ∷ 13 ∷ 14 ∷ 15 ∷ 16 ∷ 17 ∷ 18 ∷ [])

-- ---- the beginning

abbrev pub first_events : List Event
first_events =
    Aims (record { root = 8; known = 40; established = 16; active = 6 })
    ∷ Locals (record { hot = 1; warm = 2; advertise = true; members = local_peers } ∷ [])
    ∷ []

abbrev pub new_town : ℕ → Town
new_town seed = record {
  generator = pcg64_of_seed (pcg32_seed 32 seed);
  first = first_events;
  clock = 0;
  queue = [];
  newest = 1;
}

-- the next 64 bits
abbrev pub draw : Town → ℕ × Town
draw town = let drawn = pcg64 town.generator in (drawn.0, record town { generator = drawn.1 })

-- ---- what it gives

-- one of the connections that there may be
abbrev pub some_connection : ℕ → Town → Cid
some_connection number town = record { 0 = 1 + number % town.newest }

-- The last four bits of a draw say what happens, and the others what it happens to.
abbrev pub kind_of : ℕ → ℕ
kind_of word = word % 16

abbrev pub rest_of : ℕ → ℕ
rest_of word = word / 16

-- half a second and more, and no later than the last moment
abbrev pub clock_rises : ℕ → ℕ → ℕ
clock_rises rest clock = min (clock + (500 + rest % 4000)) (2 ^ 48)

abbrev pub clock_after : ℕ → Town → ℕ
clock_after word town = if nat_le (kind_of word) 6 then clock_rises (rest_of word) town.clock else town.clock

abbrev pub event_of : ℕ → Town → Event
event_of word town =
    if nat_le (kind_of word) 6 then Now (clock_rises (rest_of word) town.clock)
    else (if nat_le (kind_of word) 10 then Govern word
    else (if nat_le (kind_of word) 12 then Accepted (some_peer (rest_of word))
    else (if kind_of word == 13 then Closed (some_connection (rest_of word) town)
    else (if kind_of word == 14 then Bytes (some_connection (rest_of word) town) (spoken initiator keep_alive alive_with_five)
    else Bytes (some_connection (rest_of word) town) (spoken initiator keep_alive alive_done)))))

abbrev pub made_of : ℕ × Town → Event × Town
made_of (word, town) = (event_of word town, record town { clock = clock_after word town })

-- an answer that waits, and else what is drawn
abbrev pub later_of : List Event → Town → Event × Town
later_of [] town = made_of (draw town)
later_of (event ∷ queue) town = (event, record town { queue = queue })

-- one of the first events, and then what is later
abbrev pub given_of : List Event → Town → Event × Town
given_of [] town = later_of town.queue town
given_of (event ∷ first) town = (event, record town { first = first })

-- the next event, and the town behind it
abbrev pub next_of : Town → Event × Town
next_of town = given_of town.first town

-- ---- what it answers

abbrev pub answers : Event → Town → Town
answers event town = record town { queue = town.queue ++ event ∷ [] }

abbrev pub names : Cid → Town → Town
names cid town = record town { newest = max town.newest cid.0 }

-- one dial of eight fails
abbrev pub dial_ends : Cid → ℕ × Town → Town
dial_ends cid drawn = answers (Dialed cid (not (drawn.0 % 8 == 0))) drawn.1

-- one peer is told to whoever asks for some
abbrev pub peer_told : Cid → ℕ × Town → Town
peer_told cid drawn =
    answers (Bytes cid (spoken responder peer_sharing (written_peers (some_peer drawn.0 ∷ [])))) drawn.1

-- the answer to what the node asks
abbrev pub replies : Cid → Question → List ℕ → Town → Town
replies cid Proposes payload town = answers (Bytes cid (spoken responder handshake acceptance)) town
replies cid AsksAlive payload town = answers (Bytes cid (spoken responder keep_alive (alive_reply payload))) town
replies cid AsksIntersection payload town = answers (Bytes cid (spoken responder chain_sync no_intersection)) town
replies cid AsksPeers payload town = peer_told cid (draw town)
replies cid AsksNothing payload town = town

abbrev pub replies_where : Cid → Option Segment → Town → Town
replies_where cid (Some s) town = replies cid (question_of s) s.payload town
replies_where cid None town = town

abbrev pub does : Action → Town → Town
does (Dial cid addr) town = dial_ends cid (draw (names cid town))
does (Admit cid addr) town = answers (Bytes cid (spoken initiator handshake proposal)) (names cid town)
does (Send cid bytes) town = replies_where cid (heard bytes) town
does (AskRoots job) town = answers (Roots job (Found 3600000 root_peers)) town
does other town = town

-- an id or a job of at most 2^48, and no more bytes than one read of a socket brings
abbrev pub is_heeded : Action → Bool
is_heeded (Dial cid addr) = nat_le cid.0 (2 ^ 48)
is_heeded (Admit cid addr) = nat_le cid.0 (2 ^ 48)
is_heeded (Send cid bytes) = nat_le cid.0 (2 ^ 48) && nat_le (length bytes) 65536
is_heeded (AskRoots job) = nat_le job.0 (2 ^ 48)
is_heeded other = false

-- the town behind an action
abbrev pub act_of : Town → Action → Town
act_of town action = if is_heeded action then does action town else town
