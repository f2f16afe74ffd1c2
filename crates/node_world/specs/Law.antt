-- The town hears and says what nodes do.
use Rattle.std.specs.Prelude.{◌≡◌, ℕ, ◌≤◌, ◌<◌, ◌^◌, true, List, length, Some}
use Rattle.mux_segment.specs.Frame.{payload_limit, time_of, segment_of, frame_of}
use Rattle.warm_messages.specs.declared.alive.Alive.TheVariants.{Ask, Reply, Done}
use Rattle.warm_messages.specs.Writing.{written_alive, written_request}
use Rattle.node_world.specs.Segments.{heard, alive_with_five, alive_done, begins_asking, alive_reply}

-- A payload that a node writes in one segment is heard, at whatever time it is sent.
abbrev pub HearsFrames : Type 0
HearsFrames = (side id now : ℕ) (payload : List ℕ) → side ≤ 1 → id < 2 ^ 15 → length payload ≤ payload_limit
    → heard (frame_of side id now payload) ≡ Some (segment_of side id (time_of now) payload)

-- Keep-alives and share requests that a node writes are known, and what the town says on keep-alive are its messages.
pub record SpeaksMessages : Type 0 where
  pub five : alive_with_five ≡ written_alive (Ask 5)
  pub done : alive_done ≡ written_alive Done
  pub asked : (cookie : ℕ) → begins_asking (written_alive (Ask cookie)) ≡ true
  pub replied : (cookie : ℕ) → alive_reply (written_alive (Ask cookie)) ≡ written_alive (Reply cookie)
  pub requested : (number : ℕ) → begins_asking (written_request number) ≡ true
