-- The mini-protocols and their numbers.
use Rattle.std.specs.Prelude.{ℕ, Bool, ◌||◌, ◌==◌}

abbrev pub handshake : ℕ
handshake = 0

abbrev pub chain_sync : ℕ
chain_sync = 2

abbrev pub block_fetch : ℕ
block_fetch = 3

abbrev pub tx_submission : ℕ
tx_submission = 4

abbrev pub keep_alive : ℕ
keep_alive = 8

abbrev pub peer_sharing : ℕ
peer_sharing = 10

-- those that the other side may run on a connection
abbrev pub has_responder : ℕ → Bool
has_responder protocol =
    protocol == chain_sync
    || protocol == block_fetch
    || protocol == tx_submission
    || protocol == keep_alive
    || protocol == peer_sharing
