-- The protocols that run on a connection, and how many bytes an item of each may have.
use Rattle.std.specs.Prelude.{ℕ, ◌||◌, ◌==◌, Option, Some, None, if◌then◌else◌}

-- the limit of a protocol number, or none where the protocol is not known
abbrev pub Limits : Type 0
Limits = ℕ → Option ℕ

-- node-to-node: handshake; chain-sync, block-fetch, tx-submission, keep-alive and peer-sharing
abbrev pub node_limits : Limits
node_limits id =
    if id == 0 then Some 5760
    else (if id == 2 || id == 3 || id == 4 || id == 8 || id == 10 then Some 65535 else None)
