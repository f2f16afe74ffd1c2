-- The replies that the other side owes, by their protocols.
use Rattle.std.specs.Prelude.{ℕ, List, [], ◌∷◌, ◌++◌, Option, Some, None}
use Rattle.machine.specs.Machine.{Owed}
use Rattle.connections.specs.declared.reply.Reply.{Reply}

abbrev pub owed_on : ℕ → Option Reply → List Owed
owed_on protocol None = []
owed_on protocol (Some reply) = record { protocol = protocol; until = reply.until; asked = reply.asked } ∷ []

-- on chain-sync, keep-alive and peer-sharing, in this order
abbrev pub owed_by : Option Reply → Option Reply → Option Reply → List Owed
owed_by chain_sync keep_alive peer_sharing = owed_on 2 chain_sync ++ owed_on 8 keep_alive ++ owed_on 10 peer_sharing

abbrev pub reply_of : Owed → Reply
reply_of owed = record { until = owed.until; asked = owed.asked }
