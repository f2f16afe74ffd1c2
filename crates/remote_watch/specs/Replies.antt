-- The bytes of a reply.
use Rattle.std.specs.Prelude.{ℕ, List, [], ◌∷◌}
use Rattle.net_base.specs.declared.address.Addr.{Addr}
use Rattle.remote_watch.specs.declared.reply.Reply.{Reply}
use Rattle.remote_watch.specs.declared.reply.Reply.TheVariants.{Nothing, Alive, Share, NoIntersect, Await, NoBlocks}
use Rattle.warm_messages.specs.Writing.{written_alive, written_peers}
use Rattle.warm_messages.specs.declared.alive.Alive.TheVariants as alive

-- The peers are those that are told where addresses were asked for.
abbrev pub reply_bytes_of : Reply → List Addr → List ℕ
reply_bytes_of Nothing peers = []
reply_bytes_of (Alive cookie) peers = written_alive (alive.Reply cookie)
reply_bytes_of (Share n) peers = written_peers peers
-- [6, [[], 0]]
reply_bytes_of NoIntersect peers = 0x82 ∷ 0x06 ∷ 0x82 ∷ 0x80 ∷ 0x00 ∷ []
-- [1]
reply_bytes_of Await peers = 0x81 ∷ 0x01 ∷ []
-- [3]
reply_bytes_of NoBlocks peers = 0x81 ∷ 0x03 ∷ []
