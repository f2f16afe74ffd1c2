-- Laws on replies, whatever function writes them.
use Rattle.std.specs.Prelude.{◌≡◌, ℕ, ◌<◌, ◌^◌, List, [], ◌∷◌, ◌++◌, length, All, Some}
use Rattle.net_base.specs.declared.address.Addr.{Addr}
use Rattle.remote_watch.specs.declared.reply.Reply.TheVariants.{Alive, Share, NoIntersect, Await, NoBlocks}
use Rattle.remote_watch.specs.Replies.{reply_bytes_of}
use Rattle.warm_messages.specs.Address.{IsAddress}
use Rattle.warm_messages.specs.First.{first_number_of}
use Rattle.warm_messages.specs.Reading.{alive_of, share_of}
use Rattle.warm_messages.specs.Writing.{written_number, written_opening, written_numbers}
use Rattle.warm_messages.specs.declared.alive.Alive.TheVariants as alive
use Rattle.warm_messages.specs.declared.share.Share.TheVariants as share

-- The replies of an empty chain: [6, [[], 0]], where [[], 0] is its tip (its point is the origin, and no block), [1] and
-- [3].
pub record AreWritten : Type 0 where
  pub no_intersect : (peers : List Addr) → reply_bytes_of NoIntersect peers
      ≡ written_opening 2 ++ (written_number 6 ++ (written_opening 2 ++ (written_numbers [] ++ written_number 0)))
  pub await : (peers : List Addr) → reply_bytes_of Await peers ≡ written_numbers (1 ∷ [])
  pub no_blocks : (peers : List Addr) → reply_bytes_of NoBlocks peers ≡ written_numbers (3 ∷ [])

-- what is answered is read by the side that asked
pub record AreRead : Type 0 where
  pub no_intersect : (peers : List Addr) → first_number_of (reply_bytes_of NoIntersect peers) ≡ Some 6
  pub await : (peers : List Addr) → first_number_of (reply_bytes_of Await peers) ≡ Some 1
  pub no_blocks : (peers : List Addr) → first_number_of (reply_bytes_of NoBlocks peers) ≡ Some 3
  pub cookie : (n : ℕ) (peers : List Addr) → n < 2 ^ 16 → alive_of (reply_bytes_of (Alive n) peers) ≡ Some (alive.Reply n)
  pub told : (n : ℕ) (peers : List Addr) → All IsAddress peers → length peers < 2 ^ 64 → share_of (reply_bytes_of (Share n) peers) ≡ Some (share.Peers peers)
