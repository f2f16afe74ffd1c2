-- Laws on messages, whatever function reads or writes them.
use Rattle.std.specs.Prelude.{◌≡◌, ℕ, ◌<◌, ◌^◌, ◌↔◌, List, ◌++◌, length, All, Some}
use Rattle.cbor_items.specs.declared.scan.Scan.TheVariants.{Whole}
use Rattle.cbor_items.specs.Item.{IsItem, level_limit}
use Rattle.cbor_items.specs.Scan.{scan_of}
use Rattle.net_base.specs.declared.address.Addr.{Addr}
use Rattle.warm_messages.specs.declared.alive.Alive.{Alive}
use Rattle.warm_messages.specs.declared.share.Share.{Share}
use Rattle.warm_messages.specs.declared.share.Share.TheVariants as share
use Rattle.warm_messages.specs.Address.{IsAddress}
use Rattle.warm_messages.specs.Message.{HasCookie, SpellsAlive, SpellsShare}
use Rattle.warm_messages.specs.Reading.{alive_of, share_of}
use Rattle.warm_messages.specs.First.{HasFirstNumber, first_number_of, item_number_of}
use Rattle.warm_messages.specs.Writing.{written_alive, written_request, written_peers}

-- reading finds the message exactly where the bytes spell it
pub record ReadingIsSpelling : Type 0 where
  pub alive : (message : Alive) (bytes : List ℕ) → (alive_of bytes ≡ Some message) ↔ SpellsAlive message bytes
  pub share : (message : Share) (bytes : List ℕ) → (share_of bytes ≡ Some message) ↔ SpellsShare message bytes
  pub first : (n : ℕ) (bytes : List ℕ) → (first_number_of bytes ≡ Some n) ↔ HasFirstNumber n bytes

-- where the bytes are one item, its first number is found without a scan of the whole
pub record ItemsNeedNoScan : Type 0 where
  pub same : (bytes : List ℕ) → IsItem level_limit bytes → item_number_of bytes ≡ first_number_of bytes
  pub spelled : (n : ℕ) (bytes : List ℕ) → IsItem level_limit bytes → (item_number_of bytes ≡ Some n) ↔ HasFirstNumber n bytes

-- bytes spell at most one message of each protocol
pub record SpellAtMostOne : Type 0 where
  pub alive : (one other : Alive) (bytes : List ℕ) → SpellsAlive one bytes → SpellsAlive other bytes → one ≡ other
  pub share : (one other : Share) (bytes : List ℕ) → SpellsShare one bytes → SpellsShare other bytes → one ≡ other

-- what is written spells the message
pub record WritingIsSpelling : Type 0 where
  pub alive : (message : Alive) → HasCookie message → SpellsAlive message (written_alive message)
  pub request : (n : ℕ) → n < 2 ^ 64 → SpellsShare (share.Request n) (written_request n)
  pub peers : (peers : List Addr) → All IsAddress peers → length peers < 2 ^ 64 → SpellsShare (share.Peers peers) (written_peers peers)

-- What spells a message is one item. In a stream it is the first item, whatever follows it.
abbrev pub IsFirstItem : List ℕ → Type 0
IsFirstItem bytes = IsItem level_limit bytes × ((rest : List ℕ) → scan_of (bytes ++ rest) ≡ Whole (length bytes))

pub record MessagesAreItems : Type 0 where
  pub alive : (message : Alive) (bytes : List ℕ) → SpellsAlive message bytes → IsFirstItem bytes
  pub share : (message : Share) (bytes : List ℕ) → SpellsShare message bytes → IsFirstItem bytes
