-- Which bytes spell which message.
use Rattle.std.specs.Prelude.{ℕ, ◌<◌, List, [], ◌∷◌, length}
use Rattle.cbor_items.specs.Definite.{IsNumber}
use Rattle.cbor_items.specs.Item.{IsPair, AreInTurn}
use Rattle.net_base.specs.declared.address.Addr.{Addr}
use Rattle.warm_messages.specs.declared.alive.Alive.{Alive}
use Rattle.warm_messages.specs.declared.alive.Alive.TheVariants as alive
use Rattle.warm_messages.specs.declared.share.Share.{Share}
use Rattle.warm_messages.specs.declared.share.Share.TheVariants as share
use Rattle.warm_messages.specs.Array.{IsArray, IsNumbers}
use Rattle.warm_messages.specs.Address.{SpellsAddress}

-- ---- keep-alive: [0, cookie], [1, cookie] and [2]

abbrev pub alive_numbers : Alive → List ℕ
alive_numbers (alive.Ask cookie) = 0 ∷ cookie ∷ []
alive_numbers (alive.Reply cookie) = 1 ∷ cookie ∷ []
alive_numbers alive.Done = 2 ∷ []

-- a cookie has two bytes
abbrev pub HasCookie : Alive → Type 0
HasCookie (alive.Ask cookie) = cookie < 65536
HasCookie (alive.Reply cookie) = cookie < 65536
HasCookie alive.Done = Unit {0}

abbrev pub SpellsAlive : Alive → List ℕ → Type 0
SpellsAlive message bytes = HasCookie message × IsNumbers (alive_numbers message) bytes

-- ---- peer sharing: [0, n], [1, [address, ..]] and [2]

abbrev pub SpellsAddresses : List Addr → List ℕ → Type 0
SpellsAddresses peers bytes = IsArray (length peers) (AreInTurn SpellsAddress peers) bytes

abbrev pub SpellsShare : Share → List ℕ → Type 0
SpellsShare (share.Request n) bytes = IsNumbers (0 ∷ n ∷ []) bytes
SpellsShare (share.Peers peers) bytes = IsArray 2 (IsPair (IsNumber 1) (SpellsAddresses peers)) bytes
SpellsShare share.Done bytes = IsNumbers (2 ∷ []) bytes
