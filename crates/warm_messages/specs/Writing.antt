-- What is written: definite lengths, and the shortest heads.
use Rattle.std.specs.Prelude.{ℕ, List, [], ◌∷◌, ◌++◌, length}
use Rattle.std.specs.List.{flat_map}
use Rattle.cbor_items.specs.Head.{shortest_head}
use Rattle.net_base.specs.declared.address.Addr.{Addr}
use Rattle.warm_messages.specs.declared.alive.Alive.{Alive}
use Rattle.warm_messages.specs.Address.{address_numbers}
use Rattle.warm_messages.specs.Message.{alive_numbers}

abbrev pub written_number : ℕ → List ℕ
written_number n = shortest_head 0 n

abbrev pub written_opening : ℕ → List ℕ
written_opening count = shortest_head 4 count

abbrev pub written_numbers : List ℕ → List ℕ
written_numbers numbers = written_opening (length numbers) ++ flat_map written_number numbers

abbrev pub written_alive : Alive → List ℕ
written_alive message = written_numbers (alive_numbers message)

abbrev pub written_request : ℕ → List ℕ
written_request n = written_numbers (0 ∷ n ∷ [])

abbrev pub written_address : Addr → List ℕ
written_address addr = written_numbers (address_numbers addr)

abbrev pub written_addresses : List Addr → List ℕ
written_addresses peers = written_opening (length peers) ++ flat_map written_address peers

abbrev pub written_peers : List Addr → List ℕ
written_peers peers = written_opening 2 ++ written_number 1 ++ written_addresses peers
