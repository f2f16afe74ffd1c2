-- One order for each pick, and as many as the pick gives.
use Rattle.std.specs.Prelude.{ℕ, Bool, true, false, ◌&&◌, List, map, filter}
use Rattle.net_base.specs.declared.address.Addr.{Addr}
use Rattle.net_base.specs.declared.peer.Peer.{Peer}
use Rattle.peer_book.specs.Book.{is_of, addresses_of}
use Rattle.pick_policy.specs.Picks.{picked, ranked}
use Rattle.pick_policy.specs.declared.rated.Rated.{Rated}
use Rattle.govern_rules.specs.declared.order.Order.{Order}

abbrev pub rated_of : Peer → Rated
rated_of p = record { addr = p.addr; failures = p.failures }

-- ordinary peers are picked by their score alone, big ledger peers by their failures first
abbrev pub picks_of : Bool → ℕ → ℕ → List Peer → List Addr
picks_of false word number candidates = picked (addresses_of candidates) number word
picks_of true word number candidates = ranked (map rated_of candidates) number word

-- the candidates are the peers of a class that pass a test
abbrev pub orders_for : Bool → ℕ → (Addr → Order) → ℕ → (Peer → Bool) → List Peer → List Order
orders_for big word order number test peers =
    map order (picks_of big word number (filter (λ p. is_of big p && test p) peers))
