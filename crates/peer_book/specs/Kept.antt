-- What is kept beside the list of peers, and always true of it.
use Rattle.std.specs.Prelude.{◌≡◌, ◌≤◌, length}
use Rattle.net_base.specs.declared.peer.Temp.{Temp}
use Rattle.peer_book.specs.Book.{listed_at, most_peers}
use Rattle.peer_book.specs.Order.{IsRising}
use Rattle.peer_book.specs.Rows.{row_of, room_of}
use Rattle.peer_book.specs.Tallies.{tally_of}
use Rattle.peer_book.specs.declared.kept.Kept.{Kept}

pub record IsKept (kept : Kept) : Type 0 where
  pub ordered : IsRising (λ p. p.addr) kept.peers
  pub limited : length kept.peers ≤ most_peers
  pub listed : (temp : Temp) → row_of temp kept.rows ≡ listed_at temp kept.peers
  -- every peer has room at every temperature
  pub roomy : (temp : Temp) → length kept.peers ≤ room_of temp kept.rows
  pub counted : kept.tally ≡ tally_of kept.peers
