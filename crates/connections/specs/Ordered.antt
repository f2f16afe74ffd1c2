-- Which of the connections that stand goes first where there are too many.
use Rattle.std.specs.Prelude.{◌≡◌, ℕ, ◌≤◌, nat_eq, List, map, Option, if◌then◌else◌}
use Rattle.std.specs.Option.{option_eq}
use Rattle.accept_gate.specs.Prune.{rank_of}
use Rattle.net_base.specs.declared.connection.Cid.{Cid}
use Rattle.net_base.specs.declared.connection.Facts.{Facts}
use Rattle.prune_order.specs.Order.{Order, with_rank}
use Rattle.prune_order.specs.declared.ranked.Ranked.{Ranked}

-- a connection, and its rank where it may go
abbrev pub row_of : Facts → Ranked
row_of f = record { cid = f.cid; rank = rank_of f }

abbrev pub rows_in : List Facts → List Ranked
rows_in fs = map row_of fs

-- what is kept of their order is what is known of them
pub record IsOrdered (facts : List Facts) (given : ℕ) (order : Order) : Type 0 where
  pub rows : order.rows ≡ rows_in facts
  pub last : order.last.0 ≤ given

-- where the rank of one is another than before, it has that
abbrev pub reranked : Cid → Option ℕ → Option ℕ → List Ranked → List Ranked
reranked cid was is rows = if option_eq nat_eq was is then rows else with_rank cid is rows
