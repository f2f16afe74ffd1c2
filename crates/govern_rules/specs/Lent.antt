-- Links that are lent to the rules, and those among them by which the rules count.
use Rattle.std.specs.Prelude.{◌≡◌, Bool, ◌||◌, List, filter}
use Rattle.govern_rules.specs.SortedLinks.{IsInOrder}
use Rattle.govern_rules.specs.declared.link.Link.{Link}

-- a dial is on its way, or a reply is owed on chain-sync or peer-sharing
abbrev pub is_counted : Link → Bool
is_counted l = l.pending || (l.owes2 || l.owes10)

-- both stand in order, and have the same ones by which rules count
pub record AreLent (all counted : List Link) : Type 0 where
  pub ordered : IsInOrder all
  pub counted_ordered : IsInOrder counted
  pub same : filter is_counted counted ≡ filter is_counted all
