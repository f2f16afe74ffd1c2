use Rattle.std.proofs.Common.{◌≡◌, ◌≤◌, ◌-◌, ◌++◌, length, take, drop}
use Rattle.std.specs.List.{filter}
use Rattle.peer_book.specs.Book.{addresses_of}
use Rattle.share_rounds.specs.Rounds.{is_advertised, most_tellable}
use Rattle.share_rounds.proofs.serving.keep_tellable.Given as goal

abbrev pub invariant-loop-peer : goal.invariant-loop-peer
invariant-loop-peer l = (length l.kept ≤ most_tellable)
    × (l.initial.kept ++ take (most_tellable - length l.initial.kept) (filter (is_advertised l.groups l.roots.publics) (addresses_of l.peers))
    ≡ l.kept ++ take (most_tellable - length l.kept) (filter (is_advertised l.groups l.roots.publics) (addresses_of (drop l.peer-index l.peers))))
