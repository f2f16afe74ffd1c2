use Rattle.std.proofs.Common.{◌≡◌, ◌≤◌, ◌-◌, ◌++◌, length, take, drop}
use Rattle.std.specs.List.{filter}
use Rattle.peer_book.specs.Book.{addresses_of}
use Rattle.share_rounds.specs.Rounds.{is_advertised, most_tellable, tellable_of}
use Rattle.share_rounds.proofs.serving.tellable.Given as goal

abbrev pub invariant-loop-place : goal.invariant-loop-place
invariant-loop-place l = (length l.kept ≤ most_tellable)
    × (tellable_of l.book l.groups l.roots.publics
    ≡ l.kept ++ take (most_tellable - length l.kept) (filter (is_advertised l.groups l.roots.publics) (addresses_of (drop l.place l.book))))

abbrev pub decreases-loop-place : goal.decreases-loop-place
decreases-loop-place l = length l.book - l.place
