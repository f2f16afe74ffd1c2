-- What is looked for among the links of an address.
use Rattle.std.specs.Prelude.{Bool, true, false, ◌&&◌, ◌||◌, not, List, Option, Some, None}
use Rattle.std.specs.List.{list_any}
use Rattle.net_base.specs.declared.address.Addr.{Addr}
use Rattle.net_base.specs.declared.peer.Peer.{Peer}
use Rattle.peer_book.specs.Book.{is_of, peer_at}
use Rattle.govern_rules.specs.SortedLinks.{links_of}
use Rattle.govern_rules.specs.declared.link.Link.{Link}
use Rattle.govern_rules.specs.declared.mark.Mark.{Mark}
use Rattle.govern_rules.specs.declared.mark.Mark.TheVariants.{Entry, Pending, Acquirable, Owes2, Owes10, OwesReply, CanShare}

abbrev pub has_mark : Mark → Link → Bool
has_mark Entry l = true
has_mark Pending l = l.pending
has_mark Acquirable l = l.acquirable
has_mark Owes2 l = l.owes2
has_mark Owes10 l = l.owes10
has_mark OwesReply l = l.owes2 || l.owes8 || l.owes10
has_mark CanShare l = l.local && l.sharing && not l.owes10

-- ---- which links count where each address with a mark counts once

-- it has the mark, and none of its address behind it has
abbrev pub is_last_marked : Mark → Link → List Link → Bool
is_last_marked mark l after = has_mark mark l && not (list_any (has_mark mark) (links_of l.addr after))

abbrev pub is_class : Bool → Option Peer → Bool
is_class big None = false
is_class big (Some p) = is_of big p

-- there is a peer of a class with an address
abbrev pub is_class_at : Bool → Addr → List Peer → Bool
is_class_at big addr peers = is_class big (peer_at addr peers)

-- it counts where peers of a class with the mark are counted
abbrev pub counts : Mark → Bool → Link → List Link → List Peer → Bool
counts mark big l after peers = is_last_marked mark l after && is_class_at big l.addr peers
