-- Which peers a rule picks from, by what costs little to see and what costs more.
use Rattle.std.specs.Prelude.{ℕ, Bool, true, false, ◌&&◌, ◌||◌, not, nat_le, List}
use Rattle.std.specs.List.{list_any, filter_map}
use Rattle.net_base.specs.declared.address.Addr.{Addr}
use Rattle.net_base.specs.declared.peer.Peer.{Peer}
use Rattle.net_base.specs.declared.peer.Temp.TheVariants.{Cold, Warm, Hot}
use Rattle.peer_book.specs.Book.{is_of, is_established, same_temp, peer_at}
use Rattle.govern_rules.specs.Marks.{has_mark}
use Rattle.govern_rules.specs.SortedLinks.{links_of}
use Rattle.govern_rules.specs.Whom.{is_meant}
use Rattle.govern_rules.specs.declared.link.Link.{Link}
use Rattle.govern_rules.specs.declared.mark.Mark.{Mark}
use Rattle.govern_rules.specs.declared.mark.Mark.TheVariants.{Entry, Pending, Acquirable, Owes2, OwesReply, CanShare}
use Rattle.govern_rules.specs.declared.search.Search.{Search}
use Rattle.govern_rules.specs.declared.seen.Seen.{Seen}
use Rattle.govern_rules.specs.declared.seen.Seen.TheVariants.{OnItsWay, Suits, Neither}
use Rattle.govern_rules.specs.declared.task.Task.{Task}
use Rattle.govern_rules.specs.declared.task.Task.TheVariants.{Asking, Forgetting, Promoting, Releasing, Activating, Deactivating}

-- what is asked of the peer itself
abbrev pub is_ready : Task → ℕ → Peer → Bool
is_ready (Asking amount) moment p = is_established p.temp && nat_le p.share_next moment
is_ready Forgetting moment p = same_temp p.temp Cold
is_ready Promoting moment p = same_temp p.temp Cold && nat_le p.not_before moment
is_ready Releasing moment p = same_temp p.temp Warm
is_ready Activating moment p = same_temp p.temp Warm
is_ready Deactivating moment p = same_temp p.temp Hot

-- which marks the links of one address have
abbrev pub say : List Link → Mark → Bool
say own mark = list_any (has_mark mark) own

-- there is no entry, or one that can be taken into use
abbrev pub is_unlinked_or_acquirable : (Mark → Bool) → Bool
is_unlinked_or_acquirable said = not (said Entry) || said Acquirable

-- what is asked of the links of its address
abbrev pub is_free : Task → (Mark → Bool) → Bool
is_free (Asking amount) said = said CanShare
is_free Forgetting said = not (said Pending)
is_free Promoting said = not (said Pending) && is_unlinked_or_acquirable said
is_free Releasing said = not (said OwesReply)
is_free Activating said = not (said Owes2)
is_free Deactivating said = true

-- It is of the class, and may be given the task. This is `is_candidate`, put in another order.
abbrev pub suits : Search → Peer → Bool
suits search p =
    is_of search.big p
    && is_ready search.task search.view.now.moment p
    && is_meant search.whom p.addr
    && is_free search.task (say (links_of p.addr search.view.now.links))

-- it is of the class and on its way
abbrev pub is_on_its_way : Search → Peer → Bool
is_on_its_way search p = is_of search.big p && say (links_of p.addr search.view.now.links) Pending

-- what is seen of a peer where peers are promoted
abbrev pub seen_by : Bool → Bool → Seen
seen_by true suiting = OnItsWay
seen_by false true = Suits
seen_by false false = Neither

abbrev pub seen : Search → Peer → Seen
seen search p = seen_by (is_on_its_way search p) (suits search p)

-- the peers with some addresses, one look-up after the other
abbrev pub lookups : List Peer → List Addr → List Peer
lookups peers = filter_map (λ a. peer_at a peers)
