-- Who may be given which order, at a moment and with the links that there are.
use Rattle.std.specs.Prelude.{ℕ, Bool, ◌&&◌, ◌||◌, not, nat_le, List}
use Rattle.net_base.specs.declared.peer.Peer.{Peer}
use Rattle.net_base.specs.declared.peer.Temp.TheVariants.{Cold, Warm, Hot}
use Rattle.peer_book.specs.Book.{same_temp, is_established}
use Rattle.govern_rules.specs.Links.{is_linked, is_pending, is_acquirable, owes_on_2, owes_a_reply, can_share}
use Rattle.govern_rules.specs.declared.link.Link.{Link}

-- to be asked for addresses
abbrev pub may_be_asked : ℕ → List Link → Peer → Bool
may_be_asked moment links p =
    is_established p.temp && can_share links p.addr && nat_le p.share_next moment

abbrev pub may_be_forgotten : List Link → Peer → Bool
may_be_forgotten links p = same_temp p.temp Cold && not (is_pending links p.addr)

-- to be promoted: a cold peer that is not on its way, is out of its back-off, and has either no entry or one that
-- can be taken into use
abbrev pub is_eligible : ℕ → List Link → Peer → Bool
is_eligible moment links p =
    same_temp p.temp Cold
    && not (is_pending links p.addr)
    && nat_le p.not_before moment
    && (not (is_linked links p.addr) || is_acquirable links p.addr)

abbrev pub may_be_released : List Link → Peer → Bool
may_be_released links p = same_temp p.temp Warm && not (owes_a_reply links p.addr)

abbrev pub may_be_activated : List Link → Peer → Bool
may_be_activated links p = same_temp p.temp Warm && not (owes_on_2 links p.addr)

abbrev pub may_be_deactivated : Peer → Bool
may_be_deactivated p = same_temp p.temp Hot
