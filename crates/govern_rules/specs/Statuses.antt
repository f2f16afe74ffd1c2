-- What peers are counted by.
use Rattle.std.specs.Prelude.{ℕ, Bool, ◌&&◌, ◌||◌, List, count_by}
use Rattle.net_base.specs.declared.peer.Peer.{Peer}
use Rattle.net_base.specs.declared.peer.Temp.TheVariants.{Hot}
use Rattle.peer_book.specs.Book.{is_of, is_established, same_temp}
use Rattle.govern_rules.specs.Links.{is_pending, owes_on_2}
use Rattle.govern_rules.specs.declared.link.Link.{Link}
use Rattle.govern_rules.specs.declared.status.Status.{Status}
use Rattle.govern_rules.specs.declared.status.Status.TheVariants.{EstablishedOrPending, HotOrOwesOn2, Hot as IsHot}

abbrev pub has_status : Status → List Link → Peer → Bool
has_status EstablishedOrPending links p = is_established p.temp || is_pending links p.addr
has_status HotOrOwesOn2 links p = same_temp p.temp Hot || owes_on_2 links p.addr
has_status IsHot links p = same_temp p.temp Hot

-- how many peers of a class have a status
abbrev pub count_with : Status → Bool → List Link → List Peer → ℕ
count_with status big links = count_by (λ p. is_of big p && has_status status links p)
