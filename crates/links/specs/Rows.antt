-- Links in a row, each found by its address and id.
use Rattle.std.specs.Prelude.{ℕ, zero, suc, ◌≡◌, Bool, not, List, [], ◌∷◌, map, filter, Option, Some, None, slice_get, if◌then◌else◌}
use Rattle.std.specs.List.{list_any}
use Rattle.conn_table.specs.Index.{placed_below, same_placed}
use Rattle.conn_table.specs.declared.placed.Placed.{Placed}
use Rattle.govern_rules.specs.Lent.{is_counted}
use Rattle.govern_rules.specs.declared.link.Link.{Link}
use Rattle.timer_queue.specs.Order.{IsRising}
use Rattle.links.specs.Link.{place_of}

-- in order of address and then id, and none twice
abbrev pub AreInOrder : List Link → Type 0
AreInOrder links = IsRising placed_below place_of links

abbrev pub stands_at : Placed → List Link → Bool
stands_at placed links = list_any (λ l. same_placed (place_of l) placed) links

-- whatever is asked: some of the one pass where some of the others do
abbrev pub HaveSameLinks : List Link → List Link → Type 0
HaveSameLinks links others = (test : Link → Bool) → list_any test links ≡ list_any test others

-- ---- changes

-- one more, at its place
abbrev pub with_new : Link → List Link → List Link
with_new new [] = new ∷ []
with_new new (l ∷ links) = if placed_below (place_of l) (place_of new) then l ∷ with_new new links else new ∷ l ∷ links

-- in place of the one with its address and id
abbrev pub with_link : Link → List Link → List Link
with_link new links = map (λ l. if same_placed (place_of l) (place_of new) then new else l) links

abbrev pub without_link : Placed → List Link → List Link
without_link placed links = filter (λ l. not (same_placed (place_of l) placed)) links

-- a link that was found, where it is that of a connection
abbrev pub link_at : Placed → Option Link → Option Link
link_at placed None = None
link_at placed (Some l) = if same_placed (place_of l) placed then Some l else None

-- the link before a place
abbrev pub link_before : ℕ → List Link → Option Link
link_before zero links = None
link_before (suc place) links = slice_get links place

-- a link among those by which the rules count, where they count by it, in place of the one of its connection
abbrev pub counted_anew : Link → List Link → List Link
counted_anew new links =
    if is_counted new then with_new new (without_link (place_of new) links) else without_link (place_of new) links
