-- Items whose bodies stand together.
use Rattle.std.specs.Prelude.{ℕ, ◌+◌, ◌≤◌, List, All, length, take, drop, map}
use Rattle.mux_segment.specs.Stream.{item_of}
use Rattle.mux_segment.specs.declared.item.Item.{Item}
use Rattle.mux_segment.specs.declared.packed.Head.{Head}

abbrev pub packed_item : List ℕ → Head → Item
packed_item bodies h = item_of h.side h.id (take h.size (drop h.from bodies))

abbrev pub packed_items : List ℕ → List Head → List Item
packed_items bodies heads = map (packed_item bodies) heads

-- each body stands among all of them
abbrev pub AreWithin : List ℕ → List Head → Type 0
AreWithin bodies heads = All (λ h. h.from + h.size ≤ length bodies) heads
