-- The leaves: the connections that came, in order of id.
use Rattle.std.specs.Prelude.{ℕ, Bool, true, false, List, filter, map, Option, Some, None, if◌then◌else◌}
use Rattle.std.specs.List.{filter_map}
use Rattle.prune_order.specs.declared.leaf.Leaf.{Leaf}
use Rattle.prune_order.specs.declared.leaf.Standing.{Standing}
use Rattle.prune_order.specs.declared.leaf.Standing.TheVariants.{Gone, Kept, MayGo}
use Rattle.prune_order.specs.declared.ranked.Ranked.{Ranked}
use Rattle.timer_queue.specs.Timers.{same_cid}

abbrev pub rank_in : Standing → Option ℕ
rank_in Gone = None
rank_in Kept = None
rank_in (MayGo rank) = Some rank

abbrev pub standing_by : Option ℕ → Standing
standing_by None = Kept
standing_by (Some rank) = MayGo rank

abbrev pub is_there : Standing → Bool
is_there Gone = false
is_there Kept = true
is_there (MayGo rank) = true

abbrev pub ranked : Leaf → Ranked
ranked leaf = record { cid = leaf.cid; rank = rank_in leaf.standing }

abbrev pub row_by : Standing → Leaf → Option Ranked
row_by Gone leaf = None
row_by Kept leaf = Some (ranked leaf)
row_by (MayGo rank) leaf = Some (ranked leaf)

abbrev pub row_of : Leaf → Option Ranked
row_of leaf = row_by leaf.standing leaf

-- those that have not gone
abbrev pub rows_of : List Leaf → List Ranked
rows_of leaves = filter_map row_of leaves

-- in place of the one with its id
abbrev pub with_leaf : Leaf → List Leaf → List Leaf
with_leaf new leaves = map (λ l. if same_cid l.cid new.cid then new else l) leaves

abbrev pub those_there : List Leaf → List Leaf
those_there leaves = filter (λ l. is_there l.standing) leaves
