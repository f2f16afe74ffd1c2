-- What a short list has.
use Rattle.std.specs.Prelude.{◌≡◌, ℕ, ◌-◌, true, not, List, [], ◌∷◌, ◌++◌, length, map, take, slice_index_or}
use Rattle.std.specs.List.{IsDistinct, insert, position_or_len}
use Rattle.net_base.specs.Address.{same_address}
use Rattle.pick_policy.specs.Least.{least_by}
use Rattle.pick_policy.specs.Ordered.{scored_below}
use Rattle.pick_policy.specs.declared.scored.Scored.{Scored}
use Rattle.pick_policy.specs.declared.short_list.ShortList.{ShortList}

-- the least of those that came, at most so many
abbrev pub HasLeast : ℕ → List Scored → ShortList → Type 0
HasLeast k came list = (list.most ≡ k) × (list.least.items ≡ least_by scored_below k came)

-- one more came, whose address is none of theirs
abbrev pub AreWithOther : Scored → List Scored → Type 0
AreWithOther s came = IsDistinct same_address (map (λ t. t.addr) (came ++ s ∷ []))

-- it has so many, and one more is above the last
abbrev pub IsFullBelow : Scored → ShortList → Type 0
IsFullBelow s list =
    (length list.least.items ≡ list.most)
    × (scored_below (slice_index_or list.least.items (length list.least.items - 1) s) s ≡ true)

-- how many stand before the first that is not below it
abbrev pub place_of : Scored → List Scored → ℕ
place_of s least = position_or_len (λ t. not (scored_below t s)) least

-- at most so many, with one more in its place
abbrev pub with_one : ℕ → Scored → List Scored → List Scored
with_one most s least = take most (insert least (place_of s least) s)
