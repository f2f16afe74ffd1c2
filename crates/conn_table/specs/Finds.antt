-- What a look-up finds in a list of connections.
use Rattle.std.specs.Prelude.{ℕ, nat_lt, List, [], ◌∷◌, Option, Some, None, slice_get, ◌≡◌, if◌then◌else◌}
use Rattle.std.specs.List.{prefix_len}
use Rattle.net_base.specs.declared.address.Addr.{Addr}
use Rattle.net_base.specs.declared.connection.Facts.{Facts}
use Rattle.conn_state.specs.Use.{has_id, is_live}
use Rattle.conn_table.specs.Answers.{any_at, has_address}

-- how many have a lower id
abbrev pub id_place : ℕ → List Facts → ℕ
id_place cid = prefix_len (λ f. nat_lt f.cid.0 cid)

-- the last connection of an address
abbrev pub newest : Addr → List Facts → Option Facts
newest addr [] = None
newest addr (f ∷ fs) = if any_at addr fs then newest addr fs else if has_address addr f then Some f else None

-- one that was found, where it is live
abbrev pub if_live : Option Facts → Option Facts
if_live None = None
if_live (Some f) = if is_live f then Some f else None

-- one that was found, where it has an id
abbrev pub found_with : ℕ → Option Facts → Option Facts
found_with cid None = None
found_with cid (Some f) = if has_id cid f then Some f else None

-- the place of one that was found, and none where nothing was
abbrev pub StandsAt : List Facts → Option Facts → Option ℕ → Type 0
StandsAt fs (Some f) (Some place) = slice_get fs place ≡ Some f
StandsAt fs (Some f) None = ⊥
StandsAt fs None (Some place) = ⊥
StandsAt fs None None = Unit {0}
