-- Parts in order of side and protocol, none of them empty.
use Rattle.std.specs.Prelude.{ℕ, Bool, false, ◌&&◌, ◌||◌, ◌==◌, nat_lt, List, [], length, Option, Some, None, slice_get, insert, remove, if◌then◌else◌}
use Rattle.std.specs.List.{prefix_len}
use Rattle.net_base.specs.Shared.{Part}

abbrev pub comes_before : ℕ → ℕ → Part → Bool
comes_before side id part = nat_lt part.side side || (part.side == side && nat_lt part.protocol id)

-- where the part of a side and protocol stands, or would stand
abbrev pub place_of : ℕ → ℕ → List Part → ℕ
place_of side id parts = prefix_len (comes_before side id) parts

abbrev pub is_of : ℕ → ℕ → Option Part → Bool
is_of side id None = false
is_of side id (Some part) = part.side == side && part.protocol == id

abbrev pub bytes_of : Option Part → List ℕ
bytes_of None = []
bytes_of (Some part) = part.bytes

abbrev pub found_part : ℕ → ℕ → List Part → Option Part
found_part side id parts = slice_get parts (place_of side id parts)

-- the bytes of the part, none where there is no such part
unfoldable pub part_bytes : ℕ → ℕ → List Part → List ℕ
part_bytes side id parts = let found = found_part side id parts in if is_of side id found then bytes_of found else []

-- the parts without that one
unfoldable pub without_part : ℕ → ℕ → List Part → List Part
without_part side id parts =
    if is_of side id (found_part side id parts) then remove parts (place_of side id parts) else parts

-- the parts with these bytes as that one, where they are some
unfoldable pub with_part : ℕ → ℕ → List ℕ → List Part → List Part
with_part side id bytes parts =
    if length bytes == 0 then parts
    else insert parts (place_of side id parts) (record { side = side; protocol = id; bytes = bytes })
