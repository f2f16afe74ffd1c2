-- What the answers of the scan mean, by the grammar alone.
use Rattle.std.specs.Prelude.{◌≢◌, ℕ, ◌<◌, ◌≤◌, List, [], ◌++◌, length, take}
use Rattle.cbor_items.specs.declared.scan.Scan.{Scan}
use Rattle.cbor_items.specs.declared.scan.Scan.TheVariants.{Whole, More, Bad, Deep}
use Rattle.cbor_items.specs.Item.{IsItem, level_limit, AreBytes, Begins}

-- the bytes begin an item and are none: something is missing
pub record IsBegun (depth : ℕ) (bytes : List ℕ) : Type 0 where
  pub missing : List ℕ
  pub are_bytes : AreBytes missing
  pub some : missing ≢ []
  pub is_item : IsItem depth (bytes ++ missing)

-- as long as fewer than so many bytes are looked at, they are the beginning of an item
pub record IsOpenBefore (count : ℕ) (bytes : List ℕ) : Type 0 where
  pub within : count ≤ length bytes
  pub shorter : (n : ℕ) → n < count → IsBegun level_limit (take n bytes)

-- so many bytes begin no item, whatever its depth
pub record IsBad (bytes : List ℕ) : Type 0 where
  pub count : ℕ
  pub first : IsOpenBefore count bytes
  pub none : (depth : ℕ) → Begins (IsItem depth) (take count bytes) → ⊥

-- so many bytes begin an item, and none that is within the limit
pub record IsTooDeep (bytes : List ℕ) : Type 0 where
  pub count : ℕ
  pub first : IsOpenBefore count bytes
  pub none : Begins (IsItem level_limit) (take count bytes) → ⊥
  pub depth : ℕ
  pub some : Begins (IsItem depth) (take count bytes)

abbrev pub IsAnswer : List ℕ → Scan → Type 0
IsAnswer bytes (Whole n) = (n ≤ length bytes) × IsItem level_limit (take n bytes)
IsAnswer bytes More = IsBegun level_limit bytes
IsAnswer bytes Bad = IsBad bytes
IsAnswer bytes Deep = IsTooDeep bytes
