-- Where the scan of an item that comes in pieces stands.
use Rattle.std.specs.Prelude.{◌≡◌, ℕ, ◌≤◌, List, ◌++◌, length, drop}
use Rattle.cbor_items.specs.declared.level.Level.{Level}
use Rattle.cbor_items.specs.Item.{level_limit}
use Rattle.cbor_items.specs.Scan.{skip_item}
use Rattle.cbor_items.specs.Level.{skip_open}

-- how many bytes were passed over, and the levels that are open behind them, the innermost first
pub record Place : Type 0 where
  pub passed : ℕ
  pub levels : List Level

-- The place was reached in these bytes: whatever follows them, the scan from the front is what is still to come at the place.
pub record HasSeen (place : Place) (bytes : List ℕ) : Type 0 where
  pub within : place.passed ≤ length bytes
  pub goes_on : (more : List ℕ) → skip_item level_limit (bytes ++ more) ≡ skip_open place.levels (drop place.passed (bytes ++ more))
