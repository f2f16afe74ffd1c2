-- The first number of an item.
use Rattle.std.specs.Prelude.{ℕ, suc, ◌-◌, List, option_map, Option, None, if◌then◌else◌}
use Rattle.cbor_items.specs.Definite.{IsNumber}
use Rattle.cbor_items.specs.Front.{◌>>=◌, number_at}
use Rattle.cbor_items.specs.Item.{IsPair, IsRow, IsItem, level_limit}
use Rattle.cbor_items.specs.Scan.{is_one_item}
use Rattle.warm_messages.specs.Array.{IsArray}
use Rattle.warm_messages.specs.Reading.{opening_at}

-- an array whose first element is the unsigned number, and whose others are items
pub record HasFirstNumber (n : ℕ) (bytes : List ℕ) : Type 0 where
  pub others : ℕ
  pub is : IsArray (suc others) (IsPair (IsNumber n) (IsRow (IsItem (level_limit - 1)) others)) bytes

-- The first element of an item, where it is an array and that element an unsigned number. What stands behind that number
-- is not looked at: of bytes that are no item it says nothing.
unfoldable pub item_number_of : List ℕ → Option ℕ
item_number_of bytes = opening_at bytes >>= λ opened. option_map (λ read. read.0) (number_at opened.1)

-- the first element of the item that the bytes are, where they are one
unfoldable pub first_number_of : List ℕ → Option ℕ
first_number_of bytes = if is_one_item bytes then item_number_of bytes else None
