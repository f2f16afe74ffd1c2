-- Laws on items and heads, whatever function reads or writes them.
use Rattle.std.specs.Prelude.{◌≡◌, ℕ, ◌≤◌, ◌<◌, ◌^◌, false, List, [], ◌++◌, length, Some}
use Rattle.cbor_items.specs.declared.head.Head.{Head}
use Rattle.cbor_items.specs.Head.{IsHead, head_at, shortest_head, written_head}
use Rattle.cbor_items.specs.Item.{AreBytes, IsItem}
use Rattle.cbor_items.specs.Resume.{Place, HasSeen}

-- no item is a proper prefix of another, whatever their depths
abbrev pub ArePrefixFree : Type 0
ArePrefixFree = (d e : ℕ) (item more : List ℕ) → IsItem d item → IsItem e (item ++ more) → more ≡ []

-- an item of some depth is one of every greater depth
abbrev pub AreNested : Type 0
AreNested = (d e : ℕ) (item : List ℕ) → d ≤ e → IsItem d item → IsItem e item

-- what can be written as the shortest head
pub record CanWrite (major value : ℕ) : Type 0 where
  pub major_fits : major ≤ 7
  pub simple_fits : major ≡ 7 → value < 24
  pub value_fits : value < 2 ^ 64

-- the shortest head is a head of its major type and value, and is read again whatever follows it
abbrev pub AreReadAgain : Type 0
AreReadAgain = (major value : ℕ) (rest : List ℕ) → CanWrite major value
    → IsHead (written_head major value) (shortest_head major value)
    × (head_at (shortest_head major value ++ rest) ≡ Some (written_head major value))

-- no head with its major type and value has fewer bytes
abbrev pub AreShortest : Type 0
AreShortest = (head : Head) (bytes : List ℕ) → AreBytes bytes → IsHead head bytes → head.indefinite ≡ false
    → length (shortest_head head.major head.value) ≤ length bytes

-- A place that was reached in some bytes is reached where more of them came, so that a scan goes on from it.
abbrev pub StayReached : Type 0
StayReached = (place : Place) (bytes more : List ℕ) → HasSeen place bytes → HasSeen place (bytes ++ more)
