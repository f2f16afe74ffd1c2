-- Heads that tell a value or a length, and numbers. Each is the whole of the bytes. A head may have any width.
use Rattle.std.specs.Prelude.{◌≡◌, ℕ, false, List}
use Rattle.cbor_items.specs.declared.head.Head.{Head}
use Rattle.cbor_items.specs.Head.{IsHead}

-- a head of a major type that tells a value or a length
pub record IsDefinite (major value : ℕ) (bytes : List ℕ) : Type 0 where
  pub head : Head
  pub is_head : IsHead head bytes
  pub is_major : head.major ≡ major
  pub definite : head.indefinite ≡ false
  pub is_value : head.value ≡ value

-- an unsigned number
abbrev pub IsNumber : ℕ → List ℕ → Type 0
IsNumber n bytes = IsDefinite 0 n bytes
