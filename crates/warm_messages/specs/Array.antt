-- Arrays of CBOR (RFC 8949, section 3), whose heads have any width and whose length is definite or not.
use Rattle.std.specs.Prelude.{◌≡◌, ℕ, List, [], ◌∷◌, ◌++◌, length, MatchBool}
use Rattle.cbor_items.specs.declared.head.Head.{Head}
use Rattle.cbor_items.specs.Head.{IsHead}
use Rattle.cbor_items.specs.Definite.{IsNumber}
use Rattle.cbor_items.specs.Item.{AreInTurn}

-- what stands behind so many elements: a break, or nothing where the head told their number
abbrev pub EndsArray : Head → ℕ → List ℕ → Type 0
EndsArray head count ending = MatchBool head.indefinite (ending ≡ 0xff ∷ []) ((ending ≡ []) × (head.value ≡ count))

-- an array of so many elements
pub record IsArray (count : ℕ) (Content : List ℕ → Type 0) (bytes : List ℕ) : Type 0 where
  pub head : Head
  pub spelled : List ℕ
  pub content : List ℕ
  pub ending : List ℕ
  pub joined : bytes ≡ spelled ++ (content ++ ending)
  pub is_head : IsHead head spelled
  pub array : head.major ≡ 4
  pub is_content : Content content
  pub ends : EndsArray head count ending

-- an array of unsigned numbers
abbrev pub IsNumbers : List ℕ → List ℕ → Type 0
IsNumbers numbers bytes = IsArray (length numbers) (AreInTurn IsNumber numbers) bytes
