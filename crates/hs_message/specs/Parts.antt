-- The parts of a message, as items of CBOR (RFC 8949, section 3). Each is the whole of the bytes. A head may have
-- any width.
use Rattle.std.specs.Prelude.{◌≡◌, ℕ, Bool, true, false, List, [], ◌∷◌, length}
use Rattle.cbor_items.specs.declared.head.Head.{Head}
use Rattle.cbor_items.specs.Head.{IsHead}
use Rattle.cbor_items.specs.Definite.{IsDefinite}
use Rattle.cbor_items.specs.Item.{IsPair}

-- a head of a major type that tells no length
pub record IsIndefinite (major : ℕ) (bytes : List ℕ) : Type 0 where
  pub head : Head
  pub is_head : IsHead head bytes
  pub is_major : head.major ≡ major
  pub indefinite : head.indefinite ≡ true

-- a definite text string. Its bytes need not be UTF-8
abbrev pub IsText : List ℕ → List ℕ → Type 0
IsText text bytes = IsPair (IsDefinite 3 (length text)) (λ content. content ≡ text) bytes

-- a definite array of so many elements, which are these bytes
abbrev pub IsDefiniteArray : ℕ → (List ℕ → Type 0) → List ℕ → Type 0
IsDefiniteArray count Elements bytes = IsPair (IsDefinite 4 count) Elements bytes

-- an array that ends with a break
abbrev pub IsOpenArray : (List ℕ → Type 0) → List ℕ → Type 0
IsOpenArray Elements bytes = IsPair (IsIndefinite 4) (IsPair Elements (λ end. end ≡ 0xff ∷ [])) bytes

-- a definite map of so many entries, which are these bytes
abbrev pub IsMap : ℕ → (List ℕ → Type 0) → List ℕ → Type 0
IsMap count Entries bytes = IsPair (IsDefinite 5 count) Entries bytes

-- the simple values false and true
abbrev pub flag_byte : Bool → ℕ
flag_byte false = 0xf4
flag_byte true = 0xf5

abbrev pub IsFlag : Bool → List ℕ → Type 0
IsFlag flag bytes = bytes ≡ flag_byte flag ∷ []
