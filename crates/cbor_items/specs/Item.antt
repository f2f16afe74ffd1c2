-- The grammar of well-formed items: RFC 8949, sections 3.1 and 3.2. Heads have any width, the bytes of a text
-- may be no UTF-8, and a float is a head with 2, 4 or 8 bytes of argument.
use Rattle.std.specs.Prelude.{◌≡◌, ℕ, zero, suc, ◌<◌, Bool, true, false, ◌||◌, not, ◌==◌, List, [], ◌∷◌, ◌++◌, length, All, IsTrue, ◌⊎◌}
use Rattle.cbor_items.specs.declared.head.Head.{Head}
use Rattle.cbor_items.specs.Head.{IsHead}

-- a first thing, and a second one behind it
pub record IsPair (First Second : List ℕ → Type 0) (bytes : List ℕ) : Type 0 where
  pub first : List ℕ
  pub second : List ℕ
  pub joined : bytes ≡ first ++ second
  pub is_first : First first
  pub is_second : Second second

-- so many things, one behind the other
abbrev pub IsRow : (List ℕ → Type 0) → ℕ → List ℕ → Type 0
IsRow Thing zero bytes = bytes ≡ []
IsRow Thing (suc n) bytes = IsPair Thing (IsRow Thing n) bytes

-- a thing for each element of a list, one behind the other
abbrev pub AreInTurn : {X : Type 0} → (X → List ℕ → Type 0) → List X → List ℕ → Type 0
AreInTurn Thing [] bytes = bytes ≡ []
AreInTurn Thing (x ∷ xs) bytes = IsPair (Thing x) (AreInTurn Thing xs) bytes

-- any number of things, and a break behind them
pub record IsRowToBreak (Thing : List ℕ → Type 0) (bytes : List ℕ) : Type 0 where
  pub count : ℕ
  pub things : List ℕ
  pub joined : bytes ≡ things ++ 0xff ∷ []
  pub is_row : IsRow Thing count things

-- strings of bytes and of text
abbrev pub is_string : ℕ → Bool
is_string major = major == 2 || major == 3

-- arrays, maps and tags
abbrev pub holds_items : ℕ → Bool
holds_items major = major == 4 || major == 5 || major == 6

-- The others, which are integers, simple values and floats, are a head alone.
abbrev pub stands_alone : ℕ → Bool
stands_alone major = not (is_string major || holds_items major)

-- a string of a length, of a major type
pub record IsString (major : ℕ) (bytes : List ℕ) : Type 0 where
  pub head : Head
  pub spelled : List ℕ
  pub content : List ℕ
  pub joined : bytes ≡ spelled ++ content
  pub is_head : IsHead head spelled
  pub is_major : head.major ≡ major
  pub definite : head.indefinite ≡ false
  pub is_content : length content ≡ head.value

-- an item that holds no other item
pub data IsFlat : List ℕ → Type 0 where
  alone : {head : Head} {spelled : List ℕ} → IsHead head spelled → IsTrue (stands_alone head.major)
      → head.indefinite ≡ false → IsFlat spelled
  string : {major : ℕ} {bytes : List ℕ} → IsTrue (is_string major) → IsString major bytes → IsFlat bytes
  chunks : {head : Head} (spelled content : List ℕ) → IsHead head spelled → IsTrue (is_string head.major)
      → head.indefinite ≡ true → IsRowToBreak (IsString head.major) content → IsFlat (spelled ++ content)

-- an array, a map or a tag around items
pub data IsNested (Item : List ℕ → Type 0) : List ℕ → Type 0 where
  array : {head : Head} (spelled content : List ℕ) → IsHead head spelled → head.major ≡ 4
      → head.indefinite ≡ false → IsRow Item head.value content → IsNested Item (spelled ++ content)
  open_array : {head : Head} (spelled content : List ℕ) → IsHead head spelled → head.major ≡ 4
      → head.indefinite ≡ true → IsRowToBreak Item content → IsNested Item (spelled ++ content)
  map : {head : Head} (spelled content : List ℕ) → IsHead head spelled → head.major ≡ 5
      → head.indefinite ≡ false → IsRow (IsPair Item Item) head.value content → IsNested Item (spelled ++ content)
  open_map : {head : Head} (spelled content : List ℕ) → IsHead head spelled → head.major ≡ 5
      → head.indefinite ≡ true → IsRowToBreak (IsPair Item Item) content → IsNested Item (spelled ++ content)
  tag : {head : Head} (spelled content : List ℕ) → IsHead head spelled → head.major ≡ 6
      → Item content → IsNested Item (spelled ++ content)

-- an item with at most so many arrays, maps and tags inside each other
unfoldable pub IsItem : ℕ → List ℕ → Type 0
IsItem zero bytes = IsFlat bytes
IsItem (suc depth) bytes = IsFlat bytes ⊎ IsNested (IsItem depth) bytes

-- how many arrays, maps and tags may stand inside each other: this project's own limit
abbrev pub level_limit : ℕ
level_limit = 64

abbrev pub AreBytes : List ℕ → Type 0
AreBytes bytes = All (λ byte. byte < 256) bytes

-- the bytes begin a thing: with some bytes behind them, or with none, they are one
pub record Begins (Thing : List ℕ → Type 0) (bytes : List ℕ) : Type 0 where
  pub missing : List ℕ
  pub are_bytes : AreBytes missing
  pub is : Thing (bytes ++ missing)
