-- Reading from left to right: what stands at the front of the bytes, and the bytes behind it. None where nothing of
-- the kind stands there.
use Rattle.std.specs.Prelude.{◌≡◌, ℕ, ◌&&◌, not, ◌==◌, List, length, drop, Option, Some, None, Result, Ok, Err, if◌then◌else◌}
use Rattle.cbor_items.specs.declared.head.Head.{Head}
use Rattle.cbor_items.specs.Head.{head_at}

abbrev pub Reader : Type 0 → Type 0
Reader X = List ℕ → Option (X × List ℕ)

-- one reading and another behind it
infixl 10 ◌>>=◌
abbrev pub ◌>>=◌ : {A B : Type 0} → Option A → (A → Option B) → Option B
(Some x) >>= f = f x
None >>= f = None

-- What a function returned, seen by `view`, is what reading finds. What an error says of the reading is an argument, `Says`.
abbrev pub FindsBy : {X Y E : Type 0} → (E → Option Y → Type 0) → (X → Y) → Result X E → Option Y → Type 0
FindsBy Says view (Ok x) read = read ≡ Some (view x)
FindsBy Says view (Err e) read = Says e read

-- the same where each error says that nothing is found
abbrev pub Finds : {X Y E : Type 0} → (X → Y) → Result X E → Option Y → Type 0
Finds view result read = FindsBy (λ e found. found ≡ None) view result read

-- what was read where nothing is left behind it
abbrev pub whole : {X : Type 0} → Option (X × List ℕ) → Option X
whole None = None
whole (Some read) = if length read.1 == 0 then Some read.0 else None

abbrev pub any_head_at : Reader Head
any_head_at bytes = head_at bytes >>= λ head. Some (head, drop head.size bytes)

-- the value of a definite head of a major type
unfoldable pub definite_at : ℕ → Reader ℕ
definite_at major bytes = do
  read ← any_head_at bytes
  if read.0.major == major && not read.0.indefinite then Some (read.0.value, read.1) else None

-- an unsigned number
abbrev pub number_at : Reader ℕ
number_at bytes = definite_at 0 bytes
