-- What waits to be sent, and what of it went out.
use Rattle.std.specs.Prelude.{◌≡◌, ℕ, min, List, [], ◌∷◌, ◌++◌, length, take, drop}

-- what is left once so many bytes went out, or all
abbrev pub gone_by : List ℕ → ℕ → List ℕ
gone_by out count = drop (min count (length out)) out

-- and what went out then
abbrev pub went_of : List ℕ → ℕ → List ℕ
went_of out count = take (min count (length out)) out

-- what may happen to it: bytes are put behind the others, or the first so many go out
pub data Writing : Type 0 where
  Put : (bytes : List ℕ) → Writing
  Went : (count : ℕ) → Writing

abbrev pub after_writing : List ℕ → Writing → List ℕ
after_writing out (Put bytes) = out ++ bytes
after_writing out (Went count) = gone_by out count

abbrev pub went_by : List ℕ → Writing → List ℕ
went_by out (Put bytes) = []
went_by out (Went count) = went_of out count

abbrev pub put_by : Writing → List ℕ
put_by (Put bytes) = bytes
put_by (Went count) = []

-- all that went out, all that was put, and what waits in the end
abbrev pub written : List Writing → List ℕ → List ℕ
written [] out = []
written (writing ∷ rest) out = went_by out writing ++ written rest (after_writing out writing)

abbrev pub put : List Writing → List ℕ
put [] = []
put (writing ∷ rest) = put_by writing ++ put rest

abbrev pub left : List Writing → List ℕ → List ℕ
left [] out = out
left (writing ∷ rest) out = left rest (after_writing out writing)

-- What went out, with what waits behind it, is what waited at first and all that was put since, in its order: so it is a
-- front of that, and nothing is lost, doubled or passed by.
abbrev pub KeepsOrder : Type 0
KeepsOrder = (writings : List Writing) (out : List ℕ) → written writings out ++ left writings out ≡ out ++ put writings
