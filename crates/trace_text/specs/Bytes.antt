-- How bytes are printed that come and go.
use Rattle.std.specs.Prelude.{ℕ, List, [], ◌∷◌, decimal}
use Rattle.hex.specs.Hex.{encode_lower}

-- a name, an id, and the bytes in hexadecimal
abbrev pub bytes_words : List ℕ → ℕ → List ℕ → List (List ℕ)
bytes_words name id bytes = name ∷ decimal id ∷ encode_lower bytes ∷ []
