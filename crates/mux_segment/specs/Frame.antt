-- Segments as they are written.
use Rattle.std.specs.Prelude.{◌≡◌, ℕ, zero, suc, ◌*◌, ◌%◌, ◌^◌, ◌≤◌, List, [], ◌∷◌, length, take, drop, map}
use Rattle.std.specs.List.{flat_map, concat}
use Rattle.mux_segment.specs.Segment.{Segment, segment_bytes}

-- how many bytes of payload a written segment has at most: this project's own
abbrev pub payload_limit : ℕ
payload_limit = 12288

-- pieces that are full but for the last, at most so many
unfoldable pub pieces_within : ℕ → List ℕ → List (List ℕ)
pieces_within zero payload = []
pieces_within (suc n) [] = []
pieces_within (suc n) (byte ∷ bytes) =
    take payload_limit (byte ∷ bytes) ∷ pieces_within n (drop payload_limit (byte ∷ bytes))

-- a first piece, which is empty where the payload is, and the others
unfoldable pub pieces_of : List ℕ → List (List ℕ)
pieces_of payload = take payload_limit payload ∷ pieces_within (length payload) (drop payload_limit payload)

-- the low 32 bits of microseconds
abbrev pub time_of : ℕ → ℕ
time_of now = now * 1000 % 2 ^ 32

abbrev pub segment_of : ℕ → ℕ → ℕ → List ℕ → Segment
segment_of side id time payload = record {
  header = record { time = time; side = side; id = id; size = length payload };
  payload = payload;
}

abbrev pub segments_of : ℕ → ℕ → ℕ → List ℕ → List Segment
segments_of side id now payload = map (segment_of side id (time_of now)) (pieces_of payload)

unfoldable pub frame_of : ℕ → ℕ → ℕ → List ℕ → List ℕ
frame_of side id now payload = flat_map segment_bytes (segments_of side id now payload)

-- ---- what the pieces are

-- full pieces, and then one of at least one byte
abbrev pub AreFullButLast : List (List ℕ) → Type 0
AreFullButLast [] = ⊥
AreFullButLast (piece ∷ []) = (1 ≤ length piece) × (length piece ≤ payload_limit)
AreFullButLast (piece ∷ next ∷ pieces) = (length piece ≡ payload_limit) × AreFullButLast (next ∷ pieces)

-- the pieces of a payload: of one that is empty there is one
abbrev pub ArePieces : List ℕ → List (List ℕ) → Type 0
ArePieces [] pieces = pieces ≡ [] ∷ []
ArePieces (byte ∷ bytes) pieces = (concat pieces ≡ byte ∷ bytes) × AreFullButLast pieces
