-- Segments of the multiplexer (Ouroboros network specification), and the cut of a stream into them.
use Rattle.std.specs.Prelude.{◌≡◌, ℕ, zero, suc, ◌+◌, ◌*◌, ◌/◌, ◌%◌, ◌^◌, ◌≤◌, ◌<◌, nat_lt, List, [], ◌∷◌, ◌++◌, length, take, drop, All, Option, Some, None, if◌then◌else◌}
use Rattle.std.specs.List.{flat_map}
use Rattle.std.specs.Int.{w16, w32, to_be_bytes, from_be_bytes}
use Rattle.mux_segment.specs.declared.header.Header.{Header}

pub record FitsHeader (h : Header) : Type 0 where
  pub time : h.time < 2 ^ 32
  pub side : h.side ≤ 1
  pub id : h.id < 2 ^ 15
  pub size : h.size < 2 ^ 16

-- four bytes of time, one bit of side and 15 of protocol number, two bytes of size, the greatest byte first
abbrev pub header_bytes : Header → List ℕ
header_bytes h = to_be_bytes w32 h.time ++ to_be_bytes w16 (h.side * 2 ^ 15 + h.id) ++ to_be_bytes w16 h.size

-- the header that eight bytes are
abbrev pub header_of : List ℕ → Header
header_of bytes = let word = from_be_bytes w16 (drop 4 bytes) in record {
  time = from_be_bytes w32 bytes;
  side = word / 2 ^ 15;
  id = word % 2 ^ 15;
  size = from_be_bytes w16 (drop 6 bytes);
}

-- a header and its payload
pub record Segment : Type 0 where
  pub header : Header
  pub payload : List ℕ

pub record IsSegment (s : Segment) : Type 0 where
  pub fits : FitsHeader s.header
  pub size : length s.payload ≡ s.header.size

abbrev pub segment_bytes : Segment → List ℕ
segment_bytes s = header_bytes s.header ++ s.payload

-- The bytes are the segments, one behind the other, and then the rest, which begins with no whole segment.
pub record IsCut (bytes : List ℕ) (segments : List Segment) (rest : List ℕ) : Type 0 where
  pub joined : bytes ≡ flat_map segment_bytes segments ++ rest
  pub each : All IsSegment segments
  pub partial : (s : Segment) (after : List ℕ) → IsSegment s → rest ≡ segment_bytes s ++ after → ⊥

-- ---- the cut, read from left to right

-- the segment at the front, and the bytes behind it
unfoldable pub segment_at : List ℕ → Option (Segment × List ℕ)
segment_at bytes = let header = header_of (take 8 bytes) in
    if nat_lt (length bytes) 8 then None
    else (if nat_lt (length bytes) (8 + header.size) then None
    else Some (record { header = header; payload = take header.size (drop 8 bytes) }, drop header.size (drop 8 bytes)))

pub record Cut : Type 0 where
  pub segments : List Segment
  pub rest : List ℕ

abbrev pub cut_at : Option (Segment × List ℕ) → List ℕ → (List ℕ → Cut) → Cut
cut_at None bytes others = record { segments = []; rest = bytes }
cut_at (Some read) bytes others = let c = others read.1 in record { segments = read.0 ∷ c.segments; rest = c.rest }

-- at most so many segments
unfoldable pub cut_within : ℕ → List ℕ → Cut
cut_within zero bytes = record { segments = []; rest = bytes }
cut_within (suc n) bytes = cut_at (segment_at bytes) bytes (cut_within n)

-- each segment takes eight bytes at least
unfoldable pub cut_of : List ℕ → Cut
cut_of bytes = cut_within (length bytes) bytes
