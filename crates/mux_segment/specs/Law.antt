-- Laws on segments, items and streams, whatever function cuts or writes them.
use Rattle.std.specs.Prelude.{◌≡◌, ℕ, ◌≤◌, ◌<◌, ◌^◌, IsTrue, List, [], ◌∷◌, length, Option, None}
use Rattle.std.specs.List.{concat}
use Rattle.cbor_items.specs.Item.{AreBytes}
use Rattle.net_base.specs.Shared.{Part}
use Rattle.mux_segment.specs.declared.header.Header.{Header}
use Rattle.mux_segment.specs.declared.fault.CutFault.{CutFault}
use Rattle.mux_segment.specs.Segment.{FitsHeader, header_bytes, header_of, Segment, IsCut, cut_of}
use Rattle.mux_segment.specs.Protocols.{Limits}
use Rattle.mux_segment.specs.Items.{taken_of, AreItems}
use Rattle.mux_segment.specs.Parts.{comes_before}
use Rattle.mux_segment.specs.Stream.{decoded, FedBy, CutterState, nothing_fed, state_after, fed_by, fed_all}
use Rattle.mux_segment.specs.Frame.{pieces_of, ArePieces, segments_of, frame_of}

-- eight bytes are those of their header, and a header is that of its eight bytes
pub record AreInverse : Type 0 where
  pub written : (bytes : List ℕ) → AreBytes bytes → length bytes ≡ 8 → header_bytes (header_of bytes) ≡ bytes
  pub read : (header : Header) → FitsHeader header → header_of (header_bytes header) ≡ header

-- every stream is cut in one way
pub record AreCut : Type 0 where
  pub some : (bytes : List ℕ) → AreBytes bytes → IsCut bytes (cut_of bytes).segments (cut_of bytes).rest
  pub only : (bytes rest : List ℕ) (segments : List Segment) → AreBytes bytes → IsCut bytes segments rest
      → cut_of bytes ≡ record { segments = segments; rest = rest }

-- what comes of the segments and the rest of a stream
abbrev pub of_segments : Limits → List Segment → List ℕ → FedBy
of_segments limits segments rest =
    let d = decoded limits [] segments in record { state = state_after d.fault rest d.parts; items = d.items }

-- What comes of a stream that is fed in pieces is what comes of the segments into which it is cut as a whole.
abbrev pub AreFed : Type 0
AreFed = (limits : Limits) (pieces : List (List ℕ)) (segments : List Segment) (rest : List ℕ) → AreBytes (concat pieces)
    → IsCut (concat pieces) segments rest → fed_all limits nothing_fed pieces ≡ of_segments limits segments rest

-- the items that are taken off a part are those that the grammar says, and no others are
pub record AreTaken : Type 0 where
  pub some : (limit : ℕ) (part : List ℕ) → let t = taken_of limit part in
      (behind : List ℕ) × AreItems limit part t.bodies behind t.fault × (t.fault ≡ None → behind ≡ t.left)
  pub only : (limit : ℕ) (part : List ℕ) (bodies : List (List ℕ)) (behind : List ℕ) (fault : Option CutFault)
      → AreItems limit part bodies behind fault → ((taken_of limit part).bodies ≡ bodies) × ((taken_of limit part).fault ≡ fault)

-- each part comes before the next one, and none is empty
abbrev pub ComesFirst : Part → List Part → Type 0
ComesFirst part [] = Unit {0}
ComesFirst part (next ∷ parts) = IsTrue (comes_before next.side next.protocol part)

abbrev pub AreInOrder : List Part → Type 0
AreInOrder [] = Unit {0}
AreInOrder (part ∷ parts) = (0 < length part.bytes) × ComesFirst part parts × AreInOrder parts

abbrev pub StayInOrder : Type 0
StayInOrder = (limits : Limits) (state : CutterState) (bytes : List ℕ) → AreInOrder state.undecoded.parts
    → AreInOrder (fed_by limits state bytes).state.undecoded.parts

-- What is written is cut into its segments again, of which the payloads are the pieces of the payload.
pub record AreFramed : Type 0 where
  pub cut : (side id now : ℕ) (payload : List ℕ) → side ≤ 1 → id < 2 ^ 15
      → cut_of (frame_of side id now payload) ≡ record { segments = segments_of side id now payload; rest = [] }
  pub pieces : (payload : List ℕ) → ArePieces payload (pieces_of payload)
