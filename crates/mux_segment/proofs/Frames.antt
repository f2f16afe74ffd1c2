-- A payload that is written is cut into its segments again.
use Rattle.std.proofs.Common.{◌≡◌, ℕ, zero, suc, ◌*◌, ◌^◌, ◌≤◌, ◌<◌, List, [], ◌∷◌, length, take, drop, refl, sym, ap, arith, lit<}
use Rattle.std.specs.Prelude.{All}
use Rattle.std.specs.List.{flat_map}
use Rattle.std.proofs.lemmas.Nat.{mod_below}
use Rattle.std.proofs.lemmas.List.{append-nil, length-take}
use Rattle.std.proofs.lemmas.List.Elements.{All-nil, All-cons, All-weaker, All-map}
use Rattle.mux_segment.specs.Segment.{IsSegment, segment_bytes, cut_of}
use Rattle.mux_segment.specs.Frame.{payload_limit, pieces_within, pieces_of, time_of, segment_of, segments_of, frame_of}
use Rattle.mux_segment.proofs.Cuts.{cut_only}

abbrev Small : List ℕ → Type 0
Small piece = length piece ≤ payload_limit

small_within : (n : ℕ) (payload : List ℕ) → All Small (pieces_within n payload)
unfolding pieces_within
small_within zero payload = All-nil Small
small_within (suc n) [] = All-nil Small
small_within (suc n) (byte ∷ bytes) =
    All-cons Small (take payload_limit (byte ∷ bytes)) (pieces_within n (drop payload_limit (byte ∷ bytes)))
    (omega (arith, length-take payload_limit (byte ∷ bytes))) (small_within n (drop payload_limit (byte ∷ bytes)))

small_pieces : (payload : List ℕ) → All Small (pieces_of payload)
unfolding pieces_of
small_pieces payload =
    All-cons Small (take payload_limit payload) (pieces_within (length payload) (drop payload_limit payload))
    (omega (arith, length-take payload_limit payload)) (small_within (length payload) (drop payload_limit payload))

module _ (side id now : ℕ) (side_fits : side ≤ 1) (id_fits : id < 2 ^ 15) where
  is_segment : (piece : List ℕ) → Small piece → IsSegment (segment_of side id (time_of now) piece)
  is_segment piece small = record {
    fits = record { time = mod_below (now * 1000) (2 ^ 32) (lit< tt); side = side_fits; id = id_fits; size = omega arith };
    size = refl;
  }

  each_segment : (payload : List ℕ) → All IsSegment (segments_of side id now payload)
  each_segment payload =
      All-map IsSegment (segment_of side id (time_of now)) (pieces_of payload)
      (All-weaker Small (λ piece. IsSegment (segment_of side id (time_of now) piece)) is_segment (pieces_of payload) (small_pieces payload))

  pub framed_cut : (payload : List ℕ) → cut_of (frame_of side id now payload) ≡ record { segments = segments_of side id now payload; rest = [] }
  unfolding frame_of
  framed_cut payload =
      cut_only (segments_of side id now payload) (frame_of side id now payload) [] (λ i. lit< tt) (record {
        joined = sym (append-nil (flat_map segment_bytes (segments_of side id now payload)));
        each = each_segment payload;
        partial = λ s after is e. absurd (omega (arith, ap length e));
      })
