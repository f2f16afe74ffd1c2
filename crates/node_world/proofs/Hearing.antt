-- What the town hears of what a node writes.
use Rattle.std.proofs.Common.{◌≡◌, ℕ, zero, suc, ◌+◌, ◌*◌, ◌≤◌, ◌^◌, List, [], ◌∷◌, ◌++◌, length, take, drop, refl, ap, ◌∙◌, arith, lit<, Option, Some, None, ◌==◌, if◌then◌else◌}
use Rattle.std.proofs.lemmas.Bool.{eq-eqb}
use Rattle.std.proofs.lemmas.Nat.{mod_below}
use Rattle.std.proofs.lemmas.List.{append-nil, take_all, drop_all}
use Rattle.cbor_items.specs.Head.{shortest_head}
use Rattle.mux_segment.specs.declared.header.Header.{Header}
use Rattle.mux_segment.specs.Segment.{Segment, FitsHeader, header_of, header_bytes, segment_bytes}
use Rattle.mux_segment.specs.Frame.{payload_limit, pieces_within, pieces_of, time_of, segment_of, frame_of}
use Rattle.mux_segment.proofs.Headers.{header_again}
use Rattle.node_world.specs.Segments.{heard}
use Rattle.node_world.specs.Law.{HearsFrames, SpeaksMessages}

no_more : (n : ℕ) → pieces_within n [] ≡ []
unfolding pieces_within
no_more zero = refl
no_more (suc n) = refl

one_piece : (payload : List ℕ) → length payload ≤ payload_limit → pieces_of payload ≡ payload ∷ []
unfolding pieces_of
one_piece payload short =
    rw (take_all payload_limit payload short, drop_all payload_limit payload short, no_more (length payload)) refl

one_segment : (side id now : ℕ) (payload : List ℕ) → length payload ≤ payload_limit
    → frame_of side id now payload ≡ segment_bytes (segment_of side id (time_of now) payload)
unfolding frame_of
one_segment side id now payload short =
    rw (one_piece payload short) (append-nil (segment_bytes (segment_of side id (time_of now) payload)))

abbrev one_where : Header → List ℕ → ℕ → Option Segment
one_where header payload size = if 8 + header.size == size then Some (record { header = header; payload = payload }) else None

one_there : (header : Header) (payload : List ℕ) → one_where header payload (8 + header.size) ≡ Some (record { header = header; payload = payload })
one_there header payload = rw (eq-eqb (8 + header.size) (8 + header.size) refl) refl

heard_when : (bytes payload : List ℕ) (header : Header) → header_of (take 8 bytes) ≡ header → drop 8 bytes ≡ payload → length bytes ≡ 8 + header.size
    → heard bytes ≡ Some (record { header = header; payload = payload })
heard_when bytes payload header front rest len =
    ap (λ h. one_where h (drop 8 bytes) (length bytes)) front
    ∙ ap (λ p. one_where header p (length bytes)) rest
    ∙ ap (one_where header payload) len
    ∙ one_there header payload

hears_segment : (header : Header) (payload : List ℕ) → FitsHeader header → header.size ≡ length payload
    → heard (header_bytes header ++ payload) ≡ Some (record { header = header; payload = payload })
hears_segment header payload fits size =
    heard_when (header_bytes header ++ payload) payload header (header_again header [] fits) refl (omega arith)

pub hears_frames : HearsFrames
hears_frames side id now payload side_fits id_fits short =
    rw (one_segment side id now payload short) (hears_segment (segment_of side id (time_of now) payload).header payload
    (record { time = mod_below (now * 1000) (2 ^ 32) (lit< tt); side = side_fits; id = id_fits; size = omega arith }) refl)

pub speaks_messages : SpeaksMessages
unfolding shortest_head
speaks_messages = record { five = refl; done = refl; asked = λ cookie. refl; replied = λ cookie. refl; requested = λ number. refl }
