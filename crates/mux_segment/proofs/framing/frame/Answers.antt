use Rattle.std.proofs.Common.{◌++◌, ℕ, List, sym, ap, ◌∙◌}
use Rattle.std.proofs.lemmas.Bool.{eqb-true, eqb-false}
use Rattle.mux_segment.specs.Segment.{segment_bytes}
use Rattle.mux_segment.specs.Frame.{segment_of, pieces_of}
use Rattle.mux_segment.proofs.Pieces.{spelled, frame_starts, frame_goes_on, frame_smaller, frame_ends, frame_is}
use Rattle.mux_segment.proofs.framing.frame.Goals as goal

pub loop-rest-init : goal.loop-rest-init
loop-rest-init c =
    let piece = c.split_piece.result.0.now in
    frame_starts c.args.side c.args.id c.time_of-time.result c.args.payload.now c.push_segment.new.out piece c.split_piece.result.1.now
    c.split_piece.ensures.piece c.split_piece.ensures.rest
    (c.in_ok-push_segment.ensures ∙ ap (λ (x : List ℕ). x ++ segment_bytes (segment_of c.args.side c.args.id c.time_of-time.result piece)) (c.from_vec-out.ensures ∙ c.in_ok-room.ensures.items))

pub loop-rest-smaller : goal.loop-rest-smaller
loop-rest-smaller c =
    frame_smaller c.args.side c.args.id c.time_of-time.result c.loop-rest.rest.now c.split_piece-in-loop-rest.result.1.now
    (eqb-false _ _ (sym c.loop-rest-test.ensures)) c.split_piece-in-loop-rest.ensures.rest

pub loop-rest-preserved : goal.loop-rest-preserved
loop-rest-preserved c =
    frame_goes_on c.args.side c.args.id c.time_of-time.result _ c.loop-rest.out c.push_segment-in-loop-rest.new.out c.loop-rest.rest.now
    c.split_piece-in-loop-rest.result.0.now c.split_piece-in-loop-rest.result.1.now
    (eqb-false _ _ (sym c.loop-rest-test.ensures)) c.split_piece-in-loop-rest.ensures.piece c.split_piece-in-loop-rest.ensures.rest
    c.in_ok-push_segment-2.ensures c.loop-rest.invariant

pub returns : goal.returns
returns c =
    let side = c.args.side in
    let id = c.args.id in
    let payload = c.args.payload.now in
    frame_ends side id c.time_of-time.result _ c.loop-rest.out c.loop-rest.rest.now (eqb-true _ _ (sym c.loop-rest-test.ensures)) c.loop-rest.invariant
    ∙ ap (λ (t : ℕ). spelled side id t (pieces_of payload)) c.time_of-time.ensures
    ∙ sym (frame_is side id c.args.now payload)
