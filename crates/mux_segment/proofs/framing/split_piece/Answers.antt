use Rattle.std.proofs.Common.{ℕ, take, drop, ap, ◌∙◌}
use Rattle.std.proofs.lemmas.List.{take_min, drop_min}
use Rattle.mux_segment.specs.Frame.{payload_limit}
use Rattle.mux_segment.proofs.framing.split_piece.Goals as goal

pub returns-clause-piece : goal.returns-clause-piece
returns-clause-piece c =
    let payload = c.args.payload.now in
    c.split_at.ensures.front ∙ ap (λ (n : ℕ). take n payload) c.min.ensures ∙ take_min payload_limit payload

pub returns-clause-rest : goal.returns-clause-rest
returns-clause-rest c =
    let payload = c.args.payload.now in
    c.split_at.ensures.back ∙ ap (λ (n : ℕ). drop n payload) c.min.ensures ∙ drop_min payload_limit payload
