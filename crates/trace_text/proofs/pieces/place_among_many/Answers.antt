use Rattle.std.proofs.Common.{◌≡◌, ◌==◌, take, drop, Some, None, ap, sym, ◌∙◌, rules}
use Rattle.std.specs.Prelude.{position}
use Rattle.trace_text.proofs.Places.{place_in_front, place_behind, place_nowhere}
use Rattle.trace_text.proofs.pieces.place_among_many.Goals as goal

pub returns-in-Some-clause-value : goal.returns-in-Some-clause-value
returns-in-Some-clause-value c =
    let near : position (λ b. b == c.args.separator) (take 16 c.args.bytes.now) ≡ Some c.in-Some.place = search rules in
    sym (place_in_front (λ b. b == c.args.separator) 16 c.in-Some.place c.args.bytes.now near)

pub returns-in_ok-place_far-in-None-clause-value : goal.returns-in_ok-place_far-in-None-clause-value
returns-in_ok-place_far-in-None-clause-value c =
    let near : position (λ b. b == c.args.separator) (take 16 c.args.bytes.now) ≡ None = search rules in
    let far : position (λ b. b == c.args.separator) (drop 16 c.args.bytes.now) ≡ Some c.in_ok-place_far-in-None.field-0 = search rules in
    sym (place_behind (λ b. b == c.args.separator) 16 c.in_ok-place_far-in-None.field-0 c.args.bytes.now c.requires near far)

pub returns-in_err-place_far-in-None-clause-value : goal.returns-in_err-place_far-in-None-clause-value
returns-in_err-place_far-in-None-clause-value c =
    let near : position (λ b. b == c.args.separator) (take 16 c.args.bytes.now) ≡ None = search rules in
    let far : position (λ b. b == c.args.separator) (drop 16 c.args.bytes.now) ≡ None = search rules in
    c.from_residual.ensures ∙ sym (place_nowhere (λ b. b == c.args.separator) 16 c.args.bytes.now near far)
