use Rattle.std.proofs.Common.{◌≡◌, ◌++◌, length, drop, take, ap, sym, ◌∙◌, arith}
use Rattle.std.proofs.lemmas.Bool.Decides.{nat_tests}
use Rattle.std.proofs.lemmas.List.{take-append-drop}
use Rattle.io_edge.proofs.FirstLine.{first_by_feed, first_at_end, not_by, decides, never}
use Rattle.io_edge.proofs.piece_writer.PieceWriter.first_line_is.Goals.{After-split_at}
use Rattle.io_edge.proofs.piece_writer.PieceWriter.first_line_is.Goals as goal

in_front : (c : After-split_at) → c.split_at.result.0.now ≡ take (length c.args.line.now) c.args.self.now
in_front c = c.split_at.ensures.front ∙ ap (take (length c.args.line.now)) c.pending-pending.ensures

cut : (c : After-split_at) → c.args.self.now ≡ c.split_at.result.0.now ++ c.split_at.result.1.now
cut c =
    sym (take-append-drop (length c.args.line.now) c.args.self.now)
    ∙ (ap (λ l. l ++ drop (length c.args.line.now) c.args.self.now) (sym (in_front c))
    ∙ ap (λ l. c.split_at.result.0.now ++ l) (ap (drop (length c.args.line.now)) (sym c.pending-pending.ensures) ∙ sym c.split_at.ensures.back))

pub returns-then-next-eq10 : goal.returns-then-next-eq10
returns-then-next-eq10 c =
    let d = (goal.at.returns-then-next-eq10 c).After-split_at in
    decides c.eq.result c.args.self.now c.args.line.now c.split_at.result.0.now c.eq.ensures (in_front d)
    (first_by_feed c.args.self.now c.args.line.now c.split_at.result.0.now c.split_at.result.1.now c.in-Some.next.now (cut d) c.in-Some.ensures.value
    c.if-next-eq10.true c.requires)

pub returns-else-next-eq10 : goal.returns-else-next-eq10
returns-else-next-eq10 c =
    let d = (goal.at.returns-else-next-eq10 c).After-split_at in
    never c.in-Some.next.now c.if-next-eq10.false
    (not_by c.args.self.now c.args.line.now c.split_at.result.0.now c.split_at.result.1.now c.in-Some.next.now (cut d) (in_front d) c.in-Some.ensures.value
    c.if-next-eq10.false)

pub returns-then-not-is_empty : goal.returns-then-not-is_empty
returns-then-not-is_empty c =
    let d = (goal.at.returns-then-not-is_empty c).After-split_at in
    decides c.eq-then-not-is_empty.result c.args.self.now c.args.line.now c.split_at.result.0.now c.eq-then-not-is_empty.ensures (in_front d)
    (first_at_end c.args.self.now c.args.line.now c.split_at.result.0.now c.split_at.result.1.now (cut d) c.in-None.ensures.value
    (grind (arith, nat_tests, c.is_empty.ensures, c.if-not-is_empty.true)) c.requires)
