use Rattle.std.proofs.Common.{List, ℕ, [], ◌∷◌, ◌++◌, ◌+◌, ap, ◌∙◌}
use Rattle.std.specs.Prelude.{codes, decimal}
use Rattle.io_edge.specs.Lines.{ended_lines}
use Rattle.io_edge.specs.Pending.{front_line}
use Rattle.trace_compare.specs.Compare.{differ, report_lines}
use Rattle.trace_play.proofs.CheckLines.{passing_another}
use Rattle.trace_play.proofs.checker.Checker.pass.Goals as goal

pub returns : goal.returns
returns g c =
    let line = c.args.self.now.lines + 1 in
    let text = c.args.line.now in (
      report_lines (differ (record { line = line; found = text; want = front_line c.args.self.now.due })),
      passing_another c.args.self.now.lines _ text c.args.self.now.due (front_line c.args.self.now.due) c.if-first_line_is.ensures,
      c.in_ok-tell_difference.ensures.said
          ∙ ap (λ (want : List ℕ). c.args.pieces.now ++ ended_lines ((codes "differ " ++ decimal line) ∷ (codes "found " ++ text) ∷ want ∷ [])) c.wanted.ensures,
    )
