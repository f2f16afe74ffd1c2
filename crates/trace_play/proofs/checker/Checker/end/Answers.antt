use Rattle.std.proofs.Common.{ap}
use Rattle.std.specs.Prelude.{◌+◌, codes, Some}
use Rattle.trace_compare.specs.Compare.{agree, differ, report_lines}
use Rattle.trace_play.specs.Checking.{ending}
use Rattle.trace_play.proofs.checker.Checker.end.Goals as goal

pub returns-in_ok-tell_agreement-in-None : goal.returns-in_ok-tell_agreement-in-None
returns-in_ok-tell_agreement-in-None g c = λ next. (
  report_lines (agree c.args.events c.args.actions),
  ap (ending c.args.self.now.lines c.args.events c.args.actions) c.in-None.ensures,
  c.in_ok-tell_agreement-in-None.ensures.said,
)

pub returns-in_ok-tell_difference-in-Some : goal.returns-in_ok-tell_difference-in-Some
returns-in_ok-tell_difference-in-Some g c = λ next. (
  report_lines (differ (record { line = c.args.self.now.lines + 1; found = codes "end"; want = Some c.in-Some.want.now })),
  ap (ending c.args.self.now.lines c.args.events c.args.actions) c.in-Some.ensures,
  c.in_ok-tell_difference-in-Some.ensures.said,
)
