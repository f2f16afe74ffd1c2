use Rattle.std.proofs.Common.{◌≡◌}
use Rattle.line_run.specs.UnderWay.{IsUnderWay}
use Rattle.line_run.proofs.running.run_from.Given as goal

abbrev pub invariant-loop-number : goal.invariant-loop-number
invariant-loop-number g l = record {
  way : IsUnderWay g.I.Interpreter.means (g.I.Interpreter.state l.initial.interpreter) l.number (g.I.Interpreter.state l.interpreter) l.reader l.pieces (g.S.Source.left l.initial.src) (g.S.Source.left l.src) (g.K.Sink.taken l.initial.out) (g.K.Sink.taken l.out);
  holds : g.I.Interpreter.holds (g.I.Interpreter.state l.interpreter);
  reads : g.S.Source.faults l.src ≡ g.S.Source.faults l.initial.src;
  writes : g.K.Sink.faults l.out ≡ g.K.Sink.faults l.initial.out;
}
