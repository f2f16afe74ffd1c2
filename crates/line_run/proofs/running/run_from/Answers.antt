use Rattle.std.proofs.Common.{◌≡◌, ◌∙◌, ℕ, refl, subst, arith}
use Rattle.line_run.specs.UnderWay.{Ends}
use Rattle.line_run.specs.declared.outcome.LineOutcome.TheVariants.{TooLong}
use Rattle.line_run.proofs.Ways.{most_read, way_none}
use Rattle.line_run.proofs.running.run_from.Goals as goal

pub loop-number-init : goal.loop-number-init
loop-number-init g c = record {
  way = rw (c.requires.fresh, c.requires.silent) (way_none g.I.Interpreter.means (g.I.Interpreter.state c.args.interpreter.now) (g.S.Source.left c.args.src.now) (g.K.Sink.taken c.args.out.now));
  holds = c.requires.holds;
  reads = refl;
  writes = refl;
}

pub returns-in-Err-clause-ends : goal.returns-in-Err-clause-ends
returns-in-Err-clause-ends g c = c.in-Err.ensures.turn _ _ _ c.loop-number.invariant.way

pub loop-number-preserved : goal.loop-number-preserved
loop-number-preserved g c = record {
  way = c.in-Ok.ensures.turn _ _ _ c.loop-number.invariant.way;
  holds = c.in-Ok.ensures.holds;
  reads = c.in-Ok.ensures.reads ∙ c.loop-number.invariant.reads;
  writes = c.in-Ok.ensures.writes ∙ c.loop-number.invariant.writes;
}

pub returns-clause-ends : goal.returns-clause-ends
returns-clause-ends g c =
    let number : c.loop-number.number ≡ 4000001 = omega arith in
    subst (λ (n : ℕ). Ends g.I.Interpreter.means (g.I.Interpreter.state c.args.interpreter.now) (g.S.Source.left c.args.src.now) (g.S.Source.left c.loop-number.src) (g.K.Sink.taken c.args.out.now) (g.K.Sink.taken c.loop-number.out) c.loop-number.pieces (TooLong n)) number
    (most_read g.I.Interpreter.means (g.I.Interpreter.state c.args.interpreter.now) c.loop-number.number _ c.loop-number.reader c.loop-number.pieces _ _ _ _ (omega arith) c.loop-number.invariant.way)
