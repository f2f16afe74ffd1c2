use Rattle.std.proofs.Common.{ℕ, subst, arith}
use Rattle.std.proofs.lemmas.Result.{err_from_is_err_and}
use Rattle.io_edge.specs.Causes.{Rose}
use Rattle.tool_status.proofs.TellingLemmas.{cut_pieces}
use Rattle.tool_status.proofs.telling.put_pieces.Goals as goal

pub returns-in_err-put_all : goal.returns-in_err-put_all
returns-in_err-put_all g c =
    let p = err_from_is_err_and c.from_residual.result c.from_residual.ensures.1 in
    let cause = c.in_err-put_all.ensures.cause in
    rw p.1 (record {
      whole = tt;
      part = cut_pieces _ (g.E.Sink.taken c.loop-piece.err) _ c.args.pieces.now c.loop-piece.piece-index _ c.as_bytes.result.now (omega arith)
          c.as_bytes.ensures.value c.loop-piece.invariant.taken c.in_err-put_all.ensures.part;
      cause = record {
        later = omega (arith, cause.later, c.loop-piece.invariant.calm);
        failed = subst (λ (before : ℕ). Rose before (g.E.Sink.faults c.put_all.new.sink)) c.loop-piece.invariant.calm cause.failed;
        calm = tt;
      };
    })
