use Rattle.std.proofs.Common.{[], ◌∷◌, sym, ap, codes}
use Rattle.line_run.specs.Meaning.{goes_on}
use Rattle.trace_text.specs.Words.{words_of}
use Rattle.pair_net.specs.Lines.{info_line}
use Rattle.pair_net.specs.Pair.{PairState, fresh_pair}
use Rattle.pair_net.specs.declared.pair_replay.Progress.TheVariants.{Steps}
use Rattle.pair_net.proofs.Playing.{line_meant}
use Rattle.pair_net.proofs.pair_replay.name_right.Goals as goal

pub returns-in_ok-push_line-in-Ok-clause-meant : goal.returns-in_ok-push_line-in-Ok-clause-meant
returns-in_ok-push_line-in-Ok-clause-meant c =
    line_meant (info_line (codes "right") (words_of c.args.line.now)) c.in-Ok.right (λ right. goes_on (Steps (fresh_pair c.args.left right) 0) (c.args.line.now ∷ []))
    (Steps c.new.result 0) c.args.line.now c.args.pieces.now c.push_line.new.self (sym c.in-Ok.ensures.info)
    (ap (λ (p : PairState). goes_on (Steps p 0) (c.args.line.now ∷ [])) (sym c.new.ensures)) c.in_ok-push_line-in-Ok.ensures.ok
