use Rattle.std.proofs.Common.{[], ◌∷◌, refl, sym, codes}
use Rattle.line_run.specs.Meaning.{goes_on}
use Rattle.trace_text.specs.Words.{words_of}
use Rattle.pair_net.specs.Lines.{info_line}
use Rattle.pair_net.specs.declared.pair_replay.Progress.TheVariants.{Right}
use Rattle.pair_net.proofs.Playing.{line_meant}
use Rattle.pair_net.proofs.pair_replay.name_left.Goals as goal

pub returns-in_ok-push_line-in-Ok-clause-meant : goal.returns-in_ok-push_line-in-Ok-clause-meant
returns-in_ok-push_line-in-Ok-clause-meant c =
    line_meant (info_line (codes "left") (words_of c.args.line.now)) c.in-Ok.left (λ left. goes_on (Right left) (c.args.line.now ∷ [])) (Right c.in-Ok.left)
    c.args.line.now c.args.pieces.now c.push_line.new.self (sym c.in-Ok.ensures.info) refl c.in_ok-push_line-in-Ok.ensures.ok
