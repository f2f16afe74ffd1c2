use Rattle.std.proofs.Common.{[], ◌∷◌, refl, sym}
use Rattle.line_run.specs.Meaning.{goes_on}
use Rattle.trace_text.specs.Words.{words_of}
use Rattle.pair_net.specs.Lines.{opening_line}
use Rattle.pair_net.specs.declared.pair_replay.Progress.TheVariants.{Left}
use Rattle.pair_net.proofs.Playing.{line_meant}
use Rattle.pair_net.proofs.pair_replay.open.Goals as goal

pub returns-in_ok-push_line-in-Ok-clause-meant : goal.returns-in_ok-push_line-in-Ok-clause-meant
returns-in_ok-push_line-in-Ok-clause-meant c =
    line_meant (opening_line (words_of c.args.line.now)) tt (λ _. goes_on Left (c.args.line.now ∷ [])) Left c.args.line.now c.args.pieces.now c.push_line.new.self
    (sym c.in-Ok.ensures) refl c.in_ok-push_line-in-Ok.ensures.ok
