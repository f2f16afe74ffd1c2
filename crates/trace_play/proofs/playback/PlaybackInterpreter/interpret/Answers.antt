use Rattle.std.proofs.Common.{[], ◌∷◌}
use Rattle.std.specs.Prelude.{codes}
use Rattle.trace_play.specs.Playback.{Kept, begun, kept}
use Rattle.trace_play.proofs.Playing.{last_said, heads_kept}
use Rattle.trace_play.proofs.playback.PlaybackInterpreter.interpret.Goals as goal

pub returns-in_ok-push_line-in-Err-Ended-clause-meant : goal.returns-in_ok-push_line-in-Err-Ended-clause-meant
returns-in_ok-push_line-in-Err-Ended-clause-meant g c =
    let before : Kept = kept c.args.self.now.stage c.args.self.now.heads.items (begun c.args.self.now.engine g.E.Stepper.machine g.E.Stepper.events) in
    let next : Kept = kept c.line.new.self.stage c.line.new.self.heads.items (begun c.line.new.self.engine g.E.Stepper.machine g.E.Stepper.events) in
    last_said (codes "end" ∷ []) before next c.args.line.now c.args.pieces.now c.line.new.pieces c.push_line.new.self
    (rw c.in-Err-Ended.field-0-is at c.in-Err-Ended.ensures) c.in_ok-push_line-in-Err-Ended.ensures.ok

pub returns-in_default-2-clause-holds : goal.returns-in_default-2-clause-holds
returns-in_default-2-clause-holds g c =
    let before : Kept = kept c.args.self.now.stage c.args.self.now.heads.items (begun c.args.self.now.engine g.E.Stepper.machine g.E.Stepper.events) in
    let next : Kept = kept c.line.new.self.stage c.line.new.self.heads.items (begun c.line.new.self.engine g.E.Stepper.machine g.E.Stepper.events) in
    heads_kept [] before next c.args.line.now c.args.pieces.now c.line.new.pieces c.line.result c.requires.holds c.line.ensures
