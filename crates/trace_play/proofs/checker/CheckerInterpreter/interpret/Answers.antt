use Rattle.std.proofs.Common.{ℕ, ◌+◌, ◌≤◌, [], length, arith}
use Rattle.io_edge.specs.Pending.{front_line}
use Rattle.trace_meaning.specs.Heads.{AreHeads}
use Rattle.trace_play.specs.Checking.{Agreed, agreed}
use Rattle.trace_play.specs.Playback.{Kept, begun, kept, events_taken}
use Rattle.trace_play.proofs.CheckLines.{passing_kept, ending_stops, checked_ending}
use Rattle.trace_play.proofs.Playing.{heads_next, counted_next}
use Rattle.trace_play.proofs.checker.CheckerInterpreter.interpret.Goals as goal

pub returns-in-Ok-clause-holds : goal.returns-in-Ok-clause-holds
returns-in-Ok-clause-holds g c =
    let before : Kept = kept c.args.self.now.playback.stage c.args.self.now.playback.heads.items (begun c.args.self.now.playback.engine g.E.Stepper.machine g.E.Stepper.events) in
    let played : Kept = kept c.line.new.self.stage c.line.new.self.heads.items (begun c.line.new.self.engine g.E.Stepper.machine g.E.Stepper.events) in
    let said = c.in-Ok.ensures.0 in
    let goes = c.in-Ok.ensures.1 in
    let heads = heads_next [] before played c.args.line.now said c.requires.holds.0 goes in
    let counted = counted_next [] before played c.args.line.now said goes in
    passing_kept (λ (k : Kept) (lines : ℕ). AreHeads k.stage k.heads × (length k.heads + events_taken k.engine ≤ lines)) c.args.self.now.lines played c.args.line.now c.line.new.pieces
    (front_line c.line.new.pieces) _ c.args.pieces.now c.pass.new.pieces c.pass.result (heads, omega (arith, counted, c.requires.holds.1)) c.pass.ensures

pub returns-in-Err-Ended-clause-meant : goal.returns-in-Err-Ended-clause-meant
returns-in-Err-Ended-clause-meant g c =
    let before : Agreed = agreed (kept c.args.self.now.playback.stage c.args.self.now.playback.heads.items (begun c.args.self.now.playback.engine g.E.Stepper.machine g.E.Stepper.events)) c.args.self.now.lines c.args.self.now.due in
    let ended = rw c.in-Err-Ended.field-0-is at c.in-Err-Ended.ensures in
    checked_ending before _ c.args.line.now c.line.new.pieces c.args.pieces.now c.end.new.pieces ended.0 _ _ c.end.result (omega (arith, c.if-self-ge-LINES_MOST.false)) ended.1 ended.2 c.events-events.ensures
    (omega (arith, c.len.ensures, c.events-events.ensures)) (c.end.ensures _)

pub returns-in-Err-Ended-clause-holds : goal.returns-in-Err-Ended-clause-holds
returns-in-Err-Ended-clause-holds g c = ending_stops _ c.args.self.now.lines _ _ (front_line c.line.new.pieces) _ c.args.pieces.now c.end.new.pieces c.end.result (c.end.ensures (agreed (kept c.line.new.self.stage c.line.new.self.heads.items (begun c.line.new.self.engine g.E.Stepper.machine g.E.Stepper.events)) c.args.self.now.lines c.line.new.pieces))
