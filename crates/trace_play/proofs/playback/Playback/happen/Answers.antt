use Rattle.std.proofs.Common.{List, true, ◌++◌, refl, ap, ◌∙◌, arith}
use Rattle.io_edge.specs.Lines.{ended_lines}
use Rattle.net_base.specs.declared.action.Action.{Action}
use Rattle.trace_meaning.specs.Output.{told_event}
use Rattle.trace_text.specs.declared.stage.Stage.{Stage}
use Rattle.trace_play.specs.Playback.{Kept, begun, kept}
use Rattle.trace_play.proofs.Playing.{event_interpreted}
use Rattle.trace_play.proofs.playback.Playback.happen.Goals as goal

pub returns : goal.returns
returns g c =
    let before : Kept = kept c.args.self.now.stage c.args.self.now.heads.items (begun c.args.self.now.engine g.E.Stepper.machine g.E.Stepper.events) in
    let next : Kept = kept (record c.step.new.self.stage { events = true }) c.step.new.self.heads.items (begun c.step.new.self.engine g.E.Stepper.machine g.E.Stepper.events) in
    event_interpreted before next c.args.text.now c.args.pieces.now c.tell_line.new.pieces c.args.event.now
    (omega (arith, c.if-events-ge-EVENTS_MOST.false, c.events.ensures)) (ap (λ (s : Stage). record s { events = true }) c.in_ok-actions.ensures.stage)
    (rw c.in_ok-actions.ensures.heads refl) c.in_ok-actions.ensures.engine
    (c.in_ok-tell_line.ensures.said
    ∙ ap (λ (actions : List Action). c.args.pieces.now ++ ended_lines (told_event (c.args.text.now, actions))) (c.as_slice.ensures ∙ c.in_ok-actions.ensures.actions))
