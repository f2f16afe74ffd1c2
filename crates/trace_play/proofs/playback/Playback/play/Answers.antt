use Rattle.std.proofs.Common.{◌≡◌, [], ◌∷◌, refl}
use Rattle.trace_play.specs.Playback.{Kept, begun, kept}
use Rattle.trace_play.proofs.Playing.{head_interpreted, happen_interpreted}
use Rattle.trace_play.proofs.playback.Playback.play.Goals as goal

pub returns-in_ok-head-in-Head : goal.returns-in_ok-head-in-Head
returns-in_ok-head-in-Head g c =
    let ok = c.in_ok-head-in-Head in
    let before : Kept = kept c.args.self.now.stage c.args.self.now.heads.items (begun c.args.self.now.engine g.E.Stepper.machine g.E.Stepper.events) in
    let next : Kept = kept c.head.new.self.stage c.head.new.self.heads.items (begun c.head.new.self.engine g.E.Stepper.machine g.E.Stepper.events) in
    let engine : next.engine ≡ before.engine = rw ok.ensures.engine refl in (
      c.args.text.now ∷ [],
      head_interpreted before next c.args.text.now c.args.line.now c.in-Head.head c.in-Head.is ok.ensures.stage ok.ensures.heads engine,
      ok.ensures.said,
    )

pub returns-in-Happen : goal.returns-in-Happen
returns-in-Happen g c =
    happen_interpreted _ _ c.args.text.now c.args.pieces.now c.happen.new.pieces c.args.line.now c.in-Happen.event c.happen.result c.in-Happen.is (c.happen.ensures [])
