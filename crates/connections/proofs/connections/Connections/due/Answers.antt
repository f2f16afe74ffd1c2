use Rattle.std.proofs.Common.{refl, sym, ap, ◌∙◌}
use Rattle.std.proofs.lemmas.Bool.{le-leb, lt-leb}
use Rattle.timer_queue.specs.Timers.{least, where_due}
use Rattle.connections.proofs.TimedTurns.{first_due, none_told, one_told}
use Rattle.connections.proofs.connections.Connections.due.Goals as goal

pub returns-in_err-at : goal.returns-in_err-at
returns-in_err-at c =
    c.from_residual.ensures
    ∙ (ap (where_due c.args.now) (sym (none_told (least c.self.inside.timers.timers) (sym c.in_err-at.was ∙ c.least.ensures.value)))
    ∙ first_due c.args.now _ _ c.self.inside.timers c.self.invariant.1.0 c.self.view_is)

pub returns-then-at-now : goal.returns-then-at-now
returns-then-at-now c =
    let first = one_told (least c.self.inside.timers.timers) c.in_ok-at.at c.in_ok-at.cid c.in_ok-at.kind (sym c.in_ok-at.was ∙ c.least.ensures.value) in
    rw (le-leb c.in_ok-at.at c.args.now c.if-at-now.true) refl
    ∙ (ap (where_due c.args.now) (sym first) ∙ first_due c.args.now _ _ c.self.inside.timers c.self.invariant.1.0 c.self.view_is)

pub returns-else-at-now : goal.returns-else-at-now
returns-else-at-now c =
    let first = one_told (least c.self.inside.timers.timers) c.in_ok-at.at c.in_ok-at.cid c.in_ok-at.kind (sym c.in_ok-at.was ∙ c.least.ensures.value) in
    rw (lt-leb c.in_ok-at.at c.args.now c.if-at-now.false) refl
    ∙ (ap (where_due c.args.now) (sym first) ∙ first_due c.args.now _ _ c.self.inside.timers c.self.invariant.1.0 c.self.view_is)
