use Rattle.std.proofs.Common.{Bool, true, false, cond, Some, None, refl, sym, ap, ◌≡◌, ◌∙◌, nat_le}
use Rattle.std.specs.Bool.{then_some}
use Rattle.net_base.specs.declared.timer.Deadline.{Deadline}
use Rattle.timer_queue.specs.Kept.{all_timers}
use Rattle.timer_queue.specs.Timers.{where_due}
use Rattle.timer_queue.proofs.Firsts.{least-due_at}
use Rattle.timer_queue.proofs.TimersOf.{in_order-rises}
use Rattle.timer_queue.proofs.kept.Kept.due.Goals as goal

chosen : (b : Bool) (d : Deadline) → then_some b d ≡ cond b (Some d) None
chosen true d = refl
chosen false d = refl

pub returns-in_err-first : goal.returns-in_err-first
returns-in_err-first c =
    let rises = in_order-rises (all_timers c.args.self.now.rows.items) in
    c.from_residual.ensures ∙ sym (least-due_at c.args.now _ rises ∙ ap (where_due c.args.now) (sym c.first.ensures ∙ c.in_err-first.was))

pub returns : goal.returns
returns c =
    let first : Deadline = c.in_ok-first.first in
    let rises = in_order-rises (all_timers c.args.self.now.rows.items) in
    c.then_some.ensures
    ∙ (chosen (nat_le first.at c.args.now) first
    ∙ sym (least-due_at c.args.now _ rises ∙ ap (where_due c.args.now) (sym c.first.ensures ∙ c.in_ok-first.was)))
