use Rattle.std.proofs.Common.{false, not, refl, sym, ap, ◌∙◌}
use Rattle.std.proofs.lemmas.Bool.{and_right}
use Rattle.net_base.specs.Timer.{deadline_before}
use Rattle.net_base.specs.declared.timer.Kind.TheVariants.{Grace}
use Rattle.timer_queue.specs.Queue.{Queue}
use Rattle.timer_queue.specs.Rows.{is_set_at}
use Rattle.timer_queue.specs.Timers.{timer, has_timer, same_timer, is_timer_of}
use Rattle.timer_queue.proofs.Orderly.{has-with_timer}
use Rattle.timer_queue.proofs.Orders.{timer_order}
use Rattle.timer_queue.proofs.Rising.{has-filter}
use Rattle.connections.proofs.Regraced.{set_there, not_there, still_there}
use Rattle.connections.proofs.timed.regrace.Goals as goal

pub returns-in_default-Some-clause-is : goal.returns-in_default-Some-clause-is
returns-in_default-Some-clause-is c = λ d of_it.
    ap (λ (q : Queue). has_timer d q.timers) c.set.ensures.timer
    ∙ (has-with_timer (timer c.args.cid Grace c.in_default-Some.until) d c.args.timers.now c.requires.orderly
    ∙ (set_there c.args.cid c.in_default-Some.until d (has_timer d c.args.timers.now.timers) of_it ∙ ap (is_set_at d.at) (sym c.in_default-Some.is-1)))

pub returns-in_default-Some-clause-others : goal.returns-in_default-Some-clause-others
returns-in_default-Some-clause-others c = λ d other.
    ap (λ (q : Queue). has_timer d q.timers) c.set.ensures.timer
    ∙ (has-with_timer (timer c.args.cid Grace c.in_default-Some.until) d c.args.timers.now c.requires.orderly
    ∙ still_there _ _ (has_timer d c.args.timers.now.timers) (not_there c.args.cid c.in_default-Some.until d other) other)

pub returns-in-Some-None-clause-is : goal.returns-in-Some-None-clause-is
returns-in-Some-None-clause-is c = λ d of_it.
    ap (λ (q : Queue). has_timer d q.timers) c.clear.ensures.cleared
    ∙ (has-filter deadline_before same_timer timer_order (λ e. not (is_timer_of c.args.cid Grace e)) d c.args.timers.now.timers
    ∙ (and_right (has_timer d c.args.timers.now.timers) _ (ap not of_it) ∙ ap (is_set_at d.at) (sym c.in-Some-None.is-1)))

pub returns-in-Some-None-clause-others : goal.returns-in-Some-None-clause-others
returns-in-Some-None-clause-others c = λ d other.
    ap (λ (q : Queue). has_timer d q.timers) c.clear.ensures.cleared
    ∙ (has-filter deadline_before same_timer timer_order (λ e. not (is_timer_of c.args.cid Grace e)) d c.args.timers.now.timers
    ∙ still_there false _ (has_timer d c.args.timers.now.timers) refl other)
