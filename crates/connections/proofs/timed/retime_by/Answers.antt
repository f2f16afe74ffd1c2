use Rattle.std.proofs.Common.{◌≡◌, true, sym, ap, subst, ◌∙◌}
use Rattle.net_base.specs.declared.connection.Cid.{Cid}
use Rattle.net_base.specs.declared.connection.Facts.{Facts}
use Rattle.net_base.specs.declared.timer.Kind.TheVariants.{Grace}
use Rattle.timer_queue.specs.Rows.{is_set_at}
use Rattle.timer_queue.specs.Timers.{is_timer_of}
use Rattle.connections.proofs.Regraced.{grace_was, regraced, same_phase}
use Rattle.connections.proofs.Stepping.{keeps_id}
use Rattle.connections.proofs.timed.retime_by.Goals as goal

pub regrace-requires-clause-was : goal.regrace-requires-clause-was
regrace-requires-clause-was c = λ d of_it.
    let own : c.args.is.now.cid ≡ c.args.was.now.cid = ap (λ (f : Facts). f.cid) c.requires.moved ∙ keeps_id c.args.step c.args.was.now in
    grace_was c.args.was.now c.args.replies.now c.args.timers.now.timers c.requires.timed d
    (subst (λ (k : Cid). is_timer_of k Grace d ≡ true) own of_it) ∙ ap (is_set_at d.at) (sym c.grace_end.ensures)

pub returns-then-keeps_phase-clause-timers : goal.returns-then-keeps_phase-clause-timers
returns-then-keeps_phase-clause-timers c =
    regraced c.args.was.now c.args.is.now c.args.replies.now c.args.timers.now.timers c.regrace.new.timers.timers
    (ap (λ (f : Facts). f.cid) c.requires.moved ∙ keeps_id c.args.step c.args.was.now)
    (ap (λ (f : Facts). f.phase) c.requires.moved ∙ same_phase c.args.step c.args.was.now (sym c.keeps_phase.ensures ∙ c.if-keeps_phase.true))
    c.requires.timed (λ d of_it. c.regrace.ensures.is d of_it ∙ ap (is_set_at d.at) c.grace_end-then-keeps_phase.ensures) c.regrace.ensures.others
