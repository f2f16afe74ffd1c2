use Rattle.std.proofs.Common.{ap, ◌∙◌}
use Rattle.conn_table.specs.declared.placed.Placed.{Placed}
use Rattle.timer_queue.proofs.Outcomes.{on_err}
use Rattle.links.specs.Link.{place_of}
use Rattle.links.specs.Rows.{stands_at, without_link}
use Rattle.links.proofs.LinkEdits.{stands-new, left_again}
use Rattle.connections.proofs.connections.moves.enroll.Goals as goal

pub leave-requires : goal.leave-requires
leave-requires c =
    ap (λ (p : Placed). stands_at p c.enroll.new.self) c.place_of.ensures
    ∙ (ap (stands_at (place_of c.args.link)) c.in_ok-enroll.ensures.ok ∙ stands-new c.args.link c.args.links.now)

pub returns-then-is_err-clause-links_stay : goal.returns-then-is_err-clause-links_stay
returns-then-is_err-clause-links_stay c =
    on_err c.enroll-enrolled.result _
    (c.leave.ensures
    ∙ (ap (λ (p : Placed). without_link p c.enroll.new.self) c.place_of.ensures
    ∙ (ap (without_link (place_of c.args.link)) c.in_ok-enroll.ensures.ok ∙ left_again c.args.link c.args.links.now c.requires)))
