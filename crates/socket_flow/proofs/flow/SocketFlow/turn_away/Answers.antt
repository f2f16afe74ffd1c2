use Rattle.std.proofs.Common.{None, refl, ap, ◌∙◌}
use Rattle.socket_flow.specs.Table.{is_told}
use Rattle.socket_flow.proofs.Losing.{left_alone}
use Rattle.socket_flow.proofs.Meeting.{met, met_none, here}
use Rattle.socket_flow.proofs.flow.SocketFlow.turn_away.Goals as goal

pub returns-clause-loses : goal.returns-clause-loses
returns-clause-loses c = left_alone _ _ _ _ c.in_ok-lose.ensures.loses refl refl refl refl refl refl

pub invariant_of-self : goal.invariant_of-self
invariant_of-self c =
    let lost = c.lose.new.self in
    let m = met_none lost.table c.in-Some.key lost.caller lost.callers.items (c.lose.ensures.caller ∙ c.in-Some.is) (ap is_told (here c.args.self.now.table lost.table c.in-Some.key None c.lose.ensures.gone)) (met lost) in
    record { said = lost.said; counted = lost.counted; bounded = lost.bounded; announces = lost.announces; alone = m.alone; in_line = m.in_line }
