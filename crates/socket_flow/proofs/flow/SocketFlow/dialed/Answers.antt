use Rattle.std.proofs.Common.{arith, rules, inr, refl}
use Rattle.socket_flow.proofs.Bounded.{turns_to}
use Rattle.socket_flow.proofs.flow.SocketFlow.dialed.Goals as goal

pub invariant_of-self-in-Dialing-1 : goal.invariant_of-self-in-Dialing-1
invariant_of-self-in-Dialing-1 c =
    let flow = c.args.self.now in
    let w = c.in-Some.socket.now in
    let h = turns_to flow (record flow.table { sockets = c.get_mut.follows.lender w }) c.args.key c.in-Some.socket.now w c.in-Some.ensures.value ((c.get_mut.follows.holds w).3 (search rules)).0 (omega arith) (omega arith) (inr refl) in
    record { said = flow.said; counted = h.counted; bounded = h.bounded; announces = h.announces; alone = h.alone; in_line = h.in_line }

pub invariant_of-self-in_default-stage : goal.invariant_of-self-in_default-stage
invariant_of-self-in_default-stage c =
    let flow = c.args.self.now in
    let w = c.in-Some.socket.now in
    let h = turns_to flow (record flow.table { sockets = c.get_mut.follows.lender w }) c.args.key c.in-Some.socket.now w c.in-Some.ensures.value ((c.get_mut.follows.holds w).3 (search rules)).0 (omega arith) (omega arith) (inr refl) in
    record { said = flow.said; counted = h.counted; bounded = h.bounded; announces = h.announces; alone = h.alone; in_line = h.in_line }
