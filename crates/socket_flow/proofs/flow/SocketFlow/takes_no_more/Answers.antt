use Rattle.std.proofs.Common.{arith, rules, true, inr, refl}
use Rattle.socket_flow.proofs.Bounded.{turns_to}
use Rattle.socket_flow.proofs.flow.SocketFlow.takes_no_more.Goals as goal

pub invariant_of-self-in-Closing : goal.invariant_of-self-in-Closing
invariant_of-self-in-Closing c =
    let flow = c.args.self.now in
    let w = record c.in-Some.socket.now { is_blocked = true } in
    let h = turns_to flow (record flow.table { sockets = c.get_mut.follows.lender w }) c.args.key c.in-Some.socket.now w c.in-Some.ensures.value ((c.get_mut.follows.holds w).3 (search rules)).0 (omega arith) (omega arith) (inr refl) in
    record { said = flow.said; counted = h.counted; bounded = h.bounded; announces = h.announces; alone = h.alone; in_line = h.in_line }

pub invariant_of-self-2 : goal.invariant_of-self-2
invariant_of-self-2 c =
    let flow = c.args.self.now in
    let w = record c.in-Some.socket.now { is_blocked = true } in
    let h = turns_to flow (record flow.table { sockets = c.get_mut.follows.lender w }) c.args.key c.in-Some.socket.now w c.in-Some.ensures.value ((c.get_mut.follows.holds w).3 (search rules)).0 (omega arith) (omega arith) (inr refl) in
    record { said = flow.said; counted = h.counted; bounded = h.bounded; announces = h.announces; alone = h.alone; in_line = h.in_line }
