use Rattle.std.proofs.Common.{arith, rules, true, inr, refl}
use Rattle.socket_flow.proofs.Bounded.{turns_to}
use Rattle.socket_flow.proofs.flow.SocketFlow.turn.Goals as goal

pub invariant_of-self-then-not-matches : goal.invariant_of-self-then-not-matches
invariant_of-self-then-not-matches c =
    let flow = c.args.self.now in
    let w = c.in_ok-socket.socket.now in
    let h = turns_to flow (record flow.table { sockets = c.get_mut.follows.lender w }) c.args.key c.in_ok-socket.socket.now w c.in_ok-socket.ensures.value ((c.get_mut.follows.holds w).3 (search rules)).0 (omega arith) (omega arith) (inr refl) in
    record { said = flow.said; counted = h.counted; bounded = h.bounded; announces = h.announces; alone = h.alone; in_line = h.in_line }

pub invariant_of-self-then-is_behind : goal.invariant_of-self-then-is_behind
invariant_of-self-then-is_behind c =
    let flow = c.args.self.now in
    let w = record c.in_ok-socket.socket.now { is_held = true } in
    let h = turns_to flow (record flow.table { sockets = c.get_mut.follows.lender w }) c.args.key c.in_ok-socket.socket.now w c.in_ok-socket.ensures.value ((c.get_mut.follows.holds w).3 (search rules)).0 (omega arith) (omega arith) (inr refl) in
    record { said = flow.said; counted = h.counted; bounded = h.bounded; announces = h.announces; alone = h.alone; in_line = h.in_line }

pub invariant_of-self-else-is_behind : goal.invariant_of-self-else-is_behind
invariant_of-self-else-is_behind c =
    let flow = c.args.self.now in
    let w = c.in_ok-socket.socket.now in
    let h = turns_to flow (record flow.table { sockets = c.get_mut.follows.lender w }) c.args.key c.in_ok-socket.socket.now w c.in_ok-socket.ensures.value ((c.get_mut.follows.holds w).3 (search rules)).0 (omega arith) (omega arith) (inr refl) in
    record { said = flow.said; counted = h.counted; bounded = h.bounded; announces = h.announces; alone = h.alone; in_line = h.in_line }
