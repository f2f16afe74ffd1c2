use Rattle.std.proofs.Common.{arith, rules, false, inr, refl}
use Rattle.socket_flow.proofs.Bounded.{turns_to}
use Rattle.socket_flow.proofs.Queueing.{queued_where}
use Rattle.socket_flow.proofs.flow.SocketFlow.may_be_ready.Goals as goal

pub invariant_of-self-in-Dialing : goal.invariant_of-self-in-Dialing
invariant_of-self-in-Dialing c =
    let flow = c.args.self.now in
    let w = c.in-Some.socket.now in
    let h = turns_to flow (record flow.table { sockets = c.get_mut.follows.lender w }) c.args.key c.in-Some.socket.now w c.in-Some.ensures.value ((c.get_mut.follows.holds w).3 (search rules)).0 (omega arith) (omega arith) (inr refl) in
    record { said = flow.said; counted = h.counted; bounded = h.bounded; announces = h.announces; alone = h.alone; in_line = h.in_line }

pub invariant_of-self-in-Waiting : goal.invariant_of-self-in-Waiting
invariant_of-self-in-Waiting c =
    let flow = c.args.self.now in
    let w = c.in-Some.socket.now in
    let h = turns_to flow (record flow.table { sockets = c.get_mut.follows.lender w }) c.args.key c.in-Some.socket.now w c.in-Some.ensures.value ((c.get_mut.follows.holds w).3 (search rules)).0 (omega arith) (omega arith) (inr refl) in
    record { said = flow.said; counted = h.counted; bounded = h.bounded; announces = h.announces; alone = h.alone; in_line = h.in_line }

pub invariant_of-self-then-not-writable : goal.invariant_of-self-then-not-writable
invariant_of-self-then-not-writable c =
    let flow = c.args.self.now in
    let w = c.in-Some.socket.now in
    let h = turns_to flow (record flow.table { sockets = c.get_mut.follows.lender w }) c.args.key c.in-Some.socket.now w c.in-Some.ensures.value ((c.get_mut.follows.holds w).3 (search rules)).0 (omega arith) (omega arith) (inr refl) in
    record { said = flow.said; counted = h.counted; bounded = h.bounded; announces = h.announces; alone = h.alone; in_line = h.in_line }

pub invariant_of-self-2 : goal.invariant_of-self-2
invariant_of-self-2 c =
    let flow = c.args.self.now in
    let w = record c.in-Some.socket.now { is_blocked = false } in
    let h = turns_to flow (record flow.table { sockets = c.get_mut.follows.lender w }) c.args.key c.in-Some.socket.now w c.in-Some.ensures.value ((c.get_mut.follows.holds w).3 (search rules)).0 (omega arith) (omega arith) (inr refl) in
    record { said = flow.said; counted = h.counted; bounded = h.bounded; announces = h.announces; alone = h.alone; in_line = h.in_line }

pub returns-then-not-writable-clause-turns : goal.returns-then-not-writable-clause-turns
returns-then-not-writable-clause-turns c = queued_where _ _ _ _ _ refl c.push-then-not-writable.ensures.ok

pub returns-clause-turns : goal.returns-clause-turns
returns-clause-turns c = queued_where _ _ _ _ _ c.queue_write.ensures.turns c.push-2.ensures.ok
