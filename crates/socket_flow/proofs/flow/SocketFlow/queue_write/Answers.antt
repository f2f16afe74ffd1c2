use Rattle.std.proofs.Common.{ℕ, arith, rules, Some, length, ap, inr, refl}
use Rattle.socket_flow.proofs.Bounded.{turns_to, stranger_of}
use Rattle.socket_flow.proofs.flow.SocketFlow.queue_write.Goals as goal

pub invariant_of-self-then-unsent-eq0 : goal.invariant_of-self-then-unsent-eq0
invariant_of-self-then-unsent-eq0 c =
    let flow = c.args.self.now in
    let w = c.in-Some.socket.now in
    let h = turns_to flow (record flow.table { sockets = c.get_mut.follows.lender w }) c.args.key c.in-Some.socket.now w c.in-Some.ensures.value ((c.get_mut.follows.holds w).3 (search rules)).0 (omega arith) (omega arith) (inr refl) in
    record { said = flow.said; counted = h.counted; bounded = h.bounded; announces = h.announces; alone = h.alone; in_line = h.in_line }

pub invariant_of-self-then-matches : goal.invariant_of-self-then-matches
invariant_of-self-then-matches c =
    let flow = c.args.self.now in
    let w = c.in-Some.socket.now in
    let h = turns_to flow (record flow.table { sockets = c.get_mut.follows.lender w }) c.args.key c.in-Some.socket.now w c.in-Some.ensures.value ((c.get_mut.follows.holds w).3 (search rules)).0 (omega arith) (omega arith) (inr refl) in
    record { said = flow.said; counted = h.counted; bounded = h.bounded; announces = h.announces; alone = h.alone; in_line = h.in_line }

pub invariant_of-self-in-Break-1 : goal.invariant_of-self-in-Break-1
invariant_of-self-in-Break-1 c =
    let flow = c.args.self.now in
    let size = ap length c.watch.ensures.out in
    let same = ap {B = ℕ} (λ stage. stranger_of (Some (record c.in-Some.socket.now { stage = stage }))) c.watch.ensures.stage in
    let w = c.watch.new.socket in
    let h = turns_to flow (record flow.table { sockets = c.get_mut.follows.lender w }) c.args.key c.in-Some.socket.now w c.in-Some.ensures.value ((c.get_mut.follows.holds w).3 (search rules)).0 (omega (arith, size)) (omega (arith, same)) (inr (ap Some c.watch.ensures.stage)) in
    record { said = flow.said; counted = h.counted; bounded = h.bounded; announces = h.announces; alone = h.alone; in_line = h.in_line }

pub invariant_of-self-then-socket : goal.invariant_of-self-then-socket
invariant_of-self-then-socket c =
    let flow = c.args.self.now in
    let size = ap length c.watch.ensures.out in
    let same = ap {B = ℕ} (λ stage. stranger_of (Some (record c.in-Some.socket.now { stage = stage }))) c.watch.ensures.stage in
    let w = c.watch.new.socket in
    let h = turns_to flow (record flow.table { sockets = c.get_mut.follows.lender w }) c.args.key c.in-Some.socket.now w c.in-Some.ensures.value ((c.get_mut.follows.holds w).3 (search rules)).0 (omega (arith, size)) (omega (arith, same)) (inr (ap Some c.watch.ensures.stage)) in
    record { said = flow.said; counted = h.counted; bounded = h.bounded; announces = h.announces; alone = h.alone; in_line = h.in_line }

pub invariant_of-self-2 : goal.invariant_of-self-2
invariant_of-self-2 c =
    let flow = c.args.self.now in
    let size = ap length c.watch.ensures.out in
    let same = ap {B = ℕ} (λ stage. stranger_of (Some (record c.in-Some.socket.now { stage = stage }))) c.watch.ensures.stage in
    let w = c.watch.new.socket in
    let h = turns_to flow (record flow.table { sockets = c.get_mut.follows.lender w }) c.args.key c.in-Some.socket.now w c.in-Some.ensures.value ((c.get_mut.follows.holds w).3 (search rules)).0 (omega (arith, size)) (omega (arith, same)) (inr (ap Some c.watch.ensures.stage)) in
    record { said = flow.said; counted = h.counted; bounded = h.bounded; announces = h.announces; alone = h.alone; in_line = h.in_line }
