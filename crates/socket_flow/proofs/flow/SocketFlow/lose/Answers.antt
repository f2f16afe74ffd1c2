use Rattle.std.proofs.Common.{◌≡◌, ℕ, arith, Some, ap}
use Rattle.socket_flow.proofs.Bounded.{gone, none_gone, stranger_of}
use Rattle.socket_flow.proofs.flow.SocketFlow.lose.Goals as goal

pub invariant_of-self : goal.invariant_of-self
invariant_of-self c =
    let flow = c.args.self.now in
    let h = none_gone flow c.remove.new.self c.args.key c.in_default.ensures.value c.remove.ensures.sockets in
    record { said = flow.said; counted = h.counted; bounded = h.bounded; announces = h.announces; alone = h.alone; in_line = h.in_line }

pub invariant_of-self-in-Break-1 : goal.invariant_of-self-in-Break-1
invariant_of-self-in-Break-1 c =
    let flow = c.args.self.now in
    let left = c.saturating_sub-self.ensures in
    let own = c.unsent.ensures in
    let h = gone flow c.remove.new.self c.args.key c.in-Some.socket c.saturating_sub-self.result flow.strangers c.in-Some.ensures.value c.remove.ensures.sockets (omega (arith, left, own)) (omega arith) in
    record { said = flow.said; counted = h.counted; bounded = h.bounded; announces = h.announces; alone = h.alone; in_line = h.in_line }

pub invariant_of-self-in-Dialing : goal.invariant_of-self-in-Dialing
invariant_of-self-in-Dialing c =
    let flow = c.args.self.now in
    let left = c.saturating_sub-self.ensures in
    let own = c.unsent.ensures in
    let h = gone flow c.remove.new.self c.args.key c.in-Some.socket c.saturating_sub-self.result flow.strangers c.in-Some.ensures.value c.remove.ensures.sockets (omega (arith, left, own)) (omega arith) in
    record { said = flow.said; counted = h.counted; bounded = h.bounded; announces = h.announces; alone = h.alone; in_line = h.in_line }

pub invariant_of-self-in-Open : goal.invariant_of-self-in-Open
invariant_of-self-in-Open c =
    let flow = c.args.self.now in
    let left = c.saturating_sub-self.ensures in
    let own = c.unsent.ensures in
    let h = gone flow c.remove.new.self c.args.key c.in-Some.socket c.saturating_sub-self.result flow.strangers c.in-Some.ensures.value c.remove.ensures.sockets (omega (arith, left, own)) (omega arith) in
    record { said = flow.said; counted = h.counted; bounded = h.bounded; announces = h.announces; alone = h.alone; in_line = h.in_line }

pub invariant_of-self-in-Announcing : goal.invariant_of-self-in-Announcing
invariant_of-self-in-Announcing c =
    let flow = c.args.self.now in
    let left = c.saturating_sub-self.ensures in
    let own = c.unsent.ensures in
    let fewer = c.saturating_sub-self-in-Announcing.ensures in
    let one : stranger_of (Some c.in-Some.socket) ≡ 1 = ap {B = ℕ} (λ stage. stranger_of (Some (record c.in-Some.socket { stage = stage }))) c.in-Announcing.is in
    let h = gone flow c.remove.new.self c.args.key c.in-Some.socket c.saturating_sub-self.result c.saturating_sub-self-in-Announcing.result c.in-Some.ensures.value c.remove.ensures.sockets
    (omega (arith, left, own)) (omega (arith, fewer, one)) in
    record { said = flow.said; counted = h.counted; bounded = h.bounded; announces = h.announces; alone = h.alone; in_line = h.in_line }

pub invariant_of-self-in-Waiting : goal.invariant_of-self-in-Waiting
invariant_of-self-in-Waiting c =
    let flow = c.args.self.now in
    let left = c.saturating_sub-self.ensures in
    let own = c.unsent.ensures in
    let h = gone flow c.remove.new.self c.args.key c.in-Some.socket c.saturating_sub-self.result flow.strangers c.in-Some.ensures.value c.remove.ensures.sockets (omega (arith, left, own)) (omega arith) in
    record { said = flow.said; counted = h.counted; bounded = h.bounded; announces = h.announces; alone = h.alone; in_line = h.in_line }
