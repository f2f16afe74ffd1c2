use Rattle.std.proofs.Common.{◌≡◌, ℕ, ◌+◌, arith, rules, Some, length, ap, ◌∙◌, inr, refl}
use Rattle.std.proofs.lemmas.List.{length-append}
use Rattle.socket_flow.proofs.Bounded.{turns_to, sent_on, held}
use Rattle.socket_flow.proofs.Meeting.{met, met_put}
use Rattle.socket_flow.proofs.flow.SocketFlow.send.Goals as goal

pub invariant_of-self-in-Break-1 : goal.invariant_of-self-in-Break-1
invariant_of-self-in-Break-1 c =
    let flow = c.args.self.now in
    let size = ap {B = ℕ} (λ out. length out) c.in_err-put.ensures.err in
    let w = record c.in-Some-get_mut.socket.now { out = c.put.new.self } in
    let h = turns_to flow (record flow.table { sockets = c.get_mut.follows.lender w }) c.in-Some.key c.in-Some-get_mut.socket.now w c.in-Some-get_mut.ensures.value ((c.get_mut.follows.holds w).3 (search rules)).0
    (omega (arith, size)) (omega arith) (inr refl) in
    record { said = flow.said; counted = h.counted; bounded = h.bounded; announces = h.announces; alone = h.alone; in_line = h.in_line }

pub invariant_of-self-2 : goal.invariant_of-self-2
invariant_of-self-2 c =
    let flow = c.args.self.now in
    let old = c.in-Some-get_mut.socket.now in
    let w = record old { out = c.put.new.self } in
    let size : length c.put.new.self ≡ length old.out + length c.args.bytes.now = ap {B = ℕ} (λ out. length out) c.in_ok-put.ensures.ok ∙ length-append old.out c.args.bytes.now in
    let sum = c.saturating_add-unsent.ensures in
    let h = sent_on flow.table (record flow.table { sockets = c.get_mut.follows.lender w }) c.in-Some.key (Some old) (Some w) flow.unsent c.saturating_add-unsent.result flow.strangers
    c.in-Some-get_mut.ensures.value ((c.get_mut.follows.holds w).3 (search rules)).0 (omega (arith, size, sum)) (omega arith) (omega arith) (held flow) in
    let m = met_put flow.table (record flow.table { sockets = c.get_mut.follows.lender w }) c.in-Some.key (Some old) (Some w) flow.caller flow.callers.items
    c.in-Some-get_mut.ensures.value ((c.get_mut.follows.holds w).3 (search rules)).0 (inr refl) (met flow) in
    record { said = flow.said; counted = h.counted; bounded = h.bounded; announces = h.announces; alone = m.alone; in_line = m.in_line }
