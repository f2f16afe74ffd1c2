use Rattle.std.proofs.Common.{arith, rules, eqb, Some, inl, inr, refl, ap, ◌∙◌}
use Rattle.std.specs.HashMap.{get}
use Rattle.socket_flow.specs.declared.socket.Stage.TheVariants.{Closing}
use Rattle.socket_flow.proofs.Bounded.{put_on, same_table, holds_of, meets_of}
use Rattle.socket_flow.proofs.Meeting.{met_put}
use Rattle.socket_flow.proofs.flow.SocketFlow.close.Goals as goal

pub invariant_of-self : goal.invariant_of-self
invariant_of-self c =
    let flow = c.args.self.now in
    let b = record c.forget.new.self { sockets = c.get_mut.follows.lender-at-none } in
    let h = same_table flow b (λ k. ap (λ sockets. get eqb sockets k) c.get_mut.follows.holds-at-none ∙ c.forget.ensures.sockets k) in
    record { said = flow.said; counted = h.counted; bounded = h.bounded; announces = h.announces; alone = h.alone; in_line = h.in_line }

pub invariant_of-self-then-not-is_linked : goal.invariant_of-self-then-not-is_linked
invariant_of-self-then-not-is_linked c =
    let flow = c.args.self.now in
    let old = c.in-Some-get_mut.socket.now in
    let w = old in
    let b = record c.forget.new.self { sockets = c.get_mut.follows.lender w } in
    let same = same_table flow c.forget.new.self c.forget.ensures.sockets in
    let h = put_on c.forget.new.self b c.in-Some.key (Some old) (Some w) flow.unsent flow.unsent flow.strangers flow.strangers c.in-Some-get_mut.ensures.value ((c.get_mut.follows.holds w).3 (search rules)).0
    (omega arith) (omega arith) (omega arith) (holds_of flow c.forget.new.self flow.unsent flow.strangers same) in
    let m = met_put c.forget.new.self b c.in-Some.key (Some old) (Some w) flow.caller flow.callers.items c.in-Some-get_mut.ensures.value ((c.get_mut.follows.holds w).3 (search rules)).0 (inr refl)
    (meets_of flow c.forget.new.self flow.unsent flow.strangers same) in
    record { said = flow.said; counted = h.counted; bounded = h.bounded; announces = h.announces; alone = m.alone; in_line = m.in_line }

pub invariant_of-self-then-writes : goal.invariant_of-self-then-writes
invariant_of-self-then-writes c =
    let flow = c.args.self.now in
    let old = c.in-Some-get_mut.socket.now in
    let w = record old { stage = Closing } in
    let b = record c.forget.new.self { sockets = c.get_mut.follows.lender w } in
    let same = same_table flow c.forget.new.self c.forget.ensures.sockets in
    let h = put_on c.forget.new.self b c.in-Some.key (Some old) (Some w) flow.unsent flow.unsent flow.strangers flow.strangers c.in-Some-get_mut.ensures.value ((c.get_mut.follows.holds w).3 (search rules)).0
    (omega arith) (omega arith) (omega arith) (holds_of flow c.forget.new.self flow.unsent flow.strangers same) in
    let m = met_put c.forget.new.self b c.in-Some.key (Some old) (Some w) flow.caller flow.callers.items c.in-Some-get_mut.ensures.value ((c.get_mut.follows.holds w).3 (search rules)).0 (inl refl)
    (meets_of flow c.forget.new.self flow.unsent flow.strangers same) in
    record { said = flow.said; counted = h.counted; bounded = h.bounded; announces = h.announces; alone = m.alone; in_line = m.in_line }

pub invariant_of-self-else-writes : goal.invariant_of-self-else-writes
invariant_of-self-else-writes c =
    let flow = c.args.self.now in
    let old = c.in-Some-get_mut.socket.now in
    let w = record old { stage = Closing } in
    let b = record c.forget.new.self { sockets = c.get_mut.follows.lender w } in
    let same = same_table flow c.forget.new.self c.forget.ensures.sockets in
    let h = put_on c.forget.new.self b c.in-Some.key (Some old) (Some w) flow.unsent flow.unsent flow.strangers flow.strangers c.in-Some-get_mut.ensures.value ((c.get_mut.follows.holds w).3 (search rules)).0
    (omega arith) (omega arith) (omega arith) (holds_of flow c.forget.new.self flow.unsent flow.strangers same) in
    let m = met_put c.forget.new.self b c.in-Some.key (Some old) (Some w) flow.caller flow.callers.items c.in-Some-get_mut.ensures.value ((c.get_mut.follows.holds w).3 (search rules)).0 (inl refl)
    (meets_of flow c.forget.new.self flow.unsent flow.strangers same) in
    record { said = flow.said; counted = h.counted; bounded = h.bounded; announces = h.announces; alone = m.alone; in_line = m.in_line }
