use Rattle.std.proofs.Common.{Bool, arith, rules, eqb, Some, refl, sym, ap, ◌∙◌}
use Rattle.std.specs.HashMap.{get}
use Rattle.socket_flow.specs.Table.{stage_of, is_told}
use Rattle.socket_flow.specs.declared.socket.Stage.TheVariants.{Open}
use Rattle.socket_flow.proofs.Bounded.{put_on, same_table, holds_of, meets_of}
use Rattle.socket_flow.proofs.Meeting.{met_none, met_answered}
use Rattle.socket_flow.proofs.Queueing.{queued_at}
use Rattle.socket_flow.proofs.flow.SocketFlow.admit.Goals as goal

pub invariant_of-self : goal.invariant_of-self
invariant_of-self c =
    let flow = c.args.self.now in
    let h = same_table flow c.name.new.self c.name.ensures.sockets in
    record { said = flow.said; counted = h.counted; bounded = h.bounded; announces = h.announces; alone = h.alone; in_line = h.in_line }

pub invariant_of-self-in_default-get_mut : goal.invariant_of-self-in_default-get_mut
invariant_of-self-in_default-get_mut c =
    let flow = c.args.self.now in
    let b = record c.name.new.self { sockets = c.get_mut.follows.lender-at-none } in
    let h = same_table flow b (λ k. ap (λ sockets. get eqb sockets k) c.get_mut.follows.holds-at-none ∙ c.name.ensures.sockets k) in
    let none = ap {B = Bool} (λ s. is_told (stage_of s)) (ap (λ sockets. get eqb sockets c.in-Some-caller.key) c.get_mut.follows.holds-at-none ∙ sym c.in_default-get_mut.ensures.value) in
    let m = met_none b c.in-Some-caller.key flow.caller flow.callers.items c.in-Some-caller.is none (meets_of flow b flow.unsent flow.strangers h) in
    record { said = flow.said; counted = h.counted; bounded = h.bounded; announces = h.announces; alone = m.alone; in_line = m.in_line }

pub invariant_of-self-2 : goal.invariant_of-self-2
invariant_of-self-2 c =
    let flow = c.args.self.now in
    let old = c.in-Some-get_mut.socket.now in
    let w = record old { stage = Open c.in-Some.id } in
    let b = record c.name.new.self { sockets = c.get_mut.follows.lender w } in
    let same = same_table flow c.name.new.self c.name.ensures.sockets in
    let h = put_on c.name.new.self b c.in-Some-caller.key (Some old) (Some w) flow.unsent flow.unsent flow.strangers flow.strangers c.in-Some-get_mut.ensures.value ((c.get_mut.follows.holds w).3 (search rules)).0
    (omega arith) (omega arith) (omega arith) (holds_of flow c.name.new.self flow.unsent flow.strangers same) in
    let m = met_answered c.name.new.self b c.in-Some-caller.key (Some old) (Some w) flow.caller flow.callers.items c.in-Some-get_mut.ensures.value ((c.get_mut.follows.holds w).3 (search rules)).0 refl refl c.in-Some-caller.is
    (meets_of flow c.name.new.self flow.unsent flow.strangers same) in
    record { said = flow.said; counted = h.counted; bounded = h.bounded; announces = h.announces; alone = m.alone; in_line = m.in_line }

pub returns-clause-turns : goal.returns-clause-turns
returns-clause-turns c = queued_at _ _ _ _ _ c.in-Some-caller.is c.push.ensures.ok
