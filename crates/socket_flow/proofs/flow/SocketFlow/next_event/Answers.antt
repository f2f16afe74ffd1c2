use Rattle.std.proofs.Common.{arith, rules, Some, refl, sym, subst}
use Rattle.socket_flow.specs.Peers.{StandInLine}
use Rattle.socket_flow.specs.declared.socket.Stage.TheVariants.{Told}
use Rattle.socket_flow.proofs.Bounded.{put_on, held}
use Rattle.socket_flow.proofs.Meeting.{met, met_empty, met_next}
use Rattle.socket_flow.proofs.flow.SocketFlow.next_event.Goals as goal

pub invariant_of-self-in-Break-1 : goal.invariant_of-self-in-Break-1
invariant_of-self-in-Break-1 c =
    let flow = c.args.self.now in
    let m = met_empty flow.table flow.caller flow.callers.items c.in_err-key.ensures.none (met flow) in
    record {
      said = flow.said;
      counted = flow.counted;
      bounded = flow.bounded;
      announces = flow.announces;
      alone = m.alone;
      in_line = subst (λ l. StandInLine flow.table l) (sym c.in_err-key.ensures.empty) m.in_line;
    }

pub invariant_of-self-2 : goal.invariant_of-self-2
invariant_of-self-2 c =
    let flow = c.args.self.now in
    let old = c.in-Some-get_mut.socket.now in
    let w = record old { stage = Told } in
    let b = record flow.table { sockets = c.get_mut.follows.lender w } in
    let h = put_on flow.table b c.in_ok-key.key (Some old) (Some w) flow.unsent flow.unsent flow.strangers flow.strangers c.in-Some-get_mut.ensures.value ((c.get_mut.follows.holds w).3 (search rules)).0
    (omega arith) (omega arith) (omega arith) (held flow) in
    let m = met_next flow.table b c.in_ok-key.key c.in_ok-key.addr (Some w) flow.caller flow.callers.items c.next_caller.new.callers.items c.in_ok-key.ensures.next ((c.get_mut.follows.holds w).3 (search rules)).0 refl c.requires (met flow) in
    record { said = flow.said; counted = h.counted; bounded = h.bounded; announces = h.announces; alone = m.alone; in_line = m.in_line }
