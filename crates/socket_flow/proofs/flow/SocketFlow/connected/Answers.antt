use Rattle.std.proofs.Common.{arith, rules, inl, refl}
use Rattle.socket_flow.specs.declared.socket.Stage.TheVariants.{Open}
use Rattle.socket_flow.proofs.Bounded.{turns_to}
use Rattle.socket_flow.proofs.Queueing.{queued_where}
use Rattle.socket_flow.proofs.flow.SocketFlow.connected.Goals as goal

pub invariant_of-self-2 : goal.invariant_of-self-2
invariant_of-self-2 c =
    let flow = c.args.self.now in
    let w = record c.in-Some.socket.now { stage = Open c.args.id } in
    let h = turns_to flow (record flow.table { sockets = c.get_mut.follows.lender w }) c.args.key c.in-Some.socket.now w c.in-Some.ensures.value ((c.get_mut.follows.holds w).3 (search rules)).0 (omega arith) (omega arith) (inl refl) in
    record { said = flow.said; counted = h.counted; bounded = h.bounded; announces = h.announces; alone = h.alone; in_line = h.in_line }

pub returns-clause-turns : goal.returns-clause-turns
returns-clause-turns c = queued_where _ _ _ _ _ c.queue_write.ensures.turns c.push-2.ensures.ok
