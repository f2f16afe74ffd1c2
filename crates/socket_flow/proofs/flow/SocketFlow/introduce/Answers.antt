use Rattle.std.proofs.Common.{◌≡◌, ℕ, arith, rules, cond, Some, refl, sym, subst, ap, ◌∙◌}
use Rattle.socket_flow.specs.declared.socket.Stage.TheVariants.{Waiting}
use Rattle.socket_flow.proofs.Bounded.{put_on, held, stranger_of}
use Rattle.socket_flow.proofs.Meeting.{met, met_waiting}
use Rattle.socket_flow.specs.Peers.{StandInLine}
use Rattle.socket_flow.proofs.flow.SocketFlow.introduce.Goals as goal

pub invariant_of-self-2 : goal.invariant_of-self-2
invariant_of-self-2 c =
    let flow = c.args.self.now in
    let w = record c.in-Some.socket.now { stage = Waiting c.args.addr } in
    let one : stranger_of (Some c.in-Some.socket.now) ≡ 1 = ap {B = ℕ} (λ o. stranger_of o) c.in-Some.ensures.value ∙ ap {B = ℕ} (λ test. cond test 1 0) c.requires in
    let fewer = c.saturating_sub-self.ensures in
    let h = put_on flow.table (record flow.table { sockets = c.get_mut.follows.lender w }) c.args.key (Some c.in-Some.socket.now) (Some w) flow.unsent flow.unsent flow.strangers c.saturating_sub-self.result
    c.in-Some.ensures.value ((c.get_mut.follows.holds w).3 (search rules)).0 (omega arith) (omega arith) (omega (arith, one, fewer)) (held flow) in
    let m = met_waiting flow.table (record flow.table { sockets = c.get_mut.follows.lender w }) c.args.key (Some w) flow.caller flow.callers.items ((c.get_mut.follows.holds w).3 (search rules)).0 refl (met flow) in
    let line = c.in_ok-push_back.ensures.items in
    record { said = flow.said; counted = h.counted; bounded = h.bounded; announces = h.announces; alone = m.alone; in_line = subst (λ l. StandInLine (record flow.table { sockets = c.get_mut.follows.lender w }) l) (sym line) m.in_line }
