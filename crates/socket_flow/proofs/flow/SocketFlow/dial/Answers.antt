use Rattle.std.proofs.Common.{◌≡◌, ℕ, ◌+◌, Bool, true, arith, rules, Some, length, inl, refl, ap, ◌∙◌}
use Rattle.socket_flow.specs.Table.{socket_at, out_of, stage_of, Puts, HasSame}
use Rattle.socket_flow.specs.declared.flow.SocketFlow.{SocketFlow}
use Rattle.socket_flow.specs.declared.socket.Socket.{Socket}
use Rattle.socket_flow.specs.declared.socket_table.SocketTable.{SocketTable}
use Rattle.socket_flow.proofs.Bounded.{Holds, taken_in, talk_kept, same_table, held, stranger_of}
use Rattle.socket_flow.proofs.Meeting.{Meets, met, met_put, met_same, is_settled}
use Rattle.socket_flow.proofs.flow.SocketFlow.dial.Goals as goal

-- a socket is taken in, on which the announcement waits, and then has an id
dials : (flow : SocketFlow) (a b : SocketTable) (key v : ℕ) (socket : Socket) → Puts flow.table a key (Some socket) → HasSame a b
    → length socket.out ≡ length flow.greeting → v ≡ flow.unsent + length flow.greeting → stranger_of (Some socket) ≡ 0 → Holds b v flow.strangers
dials flow a b key v socket puts same size counts strangers =
    let said = flow.said in
    let h = taken_in flow.table a key (Some socket) flow.unsent v flow.strangers flow.strangers puts (omega (arith, size, counts)) (omega (arith, size, said)) (omega (arith, strangers)) (held flow) in
    talk_kept a b v flow.strangers (λ k. (ap out_of (same k), ap stage_of (same k))) h

met_dialing : (flow : SocketFlow) (a b : SocketTable) (key : ℕ) (socket : Socket) → Puts flow.table a key (Some socket) → HasSame a b → is_settled (Some socket.stage) ≡ true → Meets b flow.caller flow.callers.items
met_dialing flow a b key socket puts same settled =
    met_same a b flow.caller flow.callers.items same (met_put flow.table a key (socket_at flow.table key) (Some socket) flow.caller flow.callers.items refl puts (inl settled) (met flow))

pub invariant_of-self-in-Break-branch-3 : goal.invariant_of-self-in-Break-branch-3
invariant_of-self-in-Break-branch-3 c =
    let flow = c.args.self.now in
    let h = same_table flow c.insert.new.self c.in_err-key.ensures.err in
    record { said = flow.said; counted = h.counted; bounded = h.bounded; announces = h.announces; alone = h.alone; in_line = h.in_line }

pub invariant_of-self-in-Break-branch-4 : goal.invariant_of-self-in-Break-branch-4
invariant_of-self-in-Break-branch-4 c =
    let flow = c.args.self.now in
    let out : c.put.new.self ≡ flow.greeting = search rules in
    let size : length c.new.result.out ≡ length flow.greeting = ap {B = ℕ} (λ s. length s.out) c.new.ensures ∙ ap {B = ℕ} (λ bytes. length bytes) out in
    let own = ap {B = ℕ} (λ bytes. length bytes) out in
    let sum : c.in_ok-unsent.unsent ≡ flow.unsent + length c.put.new.self = search rules in
    let m = met_dialing flow c.insert.new.self c.name.new.self c.in_ok-key.key c.new.result c.in_ok-key.ensures.sockets c.name.ensures.sockets (ap {B = Bool} (λ s. is_settled (Some s.stage)) c.new.ensures) in
    let h = dials flow c.insert.new.self c.name.new.self c.in_ok-key.key c.in_ok-unsent.unsent c.new.result c.in_ok-key.ensures.sockets c.name.ensures.sockets size (omega (arith, sum, own))
    (ap {B = ℕ} (λ s. stranger_of (Some s)) c.new.ensures) in
    record { said = flow.said; counted = h.counted; bounded = h.bounded; announces = h.announces; alone = m.alone; in_line = m.in_line }

pub invariant_of-self-in-Break-branch-5 : goal.invariant_of-self-in-Break-branch-5
invariant_of-self-in-Break-branch-5 c =
    let flow = c.args.self.now in
    let out : c.put.new.self ≡ flow.greeting = search rules in
    let size : length c.new.result.out ≡ length flow.greeting = ap {B = ℕ} (λ s. length s.out) c.new.ensures ∙ ap {B = ℕ} (λ bytes. length bytes) out in
    let own = ap {B = ℕ} (λ bytes. length bytes) out in
    let sum : c.in_ok-unsent.unsent ≡ flow.unsent + length c.put.new.self = search rules in
    let m = met_dialing flow c.insert.new.self c.name.new.self c.in_ok-key.key c.new.result c.in_ok-key.ensures.sockets c.name.ensures.sockets (ap {B = Bool} (λ s. is_settled (Some s.stage)) c.new.ensures) in
    let h = dials flow c.insert.new.self c.name.new.self c.in_ok-key.key c.in_ok-unsent.unsent c.new.result c.in_ok-key.ensures.sockets c.name.ensures.sockets size (omega (arith, sum, own))
    (ap {B = ℕ} (λ s. stranger_of (Some s)) c.new.ensures) in
    record { said = flow.said; counted = h.counted; bounded = h.bounded; announces = h.announces; alone = m.alone; in_line = m.in_line }

pub invariant_of-self-2 : goal.invariant_of-self-2
invariant_of-self-2 c =
    let flow = c.args.self.now in
    let out : c.put.new.self ≡ flow.greeting = search rules in
    let size : length c.new.result.out ≡ length flow.greeting = ap {B = ℕ} (λ s. length s.out) c.new.ensures ∙ ap {B = ℕ} (λ bytes. length bytes) out in
    let own = ap {B = ℕ} (λ bytes. length bytes) out in
    let sum : c.in_ok-unsent.unsent ≡ flow.unsent + length c.put.new.self = search rules in
    let m = met_dialing flow c.insert.new.self c.name.new.self c.in_ok-key.key c.new.result c.in_ok-key.ensures.sockets c.name.ensures.sockets (ap {B = Bool} (λ s. is_settled (Some s.stage)) c.new.ensures) in
    let h = dials flow c.insert.new.self c.name.new.self c.in_ok-key.key c.in_ok-unsent.unsent c.new.result c.in_ok-key.ensures.sockets c.name.ensures.sockets size (omega (arith, sum, own))
    (ap {B = ℕ} (λ s. stranger_of (Some s)) c.new.ensures) in
    record { said = flow.said; counted = h.counted; bounded = h.bounded; announces = h.announces; alone = m.alone; in_line = m.in_line }
