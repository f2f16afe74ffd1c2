use Rattle.std.proofs.Common.{◌≡◌, ℕ, ◌+◌, ◌≤◌, Bool, false, arith, rules, [], ◌∷◌, ◌++◌, Some, Result, Ok, Err, IfOk, OnErr, length, inl, refl, sym, subst, ap, ◌∙◌}
use Rattle.socket_flow.specs.Peers.{StandInLine}
use Rattle.socket_flow.specs.Table.{socket_at, is_told, Puts, HasSame}
use Rattle.socket_flow.specs.declared.flow.SocketFlow.{SocketFlow}
use Rattle.socket_flow.specs.declared.socket.Socket.{Socket}
use Rattle.socket_flow.specs.declared.socket_table.SocketTable.{SocketTable}
use Rattle.socket_flow.proofs.Bounded.{Holds, taken_in, same_table, held, holds_of, meets_of, stranger_of}
use Rattle.socket_flow.proofs.Meeting.{Meets, met, met_put, met_longer, met_waiting, is_settled}
use Rattle.socket_flow.proofs.flow.SocketFlow.accepted.Goals as goal

-- a socket is taken in on which nothing waits
comes : (flow : SocketFlow) (b : SocketTable) (key t : ℕ) (socket : Socket) → Puts flow.table b key (Some socket) → length socket.out ≡ 0 → flow.strangers + stranger_of (Some socket) ≤ t → Holds b flow.unsent t
comes flow b key t socket puts size strangers =
    taken_in flow.table b key (Some socket) flow.unsent flow.unsent flow.strangers t puts (omega (arith, size)) (omega (arith, size)) strangers (held flow)

-- and what it keeps where the socket is taken in, or is not for want of memory: its key stands in line
record Welcomes (flow : SocketFlow) (b : SocketTable) (key : ℕ) : Type 0 where
  holds : Holds b flow.unsent flow.strangers
  meets : Meets b flow.caller (flow.callers.items ++ key ∷ [])

welcomes : {E : Type 0} (r : Result ℕ E) (flow : SocketFlow) (b : SocketTable) (key : ℕ) (socket : Socket) → IfOk r (λ k. k ≡ key) → IfOk r (λ k. Puts flow.table b k (Some socket)) → OnErr r (HasSame flow.table b)
    → length socket.out ≡ 0 → stranger_of (Some socket) ≡ 0 → is_told (Some socket.stage) ≡ false → Welcomes flow b key
welcomes (Ok k) flow b key socket is puts same size none untold = record {
  holds = comes flow b k flow.strangers socket puts size (omega (arith, none));
  meets = subst (λ j. Meets b flow.caller (flow.callers.items ++ j ∷ [])) is (met_waiting flow.table b k (Some socket) flow.caller flow.callers.items puts untold (met flow));
}
welcomes (Err e) flow b key socket is puts same size none untold =
    let h = same_table flow b same in record {
      holds = holds_of flow b flow.unsent flow.strangers h;
      meets = met_longer b flow.caller flow.callers.items key (meets_of flow b flow.unsent flow.strangers h);
    }

pub invariant_of-self-then-is_empty : goal.invariant_of-self-then-is_empty
invariant_of-self-then-is_empty c =
    let flow = c.args.self.now in
    let size = ap {B = ℕ} (λ s. length s.out) c.new-waiting.ensures ∙ ap {B = ℕ} (λ bytes. length bytes) c.new.ensures in
    let none = ap {B = ℕ} (λ s. stranger_of (Some s)) c.new-waiting.ensures in
    let untold = ap {B = Bool} (λ s. is_told (Some s.stage)) c.new-waiting.ensures in
    let w = welcomes c.insert.result flow c.insert.new.self flow.table.next_key c.new-waiting.result c.insert.ensures.key c.insert.ensures.sockets c.insert.ensures.err size none untold in
    let line = c.in_ok-push_back.ensures.items ∙ ap (λ k. flow.callers.items ++ k ∷ []) c.next_key.ensures in
    record {
      said = flow.said;
      counted = w.holds.counted;
      bounded = w.holds.bounded;
      announces = w.holds.announces;
      alone = w.meets.alone;
      in_line = subst (λ l. StandInLine c.insert.new.self l) (sym line) w.meets.in_line;
    }

pub invariant_of-self-in-Break-branch-4 : goal.invariant_of-self-in-Break-branch-4
invariant_of-self-in-Break-branch-4 c =
    let flow = c.args.self.now in
    let h = same_table flow c.insert-2.new.self c.in_err-key-2.ensures.err in
    record { said = flow.said; counted = h.counted; bounded = h.bounded; announces = h.announces; alone = h.alone; in_line = h.in_line }

pub invariant_of-self-in-Break-branch-5 : goal.invariant_of-self-in-Break-branch-5
invariant_of-self-in-Break-branch-5 c =
    let flow = c.args.self.now in
    let size = ap {B = ℕ} (λ s. length s.out) c.stranger.ensures in
    let one = ap {B = ℕ} (λ s. stranger_of (Some s)) c.stranger.ensures in
    let more : c.in_ok-strangers.strangers ≡ flow.strangers + 1 = search rules in
    let h = comes flow c.insert-2.new.self c.in_ok-key-2.key c.in_ok-strangers.strangers c.stranger.result c.in_ok-key-2.ensures.sockets size (omega (arith, one, more)) in
    let m = met_put flow.table c.insert-2.new.self c.in_ok-key-2.key (socket_at flow.table c.in_ok-key-2.key) (Some c.stranger.result) flow.caller flow.callers.items refl c.in_ok-key-2.ensures.sockets
    (inl (ap {B = Bool} (λ s. is_settled (Some s.stage)) c.stranger.ensures)) (met flow) in
    record { said = flow.said; counted = h.counted; bounded = h.bounded; announces = h.announces; alone = m.alone; in_line = m.in_line }

pub invariant_of-self-2 : goal.invariant_of-self-2
invariant_of-self-2 c =
    let flow = c.args.self.now in
    let size = ap {B = ℕ} (λ s. length s.out) c.stranger.ensures in
    let one = ap {B = ℕ} (λ s. stranger_of (Some s)) c.stranger.ensures in
    let more : c.in_ok-strangers.strangers ≡ flow.strangers + 1 = search rules in
    let h = comes flow c.insert-2.new.self c.in_ok-key-2.key c.in_ok-strangers.strangers c.stranger.result c.in_ok-key-2.ensures.sockets size (omega (arith, one, more)) in
    let m = met_put flow.table c.insert-2.new.self c.in_ok-key-2.key (socket_at flow.table c.in_ok-key-2.key) (Some c.stranger.result) flow.caller flow.callers.items refl c.in_ok-key-2.ensures.sockets
    (inl (ap {B = Bool} (λ s. is_settled (Some s.stage)) c.stranger.ensures)) (met flow) in
    record { said = flow.said; counted = h.counted; bounded = h.bounded; announces = h.announces; alone = m.alone; in_line = m.in_line }
