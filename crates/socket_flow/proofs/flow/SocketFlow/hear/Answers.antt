use Rattle.std.proofs.Common.{◌≡◌, ℕ, arith, rules, List, Some, length, refl, ap, ◌∙◌, Option, inl, inr, sym, subst}
use Rattle.socket_flow.specs.Stages.{more_said}
use Rattle.socket_flow.specs.Table.{socket_at, Puts}
use Rattle.socket_flow.specs.declared.flow.SocketFlow.{SocketFlow}
use Rattle.socket_flow.specs.declared.socket.Socket.{Socket}
use Rattle.socket_flow.specs.declared.socket.Stage.{Stage}
use Rattle.socket_flow.specs.declared.socket.Stage.TheVariants.{Dialing, Announcing, Waiting, Told, Open, Closing}
use Rattle.socket_flow.specs.declared.socket_table.SocketTable.{SocketTable}
use Rattle.socket_flow.proofs.Bounded.{Stays, turns_to, stranger_of}
use Rattle.socket_flow.proofs.Meeting.{Settles}
use Rattle.socket_flow.proofs.flow.SocketFlow.hear.Goals as goal

-- whoever announces an address still does where more of it was heard
still : (socket : Socket) (stage : Stage) (bytes : List ℕ) → stranger_of (Some (record socket { stage = more_said stage bytes })) ≡ stranger_of (Some (record socket { stage = stage }))
still socket (Dialing id) bytes = refl
still socket (Announcing said) bytes = refl
still socket (Waiting addr) bytes = refl
still socket Told bytes = refl
still socket (Open id) bytes = refl
still socket Closing bytes = refl

still_settled : (stage : Stage) (bytes : List ℕ) → Settles (Some stage) (Some (more_said stage bytes))
still_settled (Dialing id) bytes = inr refl
still_settled (Announcing said) bytes = inl refl
still_settled (Waiting addr) bytes = inr refl
still_settled Told bytes = inr refl
still_settled (Open id) bytes = inr refl
still_settled Closing bytes = inr refl

heard : (flow : SocketFlow) (b : SocketTable) (key : ℕ) (bytes : List ℕ) (old new : Socket) → Some old ≡ socket_at flow.table key → Puts flow.table b key (Some new)
    → new ≡ record old { stage = more_said old.stage bytes } → Stays flow b flow.unsent flow.strangers
heard flow b key bytes old new is puts more =
    let size = ap {B = ℕ} (λ s. length s.out) more in
    let strangers = ap {B = ℕ} (λ s. stranger_of (Some s)) more ∙ still old old.stage bytes in
    let stage = ap {B = Option Stage} (λ s. Some s.stage) more in
    turns_to flow b key old new is puts (omega (arith, size)) (omega (arith, strangers)) (subst (λ s. Settles (Some old.stage) s) (sym stage) (still_settled old.stage bytes))

pub invariant_of-self-in-Break-1 : goal.invariant_of-self-in-Break-1
invariant_of-self-in-Break-1 c =
    let flow = c.args.self.now in
    let w = c.hear.new.self in
    let size = ap {B = ℕ} (λ s. length s.out) c.in_err-heard.ensures.err in
    let strangers = ap {B = ℕ} (λ s. stranger_of (Some s)) c.in_err-heard.ensures.err in
    let h = turns_to flow (record flow.table { sockets = c.get_mut.follows.lender w }) c.args.key c.in-Some.socket.now w c.in-Some.ensures.value ((c.get_mut.follows.holds w).3 (search rules)).0
    (omega (arith, size)) (omega (arith, strangers)) (inr (ap {B = Option Stage} (λ s. Some s.stage) c.in_err-heard.ensures.err)) in
    record { said = flow.said; counted = h.counted; bounded = h.bounded; announces = h.announces; alone = h.alone; in_line = h.in_line }

pub invariant_of-self-in_default-2 : goal.invariant_of-self-in_default-2
invariant_of-self-in_default-2 c =
    let flow = c.args.self.now in
    let w = c.hear.new.self in
    let h = heard flow (record flow.table { sockets = c.get_mut.follows.lender w }) c.args.key c.args.bytes.now c.in-Some.socket.now w c.in-Some.ensures.value ((c.get_mut.follows.holds w).3 (search rules)).0
    c.in_ok-heard.ensures.after in
    record { said = flow.said; counted = h.counted; bounded = h.bounded; announces = h.announces; alone = h.alone; in_line = h.in_line }

pub invariant_of-self-in-Front : goal.invariant_of-self-in-Front
invariant_of-self-in-Front c =
    let flow = c.args.self.now in
    let w = c.hear.new.self in
    let h = heard flow (record flow.table { sockets = c.get_mut.follows.lender w }) c.args.key c.args.bytes.now c.in-Some.socket.now w c.in-Some.ensures.value ((c.get_mut.follows.holds w).3 (search rules)).0
    c.in_ok-heard.ensures.after in
    record { said = flow.said; counted = h.counted; bounded = h.bounded; announces = h.announces; alone = h.alone; in_line = h.in_line }

pub invariant_of-self-in-Whole-1 : goal.invariant_of-self-in-Whole-1
invariant_of-self-in-Whole-1 c =
    let flow = c.args.self.now in
    let w = c.hear.new.self in
    let h = heard flow (record flow.table { sockets = c.get_mut.follows.lender w }) c.args.key c.args.bytes.now c.in-Some.socket.now w c.in-Some.ensures.value ((c.get_mut.follows.holds w).3 (search rules)).0
    c.in_ok-heard.ensures.after in
    record { said = flow.said; counted = h.counted; bounded = h.bounded; announces = h.announces; alone = h.alone; in_line = h.in_line }

pub invariant_of-self-in-Else : goal.invariant_of-self-in-Else
invariant_of-self-in-Else c =
    let flow = c.args.self.now in
    let w = c.hear.new.self in
    let h = heard flow (record flow.table { sockets = c.get_mut.follows.lender w }) c.args.key c.args.bytes.now c.in-Some.socket.now w c.in-Some.ensures.value ((c.get_mut.follows.holds w).3 (search rules)).0
    c.in_ok-heard.ensures.after in
    record { said = flow.said; counted = h.counted; bounded = h.bounded; announces = h.announces; alone = h.alone; in_line = h.in_line }
