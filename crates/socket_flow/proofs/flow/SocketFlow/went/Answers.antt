use Rattle.std.proofs.Common.{◌≡◌, ℕ, ◌-◌, arith, rules, min, Some, length, drop, true, false, ap, ◌∙◌, Option, inr, List, Result, Ok, Err, OnOk, refl}
use Rattle.std.proofs.lemmas.List.{length-drop}
use Rattle.socket_flow.specs.Table.{socket_at, Puts}
use Rattle.socket_flow.specs.declared.flow.SocketFlow.{SocketFlow}
use Rattle.socket_flow.specs.declared.socket.Socket.{Socket}
use Rattle.socket_flow.specs.declared.socket_table.SocketTable.{SocketTable}
use Rattle.socket_flow.proofs.Bounded.{Stays, put_on, held, stranger_of}
use Rattle.socket_flow.proofs.Meeting.{met, met_put}
use Rattle.socket_flow.specs.declared.socket.Stage.{Stage}
use Rattle.socket_flow.proofs.Queueing.{queued_before}
use Rattle.socket_flow.proofs.flow.SocketFlow.went.Goals as goal

-- so many bytes of what waited went out, and were counted down
gone_out : (flow : SocketFlow) (b : SocketTable) (key count v : ℕ) (old went new : Socket) → Some old ≡ socket_at flow.table key → Puts flow.table b key (Some new)
    → went ≡ record old { out = drop (min count (length old.out)) old.out; has_taken = true } → new ≡ record went { is_held = false }
    → v ≡ flow.unsent - min count (length old.out) → Stays flow b v flow.strangers
gone_out flow b key count v old went new is puts drops free left =
    let size : length new.out ≡ length old.out - min count (length old.out) =
    ap {B = ℕ} (λ s. length s.out) free ∙ (ap {B = ℕ} (λ s. length s.out) drops ∙ length-drop (min count (length old.out)) old.out) in
    let strangers : stranger_of (Some new) ≡ stranger_of (Some old) = ap {B = ℕ} (λ s. stranger_of (Some s)) free ∙ ap {B = ℕ} (λ s. stranger_of (Some s)) drops in
    let h = put_on flow.table b key (Some old) (Some new) flow.unsent v flow.strangers flow.strangers is puts (omega (arith, size, left)) (omega (arith, size)) (omega (arith, strangers)) (held flow) in
    let same = ap {B = Option Stage} (λ s. Some s.stage) free ∙ ap {B = Option Stage} (λ s. Some s.stage) drops in
    let m = met_put flow.table b key (Some old) (Some new) flow.caller flow.callers.items is puts (inr same) (met flow) in
    record { counted = h.counted; bounded = h.bounded; announces = h.announces; alone = m.alone; in_line = m.in_line }

pub invariant_of-self-in-Break-1 : goal.invariant_of-self-in-Break-1
invariant_of-self-in-Break-1 c =
    let flow = c.args.self.now in
    let w = c.release.new.socket in
    let count = c.went.ensures.count in
    let left = c.saturating_sub-self.ensures in
    let h = gone_out flow (record flow.table { sockets = c.get_mut.follows.lender w }) c.args.key c.args.count c.saturating_sub-self.result c.in-Some.socket.now c.went.new.self w
    c.in-Some.ensures.value ((c.get_mut.follows.holds w).3 (search rules)).0 c.went.ensures.after c.release.ensures.socket (omega (arith, count, left)) in
    record { said = flow.said; counted = h.counted; bounded = h.bounded; announces = h.announces; alone = h.alone; in_line = h.in_line }

pub invariant_of-self-then-unsent-gt0 : goal.invariant_of-self-then-unsent-gt0
invariant_of-self-then-unsent-gt0 c =
    let flow = c.args.self.now in
    let w = c.release.new.socket in
    let count = c.went.ensures.count in
    let left = c.saturating_sub-self.ensures in
    let h = gone_out flow (record flow.table { sockets = c.get_mut.follows.lender w }) c.args.key c.args.count c.saturating_sub-self.result c.in-Some.socket.now c.went.new.self w
    c.in-Some.ensures.value ((c.get_mut.follows.holds w).3 (search rules)).0 c.went.ensures.after c.release.ensures.socket (omega (arith, count, left)) in
    record { said = flow.said; counted = h.counted; bounded = h.bounded; announces = h.announces; alone = h.alone; in_line = h.in_line }

pub invariant_of-self-in-Closing : goal.invariant_of-self-in-Closing
invariant_of-self-in-Closing c =
    let flow = c.args.self.now in
    let w = c.release.new.socket in
    let count = c.went.ensures.count in
    let left = c.saturating_sub-self.ensures in
    let h = gone_out flow (record flow.table { sockets = c.get_mut.follows.lender w }) c.args.key c.args.count c.saturating_sub-self.result c.in-Some.socket.now c.went.new.self w
    c.in-Some.ensures.value ((c.get_mut.follows.holds w).3 (search rules)).0 c.went.ensures.after c.release.ensures.socket (omega (arith, count, left)) in
    record { said = flow.said; counted = h.counted; bounded = h.bounded; announces = h.announces; alone = h.alone; in_line = h.in_line }

pub invariant_of-self-2 : goal.invariant_of-self-2
invariant_of-self-2 c =
    let flow = c.args.self.now in
    let w = c.release.new.socket in
    let count = c.went.ensures.count in
    let left = c.saturating_sub-self.ensures in
    let h = gone_out flow (record flow.table { sockets = c.get_mut.follows.lender w }) c.args.key c.args.count c.saturating_sub-self.result c.in-Some.socket.now c.went.new.self w
    c.in-Some.ensures.value ((c.get_mut.follows.holds w).3 (search rules)).0 c.went.ensures.after c.release.ensures.socket (omega (arith, count, left)) in
    record { said = flow.said; counted = h.counted; bounded = h.bounded; announces = h.announces; alone = h.alone; in_line = h.in_line }

pub returns-then-matches-clause-turns : goal.returns-then-matches-clause-turns
returns-then-matches-clause-turns c =
    let same : c.match-matches.self.turns ≡ c.release.new.turns = search rules in
    queued_before _ _ _ _ _ c.in_ok-release.ensures.turns (c.lose.ensures.turns ∙ same)

pub returns-then-matches-clause-after : goal.returns-then-matches-clause-after
returns-then-matches-clause-after c = search rules

pub returns-then-matches-clause-rest : goal.returns-then-matches-clause-rest
returns-then-matches-clause-rest c = search rules

both_ok : {T E : Type 0} (r : Result T E) (A B : Type 0) (w : List ℕ) → OnOk r A → OnOk r B → OnOk r ((w ≡ w) × A × B)
both_ok (Ok x) A B w a b = (refl, a, b)
both_ok (Err e) A B w a b = tt

pub returns-then-matches-clause-made : goal.returns-then-matches-clause-made
returns-then-matches-clause-made c = both_ok _ _ _ _ (returns-then-matches-clause-after c) (returns-then-matches-clause-rest c)
