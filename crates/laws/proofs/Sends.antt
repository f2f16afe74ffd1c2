-- What is due is sent, and nothing else.
use Rattle.std.proofs.Common.{ℕ, ◌+◌, ◌%◌, ◌≡◌, Bool, false, ◌&&◌, if◌then◌else◌, List, [], ◌++◌, Option, Some, None, Result, Ok, Err, refl, sym, ap, ◌∙◌, subst, eqb-true, append-nil, arith}
use Rattle.laws.proofs.Words.{cond_both, flat_map-append}
use Rattle.laws.specs.Words.{acquired, agreed_inbound, agreed_outbound, agreed_sharing, has_id, is_acquirable, is_dialing, Order, proposal_of, Verdict, Item, Refused, Query, Fault, FaultKind, Malformed, Protocol, Addr, Cid, Facts, Phase, Cold, Warm, Seen, written_alive, written_request, Done, with_entry, entry_turns, ending, is_used, trim, release, dial_opens, Effect, then_do, on_entry, dialed, promoted_at, asks_peer, activates, deactivates, carries_out, judged, decided, greets, sends_answer, Machine, Entry, entry_at, own_info, peer_at, peer_becomes, peer_succeeds, owing, sends_as_initiator, peer_sharing_done, find_intersect, chain_sync_done, handled_in, handled, serves, begins, takes_requests, asked_as, talks}
use Rattle.laws.specs.Words.verdict
use Rattle.warm_messages.specs.declared.alive.Alive.TheVariants.{Ask as AskAlive}
use Rattle.laws.specs.Acts.{Act, does}
use Rattle.laws.specs.Sends.{says, keeps_alive, on_one, due_by_order, answers, comes_into_use, due_by_verdict, by_message, due_in_greeting, SendsInUse, SendsByPhase, SendsOnItem, SendsRight}
use Rattle.laws.specs.Served.{Sent, sent_by, sent_in}
use Rattle.laws.specs.Parts.{IsNext}
use Rattle.laws.proofs.ItemCases.{greets-due}
use Rattle.laws.proofs.Lists.{find_some}
use Rattle.laws.proofs.Moments.{turned-found}
use Rattle.laws.proofs.Walk.{is_released, turned_by, cooled, on_those, says_done-machine, replies-machine, Finds, answer-machine}
use Rattle.laws.proofs.Silent.{sent-deaf, turns-silent, changed-silent, ending-silent, vanishes-silent, trim-silent, connects-silent, begins-silent, answered-silent, asks-silent, quiet-silent}
use Rattle.laws.proofs.WaitsOfParts.{changed-waits}
use Rattle.laws.proofs.Cases.{by_option}

-- ---- one part after the other

then-sends : (first : Effect) (next : Machine → Effect) (xs ys : List Sent) → sent_in first.actions ≡ xs → sent_in (next first.machine).actions ≡ ys →
    sent_in (then_do first next).actions ≡ xs ++ ys
then-sends first next xs ys one two = flat_map-append sent_by first.actions (next first.machine).actions ∙ (λ i. one i ++ two i)

-- where the first sends nothing
then-silent : (first : Effect) (next : Machine → Effect) (ys : List Sent) → sent_in first.actions ≡ [] → sent_in (next first.machine).actions ≡ ys →
    sent_in (then_do first next).actions ≡ ys
then-silent first next ys one two = then-sends first next [] ys one two

-- where what follows sends nothing
then-sent : (first : Effect) (next : Machine → Effect) (xs : List Sent) → sent_in first.actions ≡ xs → sent_in (next first.machine).actions ≡ [] →
    sent_in (then_do first next).actions ≡ xs
then-sent first next xs one two = then-sends first next xs [] one two ∙ append-nil xs

-- ---- a dial ends

opens-sends : (e : Entry) (m : Machine) → sent_in (dial_opens e m).actions ≡ says e.facts.cid.0 0 0 (proposal_of (own_info m.settings)) m
opens-sends e m = grind (arith, then-silent, turns-silent, sent-deaf)

-- ---- orders

used-sends : (f : Facts) (e : Entry) (m : Machine) → sent_in (is_used f e m).actions ≡ keeps_alive f.cid.0 m
used-sends f e m =
    let new : Entry = owing 8 (f.cid.0 % 65536) m (record e { facts = f }) in
    let n : Machine = with_entry new m in
    let sends : Machine → Effect = sends_as_initiator f.cid 8 (written_alive (AskAlive (f.cid.0 % 65536))) in
    then-silent (entry_turns e new m) (λ x. then_do (peer_succeeds f.addr x) sends) (keeps_alive f.cid.0 m) (turns-silent sent_by sent-deaf e new m)
    (then-silent (peer_succeeds f.addr n) sends (keeps_alive f.cid.0 m)
    (changed-silent sent_by sent-deaf (peer_at f.addr n) (λ p. record p { temp = Warm; failures = 0 }) n)
    (ap (λ t. keeps_alive f.cid.0 (record m { now = t })) (changed-waits (on_those (λ cid. false)) (peer_at f.addr n) (λ p. record p { temp = Warm; failures = 0 }) n).unset.now))

-- what a release does behind what it says
abbrev pub gives_up : Entry → Machine → Effect
gives_up e m = then_do (entry_turns e (turned_by is_released e m) m) (λ n. then_do (peer_becomes Cold e.facts.addr n) (trim e.facts.cid))

pub gives_up-silent : (e : Entry) (m : Machine) → sent_in (gives_up e m).actions ≡ []
gives_up-silent e m =
    let n : Machine = with_entry (turned_by is_released e m) m in
    then-silent (entry_turns e (turned_by is_released e m) m) (λ w. then_do (peer_becomes Cold e.facts.addr w) (trim e.facts.cid)) [] (turns-silent sent_by sent-deaf e (turned_by is_released e m) m)
    (then-silent (peer_becomes Cold e.facts.addr n) (trim e.facts.cid) [] (changed-silent sent_by sent-deaf (peer_at e.facts.addr n) (λ p. record p { temp = Cold }) n)
    (trim-silent sent_by sent-deaf e.facts.cid (cooled e m)))

release-sends : (e : Entry) (m : Machine) → sent_in (release e m).actions
    ≡ (if agreed_sharing e.facts.agreed then says e.facts.cid.0 0 10 peer_sharing_done m else []) ++ says e.facts.cid.0 0 8 (written_alive Done) m
release-sends e m = grind (arith, says_done-machine, gives_up-silent, then-sent)

asks_peer-sends : (n : ℕ) (e : Entry) (m : Machine) → sent_in (asks_peer n e m).actions ≡ says e.facts.cid.0 0 10 (written_request n) m
asks_peer-sends n e m = grind (arith, then-sent, then-silent, turns-silent, sent-deaf, changed-silent)

activates-sends : (e : Entry) (m : Machine) → sent_in (activates e m).actions ≡ says e.facts.cid.0 0 2 find_intersect m
activates-sends e m = grind arith

deactivates-sends : (e : Entry) (m : Machine) → sent_in (deactivates e m).actions ≡ says e.facts.cid.0 0 2 chain_sync_done m
deactivates-sends e m = grind (arith, then-sent, changed-silent, sent-deaf)

on_used-sends : (o : Option Entry) (act : Entry → Machine → Effect) (m : Machine) (due : Entry → List Sent) → ((e : Entry) → sent_in (act e m).actions ≡ due e) →
    sent_in (on_entry o act m).actions ≡ on_one o due
on_used-sends None act m due each = refl
on_used-sends (Some e) act m due each = each e

promoted_at-sends : (o : Option Entry) (addr : Addr) (m : Machine) →
    sent_in (promoted_at o addr m).actions ≡ on_one o (λ e. if is_acquirable e.facts then keeps_alive e.facts.cid.0 m else [])
promoted_at-sends None addr m = refl
promoted_at-sends (Some e) addr m = grind (arith, used-sends (acquired e.facts) e m)

orders-send : (order : Order) (m : Machine) → sent_in (carries_out order m).actions ≡ due_by_order order m
orders-send order m = grind (arith, on_used-sends, asks_peer-sends, promoted_at-sends, release-sends, activates-sends, deactivates-sends)

-- ---- the handshake

judged-sends : (v : Verdict) (e : Entry) (m : Machine) → sent_in (judged v e m).actions ≡ (if comes_into_use v then keeps_alive e.facts.cid.0 m else [])
judged-sends (verdict.Accept agreed) e m = turns-silent sent_by sent-deaf e (record e { facts = agreed_inbound agreed (m.now + m.settings.idle) e.facts }) m
judged-sends verdict.Query e m = ending-silent sent_by sent-deaf Query e m
judged-sends (verdict.Agree agreed) e m = used-sends (agreed_outbound agreed (m.now + m.settings.idle) e.facts) e m
judged-sends verdict.Wrong e m = ending-silent sent_by sent-deaf (Fault Protocol) e m
judged-sends other e m = ending-silent sent_by sent-deaf Refused e m

answer-sends : (o : Option (List ℕ)) (cid : Cid) (m : Machine) → sent_in (sends_answer o cid m).actions ≡ answers o cid.0 m
answer-sends None cid m = refl
answer-sends (Some bytes) cid m = refl

pub decided-sends : (v : Verdict) (e : Entry) (m : Machine) → sent_in (decided v e m).actions ≡ due_by_verdict v e.facts.cid.0 m
decided-sends v e m = grind (arith, judged-sends, then-sends, answer-sends, answer-machine)

greets-sends : (item : Item) (e : Entry) (m : Machine) → sent_in (greets item e m).actions ≡ due_in_greeting item e.facts m
greets-sends item e m = greets-due by_message [] (λ v. due_by_verdict v e.facts.cid.0 m) item e m (λ effect due. sent_in effect.actions ≡ due)
    (λ due. ending-silent sent_by sent-deaf (Fault Malformed) e m) (ending-silent sent_by sent-deaf (Fault Protocol) e m) (λ effect msg due h. h) (λ v. decided-sends v e m)

-- ---- once the handshake is done

-- who is served stands
serves-stands : (seen : Seen) (protocol : ℕ) (f : Entry) (m : Machine) → entry_at f.facts.cid.0 m ≡ Some f → entry_at f.facts.cid.0 (serves seen protocol f m).machine ≡ None → ⊥
serves-stands seen protocol f m stands = grind (arith, replies-machine seen.reply protocol f m, turned-found)

-- nothing is sent to one that has ended
asked-gone : (r : Result Seen FaultKind) (protocol : ℕ) (e : Entry) (m : Machine) → entry_at e.facts.cid.0 (asked_as r protocol e m).machine ≡ None →
    sent_in (asked_as r protocol e m).actions ≡ []
asked-gone (Err fault) protocol e m = λ gone. ending-silent sent_by sent-deaf (Fault fault) e m
asked-gone (Ok seen) protocol e m =
    let first : Effect = begins protocol e m in
    cond_both (takes_requests e) (then_do first (on_entry (entry_at e.facts.cid.0 first.machine) (serves seen protocol))) (ending (Fault Protocol) e m)
    (λ effect. entry_at e.facts.cid.0 effect.machine ≡ None → sent_in effect.actions ≡ [])
    (λ takes. by_option (entry_at e.facts.cid.0 first.machine)
    (λ o. entry_at e.facts.cid.0 (then_do first (on_entry o (serves seen protocol))).machine ≡ None → sent_in (then_do first (on_entry o (serves seen protocol))).actions ≡ [])
    (λ is gone. then-silent first (on_entry None (serves seen protocol)) [] (begins-silent sent_by sent-deaf protocol e m) refl)
    (λ f is gone.
    let same : f.facts.cid.0 ≡ e.facts.cid.0 = eqb-true f.facts.cid.0 e.facts.cid.0 (find_some (λ x. has_id e.facts.cid.0 x.facts) first.machine.connections f is).passes in
    absurd (serves-stands seen protocol f first.machine (subst (λ c. entry_at c first.machine ≡ Some f) (sym same) is)
    (subst (λ c. entry_at c (serves seen protocol f first.machine).machine ≡ None) (sym same) gone)))) (λ other gone. ending-silent sent_by sent-deaf (Fault Protocol) e m)

talks-sends : (item : Item) (e : Entry) (m : Machine) → SendsInUse item e (talks item e m)
talks-sends item e m = grind (arith, answered-silent, sent-deaf, asked-gone)

-- ---- each act

handled-sends : (p : Phase) (item : Item) (e : Entry) (m : Machine) → SendsByPhase p item e m (handled_in p item e m)
handled-sends p item e m = grind (arith, greets-sends, talks-sends)

item-sends : (o : Option Entry) (item : Item) (m : Machine) → SendsOnItem o item m (on_entry o (handled item) m)
item-sends None item m = refl
item-sends (Some e) item m = handled-sends e.facts.phase item e m

dialed-sends : (opened : Bool) (e : Entry) (m : Machine) → sent_in (dialed opened e m).actions ≡ (if is_dialing e.facts && opened then says e.facts.cid.0 0 0 (proposal_of (own_info m.settings)) m else [])
dialed-sends opened e m = grind (arith, opens-sends, vanishes-silent, sent-deaf)

pub sends-right : (act : Act) (m : Machine) → IsNext act m → Finds act m → SendsRight act m (does act m)
sends-right act m next found = grind (arith, asks-silent, orders-send, connects-silent, sent-deaf, on_used-sends, dialed-sends, item-sends, quiet-silent)
