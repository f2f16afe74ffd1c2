-- What an item leaves: what is agreed on in a handshake, which protocols the other side runs, and that what still stands stands open.
use Rattle.std.proofs.Common.{◌≡◌, true, if◌then◌else◌, Option, Some, None, refl, ap, ◌∙◌, eq-eqb, arith, ℕ, Bool, false, not, ◌==◌, Result, subst}
use Rattle.laws.proofs.Words.{false≢true}
use Rattle.laws.specs.Words.{option_and_then, is_greeting_phase, is_outbound_by, verdict_of, Acceptor, Dialer, Verdict, message_of, Message, Item, Cid, Phase, Greeting, role_of, Machine, Entry, entry_at, own_info, is_negotiated_phase, agreed_sharing, runs, with_responder, FaultKind, Negotiated, Responders, watched, Seen, paid, is_live, with_entry, on_entry, handled, handles}
use Rattle.laws.specs.Acts.{Act, handles_item, does}
use Rattle.laws.specs.Agreed.{agreement_of, agreement_in, WhereNegotiated, AgreesRight}
use Rattle.laws.specs.Untouched.{IsAsItWas}
use Rattle.laws.proofs.Turned.{turned_by_verdict, turned_by_message, turned_by_item, part-becomes, begun, stopped, turned_by_request}
use Rattle.laws.proofs.Walk.{Finds}
use Rattle.laws.proofs.Cases.{by_option}
use Rattle.laws.specs.Responders.{WhereSeen, WhereThere, RespondsRight}
use Rattle.laws.specs.Steady.{IsOrdered}
use Rattle.laws.proofs.Remains.{turned-found}

verdict-agrees : (v : Verdict) (e f : Entry) (m : Machine) → turned_by_verdict v e m ≡ Some f → f.facts.agreed ≡ agreement_of v
verdict-agrees v e f m is = grind (arith, is)

message-agrees : (o : Option Message) (e f : Entry) (m : Machine) → turned_by_message o e m ≡ Some f →
    f.facts.agreed ≡ option_and_then (λ message. agreement_of (verdict_of (if is_outbound_by e.facts.provenance then Dialer else Acceptor) (own_info m.settings) message)) o
message-agrees None e f m is = absurd cc
message-agrees (Some message) e f m is = grind (arith, verdict-agrees (verdict_of (role_of e.facts.provenance) (own_info m.settings) message) e f m is)

handled-agrees : (p : Phase) (item : Item) (e : Entry) (m : Machine) (o : Option Entry) → IsAsItWas (turned_by_item p item e m) o → is_greeting_phase p ≡ true →
    WhereNegotiated o (λ f. f.facts.agreed ≡ agreement_in e.facts item m.settings)
handled-agrees (Greeting until) item e m None becomes greeting = tt
handled-agrees (Greeting until) item e m (Some f) becomes greeting = λ negotiated. message-agrees (message_of item.body) e f m becomes
handled-agrees other item e m o becomes greeting = absurd (false≢true greeting)

item-agrees : (own : Cid) (item : Item) (m : Machine) → Finds (handles_item own item) m → AgreesRight (handles_item own item) m (does (handles_item own item) m).machine
item-agrees own item m found =
    let after : Option Entry = entry_at own.0 (does (handles_item own item) m).machine in
    let each = λ (e : Entry) (is : entry_at own.0 m ≡ Some e). handled-agrees e.facts.phase item e m after (part-becomes (handles_item own item) m found own.0 e (eq-eqb own.0 own.0 refl) is) in
    grind (arith, each)

pub agrees-right : (act : Act) (m : Machine) → Finds act m → AgreesRight act m (does act m).machine
agrees-right (handles_item cid item) m found = item-agrees cid item m found
agrees-right other m found = tt

-- one that runs is begun without a change
runs-begun : (protocol : ℕ) (r : Responders) → runs protocol r ≡ true → r ≡ with_responder protocol true r
runs-begun protocol r is = grind (arith, is)

-- one that has begun and stops is as one that stops
begun-stopped : (protocol : ℕ) (r : Responders) → with_responder protocol false (with_responder protocol true r) ≡ with_responder protocol false r
begun-stopped protocol r = grind arith

begun-running : (protocol : ℕ) (e : Entry) → (begun protocol e).facts.running ≡ with_responder protocol true e.facts.running
begun-running protocol e = grind (arith, runs-begun protocol e.facts.running)

stopped-running : (done : Bool) (protocol until : ℕ) (e : Entry) → (stopped done protocol until (begun protocol e)).facts.running ≡ with_responder protocol (not done) e.facts.running
stopped-running done protocol until e = grind (arith, begun-running protocol e, begun-stopped protocol e.facts.running)

-- where the connection is there, its responders are these
requested-runs : (r : Result Seen FaultKind) (protocol : ℕ) (e : Entry) (m : Machine) (o : Option Entry) → IsAsItWas (turned_by_request r protocol e m) o →
    WhereSeen r (λ seen. WhereThere o (λ f. f.facts.running ≡ with_responder protocol (not seen.done) e.facts.running))
requested-runs r protocol e m o becomes = grind (arith, stopped-running)

handled-runs : (p : Phase) (item : Item) (e : Entry) (m : Machine) (o : Option Entry) → IsAsItWas (turned_by_item p item e m) o → is_negotiated_phase p ≡ true → (item.side == 0) ≡ true →
    WhereSeen (watched item.id (agreed_sharing e.facts.agreed) item.body) (λ seen. WhereThere o (λ f. f.facts.running ≡ with_responder item.id (not seen.done) e.facts.running))
handled-runs Negotiated item e m o becomes negotiated asks =
    let r : Result Seen FaultKind = watched item.id (agreed_sharing e.facts.agreed) item.body in
    requested-runs r item.id e m o (subst (λ b. IsAsItWas (if b then turned_by_request r item.id e m else Some (paid item.id e)) o) asks becomes)
handled-runs other item e m o becomes negotiated asks = absurd (false≢true negotiated)

item-runs : (own : Cid) (item : Item) (m : Machine) → Finds (handles_item own item) m → RespondsRight (handles_item own item) m (does (handles_item own item) m).machine
item-runs own item m found =
    let after : Option Entry = entry_at own.0 (does (handles_item own item) m).machine in
    let each = λ (e : Entry) (is : entry_at own.0 m ≡ Some e). handled-runs e.facts.phase item e m after (part-becomes (handles_item own item) m found own.0 e (eq-eqb own.0 own.0 refl) is) in
    grind (arith, each)

pub responds-right : (act : Act) (m : Machine) → Finds act m → RespondsRight act m (does act m).machine
responds-right (handles_item cid item) m found = item-runs cid item m found
responds-right other m found = tt

-- whoever has the id there stands open
abbrev pub IsOpen : ℕ → Machine → Type 0
IsOpen cid m = (x : Entry) → entry_at cid m ≡ Some x → is_live x.facts ≡ true

pub turned-open : (new : Entry) (m : Machine) → is_live new.facts ≡ true → IsOpen new.facts.cid.0 (with_entry new m)
turned-open new m live x found = ap (λ y. is_live y.facts) (turned-found new x m found) ∙ live

verdict-live : (v : Verdict) (e x : Entry) (m : Machine) → turned_by_verdict v e m ≡ Some x → is_live x.facts ≡ true
verdict-live v e x m is = grind (arith, is)

message-live : (o : Option Message) (e x : Entry) (m : Machine) → turned_by_message o e m ≡ Some x → is_live x.facts ≡ true
message-live None e x m is = absurd cc
message-live (Some message) e x m is = verdict-live (verdict_of (role_of e.facts.provenance) (own_info m.settings) message) e x m is

requested-live : (r : Result Seen FaultKind) (protocol : ℕ) (e x : Entry) (m : Machine) → is_live e.facts ≡ true → turned_by_request r protocol e m ≡ Some x → is_live x.facts ≡ true
requested-live r protocol e x m live is = grind (arith, live, is)

item-live : (p : Phase) (item : Item) (e x : Entry) (m : Machine) → is_live e.facts ≡ true → turned_by_item p item e m ≡ Some x → is_live x.facts ≡ true
item-live p item e x m live is = grind (arith, requested-live, message-live)

pub handles-open : (cid : Cid) (item : Item) (m : Machine) → IsOrdered m → IsOpen cid.0 m → IsOpen cid.0 (handles cid item m).machine
handles-open cid item m h open_ x found = by_option (entry_at cid.0 m) (λ o. is_live x.facts ≡ true)
    (λ is. open_ x (subst (λ o. entry_at cid.0 (on_entry o (handled item) m).machine ≡ Some x) is found))
    (λ e is. item-live e.facts.phase item e x m (open_ e is)
    (subst (IsAsItWas (turned_by_item e.facts.phase item e m)) found (part-becomes (handles_item cid item) m h cid.0 e (eq-eqb cid.0 cid.0 refl) is)))
