-- A peer that has answered where the chains meet is hot.
use Rattle.std.proofs.Common.{◌≡◌, true, false, ◌==◌, is_some, Option, Some, None, sym, ap, ◌∙◌, subst, eqb-true, arith}
use Rattle.laws.proofs.Words.{cond_both, false≢true}
use Rattle.laws.specs.Words.{Item, Phase, Hot, Peer, Addr, Fault, Protocol, CloseCause, has_id, is_negotiated_phase, Effect, then_do, entry_turns, with_entry, ending, handled_in, answered_as, Owed, pays, paid, brings, peer_becomes, peer_at, Machine, Entry, entry_at}
use Rattle.laws.specs.Acts.{Act, handles_item, does}
use Rattle.laws.specs.CarriedOut.{OnPeer, HeatsUp}
use Rattle.laws.proofs.Failures.{changed-found}
use Rattle.laws.proofs.Lists.{find_some}
use Rattle.laws.proofs.Moments.{ending-none}

abbrev IsHot : Entry → Machine → Type 0
IsHot e after = is_some (entry_at e.facts.cid.0 after) ≡ true → OnPeer (peer_at e.facts.addr after) (λ p. p.temp ≡ Hot)

ended-hot : (cause : CloseCause) (e : Entry) (m : Machine) → IsHot e (ending cause e m).machine
ended-hot cause e m there = absurd (false≢true (sym (ap is_some (ending-none cause e m)) ∙ there))

abbrev hot : Peer → Peer
hot p = record p { temp = Hot }

becomes-hot : (addr : Addr) (m : Machine) → OnPeer (peer_at addr (peer_becomes Hot addr m).machine) (λ p. p.temp ≡ Hot)
becomes-hot addr m = grind (arith, changed-found)

answered-hot : (o : Option Owed) (item : Item) (e : Entry) (m : Machine) → item.id ≡ 2 → IsHot e (answered_as o item e m).machine
answered-hot None item e m on = ended-hot (Fault Protocol) e m
answered-hot (Some owed) item e m on =
    cond_both (pays owed item.body) (then_do (entry_turns e (paid item.id e) m) (brings item.id item.body e)) (ending (Fault Protocol) e m) (λ (effect : Effect). IsHot e effect.machine)
    (λ pays there. subst (λ n. OnPeer (peer_at e.facts.addr (brings n item.body e (with_entry (paid item.id e) m)).machine) (λ p. p.temp ≡ Hot)) (sym on)
    (becomes-hot e.facts.addr (with_entry (paid item.id e) m)))
    (λ other. ended-hot (Fault Protocol) e m)

handled-hot : (p : Phase) (item : Item) (e : Entry) (m : Machine) → is_negotiated_phase p ≡ true → (item.side == 0) ≡ false → item.id ≡ 2 → IsHot e (handled_in p item e m).machine
handled-hot p item e m negotiated answers on = grind (arith, answered-hot)

pub heats-up : (act : Act) (m : Machine) → HeatsUp act m (does act m).machine
heats-up (handles_item own item) m =
    let each = λ (e : Entry). handled-hot e.facts.phase item e m in
    let own_id = λ (e : Entry) (is : entry_at own.0 m ≡ Some e). eqb-true e.facts.cid.0 own.0 (find_some (λ x. has_id own.0 x.facts) m.connections e is).passes in
    grind (arith, each, own_id)
heats-up other m = tt
