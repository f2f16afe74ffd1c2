-- Who connects is let in, or turned away for the first cause that stands.
use Rattle.std.proofs.Common.{◌+◌, ◌≡◌, Bool, true, false, ◌&&◌, if◌then◌else◌, List, [], ◌∷◌, find, Option, Some, None, All, refl, sym, ap, ◌∙◌, subst, arith}
use Rattle.laws.proofs.Words.{both_ways, and_parts, false_from_ne_true, list_any_none, All-weaker}
use Rattle.laws.specs.Words.{list_any, accepted, is_live, is_live_at, is_pending, same_address, address_below, Away, OwnAddr, Crossed, Overwritten, Addr, Facts, ending, then_do, turned_away, admitted, accepted_beside, peer_connects, Machine, Entry, fresh_entry, live_entry_at}
use Rattle.net_base.specs.declared.action.Away.TheVariants.{Full, Present}
use Rattle.laws.specs.Acts.{Act, does}
use Rattle.laws.specs.Admitted.{is_crossing, is_present, cause_against, IsTurnedAway, IsNew, IsLetIn, ByCause, AdmitsRight}
use Rattle.laws.specs.AtMoves.{OnEntry}
use Rattle.laws.specs.Sound.{IsOrderly}
use Rattle.laws.specs.Parts.{IsNext}
use Rattle.laws.proofs.Entries.{gone-orderly}
use Rattle.laws.proofs.Lists.{OnePasses, OnePasses-none_after, OnePasses-tail, find_some}
use Rattle.laws.proofs.Silent.{admitted-deaf, turned_away-deaf, part-silent, asks-silent}
use Rattle.laws.proofs.ToldMoves.{new-found}
use Rattle.laws.proofs.Ties.{live_one}
use Rattle.laws.proofs.Walk.{Finds}

-- ---- what is found is what there is

abbrev passes_of : (Entry → Bool) → Option Entry → Bool
passes_of q None = false
passes_of q (Some e) = q e

-- where at most one passes a test, whatever passes a stricter one is it
any-found : (p q : Entry → Bool) → ((e : Entry) → q e ≡ true → p e ≡ true) → (es : List Entry) → OnePasses p es → list_any q es ≡ passes_of q (find p es)
any-found p q only [] one = refl
any-found p q only (x ∷ es) one =
    let none : p x ≡ true → All (λ e. q e ≡ false) es = λ here.
    All-weaker (λ e. p e ≡ false) (λ e. q e ≡ false) (λ e fails. false_from_ne_true (q e) (λ is. both_ways (p e) fails (only e is))) es (OnePasses-none_after p x es one here) in
    grind (arith, none, list_any_none q es, only x, any-found p q only es (OnePasses-tail p x es one))

pub pending-live : (f : Facts) → is_pending f ≡ true → is_live f ≡ true
pending-live f pending = grind (arith, pending)

pending-at : (addr : Addr) (e : Entry) → (same_address e.facts.addr addr && is_pending e.facts) ≡ true → is_live_at addr e.facts ≡ true
pending-at addr e h = grind (arith, h, pending-live e.facts)

crossing-found : (addr : Addr) (m : Machine) → IsOrderly m → is_crossing addr m ≡ passes_of (λ e. same_address e.facts.addr addr && is_pending e.facts) (live_entry_at addr m)
crossing-found addr m h = grind (arith, any-found, pending-at, live_one)

present-found : (addr : Addr) (m : Machine) → IsOrderly m → is_present addr m ≡ passes_of (λ e. is_live_at addr e.facts) (live_entry_at addr m)
present-found addr m h = any-found (λ e. is_live_at addr e.facts) (λ e. is_live_at addr e.facts) (λ e is. is) m.connections (live_one addr m h.addresses)

-- ---- who is let in

let-in : (addr : Addr) (m : Machine) → IsOrderly m → IsLetIn addr m (admitted addr m)
let-in addr m h =
    let new : Entry = fresh_entry (accepted m.next_id addr (m.now + m.settings.handshake)) in
    let n : Machine = (admitted addr m).machine in
    record {
      told = grind arith;
      turned_away = grind arith;
      stands = subst (λ o. OnEntry o (IsNew addr)) (sym (new-found m new h refl))
          (record { address = refl; inbound = refl; greeting = refl; agreed = refl; undecoded = refl; owed = refl });
    }

-- who is let in ends what this node has dialed
let-in_beside : (addr : Addr) (e : Entry) (m : Machine) → IsOrderly m → IsLetIn addr m (then_do (ending Overwritten e m) (admitted addr))
let-in_beside addr e m h =
    let n : Machine = (ending Overwritten e m).machine in
    let rest : IsLetIn addr n (admitted addr n) = let-in addr n (gone-orderly m e.facts.cid.0 h) in
    record { told = rest.told; turned_away = rest.turned_away; stands = rest.stands }

away : (cause : Away) (m : Machine) → IsTurnedAway cause m (turned_away cause m)
away cause m = record { told = refl; admitted = refl; same = refl }

-- ---- by the cause

by_live : (addr : Addr) (m : Machine) → IsOrderly m → (o : Option Entry) → live_entry_at addr m ≡ o →
    ByCause (if is_crossing addr m then (if address_below addr m.settings.own then None else Some Crossed) else (if is_present addr m then Some Present else None))
    addr m (accepted_beside o addr m)
by_live addr m h None is = grind (arith, crossing-found, present-found, let-in)
by_live addr m h (Some e) is =
    let at = find_some (λ x. is_live_at addr x.facts) m.connections e is in
    let here = (and_parts (same_address e.facts.addr addr) (is_live e.facts) at.passes).0 in
    let same : is_crossing addr m ≡ is_pending e.facts =
    crossing-found addr m h ∙ (ap (passes_of (λ x. same_address x.facts.addr addr && is_pending x.facts)) is ∙ ap (λ b. b && is_pending e.facts) here) in
    let there : is_present addr m ≡ true = present-found addr m h ∙ (ap (passes_of (λ x. is_live_at addr x.facts)) is ∙ at.passes) in
    rw (same, there) (grind (arith, let-in_beside addr e m h, away Crossed m, away Present m))

connects-admits : (addr : Addr) (m : Machine) → IsOrderly m → ByCause (cause_against addr m) addr m (peer_connects addr m)
connects-admits addr m h =
    grind (arith, away OwnAddr m, away Full m, by_live addr m h (live_entry_at addr m) refl)

-- ---- nothing else

pub admits-right : (act : Act) (m : Machine) → IsNext act m → Finds act m → AdmitsRight act m (does act m)
admits-right act m next found = grind (arith, asks-silent, connects-admits, part-silent, admitted-deaf, turned_away-deaf)
